use Rattle.std.proofs.Common.{◌≤◌, [], sym, subst, arith}
use Rattle.std.specs.Str.{chars}
use Rattle.chumsky.specs.AcceptedLaws.{unless-by_words, refused-long}
use Rattle.exact.specs.Expressions.{HoldsExpression, IsExpression, form_of, levels}
use Rattle.exact.specs.ExpressionsLaws.{expressions-intended}
use Rattle.exact.specs.ExpressionsLevelsLaws.{refused-deep}
use Rattle.exact.specs.WrittenLaws.{written-is, expression-once, gives_back-unless}
use Rattle.exact.proofs.expressions.parse_expression.Goals as goal

pub returns : goal.returns
returns c =
    let cs = chars c.args.text.now in
    let i = expressions-intended c.args.limit in
    let a = rw c.recursive_as.ensures.depth at (c.parse.ensures.3.reads (expressions-intended c.recursive_as.result.depth).said) in
    let long = refused-long a c.args.limit i.refused in
    record {
      exact = unless-by_words HoldsExpression a (λ r. refused-deep c.args.limit cs r (long r)) i.unambiguous (i.follows [] tt) (λ v w s. i.given cs v s) (λ v t. i.each cs (form_of v, t));
      read_back = λ f h e l.
          let t : IsExpression cs f = subst (λ z. IsExpression z f) (sym e) (written-is f h) in
          gives_back-unless form_of f a (λ r. let m : c.args.limit ≤ levels f = (refused-deep c.args.limit cs r (long r)).nested f t in omega (arith, l, m)) i.unambiguous (i.follows [] tt) (i.each cs (f, t)) (λ v s. expression-once cs (form_of v) f (i.given cs v s) t);
    }
