use Rattle.std.specs.Prelude.{[]}
use Rattle.std.specs.Str.{chars}
use Rattle.chumsky.specs.AcceptedLaws.{unless-by_words}
use Rattle.formulas.specs.Formula.{IsNestedFormula}
use Rattle.formulas.specs.NestedLaws.{nested-intended}
use Rattle.formulas.specs.RefusedLaws.{refused-nested}
use Rattle.formulas.proofs.nested.parse_nested_formula.Goals as goal

pub returns : goal.returns
returns c =
    let cs = chars c.args.text.now in
    let i = nested-intended c.args.limit in
    let a = rw c.recursive_as.ensures.depth at (c.parse.ensures.3.reads (nested-intended c.recursive_as.result.depth).said) in
    unless-by_words IsNestedFormula a (refused-nested c.args.limit cs) i.unambiguous (i.follows [] tt) (λ v w s. i.given cs v s) (λ v t. i.each cs (v, t))
