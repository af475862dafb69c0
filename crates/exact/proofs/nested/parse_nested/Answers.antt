use Rattle.std.proofs.Common.{suc, refl, ap, ◌∙◌, rules}
use Rattle.std.specs.Str.{chars}
use Rattle.chumsky_exact.specs.ByCalls.{unless-by_calls}
use Rattle.exact.specs.Nested.{nested, IsNested}
use Rattle.exact.specs.NestedLaws.{calls, sound, taken, whole, said, sparing}
use Rattle.exact.proofs.nested.parse_nested.Goals as goal

pub returns : goal.returns
returns c =
    let reads = rw c.recursive_as.ensures.depth at c.parse.ensures.3.reads in
    record {
      exact = unless-by_calls IsNested c.args.limit nested (λ n. suc n) reads (λ l s m. (rw s refl, refl)) (λ v w s. sound c.args.limit (chars c.args.text.now) v w) (λ v i. (i.around, i.is)) taken;
      answered = λ n l e. (reads (said c.args.limit)).answered (search rules) (sparing c.args.limit) (ap (calls c.args.limit).ends e ∙ whole n c.args.limit l);
    }
