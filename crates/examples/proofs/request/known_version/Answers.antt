use Rattle.std.proofs.Common.{◌≡◌, refl}
use Rattle.std.specs.Prelude.{map}
use Rattle.std.specs.Str.{chars}
use Rattle.chumsky_exact.specs.TableLaws.{word-spelled, choice-of_table}
use Rattle.examples.specs.Request.{versions}
use Rattle.examples.proofs.request.known_version.Goals as goal

pub returns : goal.returns
unfolding chars
returns c =
    let ws = c.choice.result.parsers in
    let e : map (λ x. (chars x.parser.seq.now, x.value)) ws ≡ versions = rw (c.choice.ensures, c.word.ensures.text, c.word.ensures.value, c.word-2.ensures.text, c.word-2.ensures.value) refl in
    choice-of_table ws versions (λ x. chars x.parser.seq.now) (λ x. x.value) (λ x. word-spelled {S = Unit {0}} _ _ (λ s. Unit {0}) _ _) e refl
