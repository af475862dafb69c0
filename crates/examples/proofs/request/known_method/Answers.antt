use Rattle.std.proofs.Common.{◌≡◌, refl}
use Rattle.std.specs.Prelude.{map}
use Rattle.std.specs.Str.{chars}
use Rattle.chumsky_exact.specs.TableLaws.{word-spelled, choice-of_table}
use Rattle.examples.specs.Request.{methods}
use Rattle.examples.proofs.request.known_method.Goals as goal

pub returns : goal.returns
unfolding chars
returns c =
    let ws = c.choice.result.parsers in
    let e : map (λ x. (chars x.parser.seq.now, x.value)) ws ≡ methods = rw (c.choice.ensures, c.word.ensures.text, c.word.ensures.value, c.word-2.ensures.text, c.word-2.ensures.value, c.word-3.ensures.text, c.word-3.ensures.value, c.word-4.ensures.text, c.word-4.ensures.value, c.word-5.ensures.text, c.word-5.ensures.value) refl in
    choice-of_table ws methods (λ x. chars x.parser.seq.now) (λ x. x.value) (λ x. word-spelled {S = Unit {0}} _ _ (λ s. Unit {0}) _ _) e refl
