use Rattle.std.proofs.Common.{refl}
use Rattle.std.specs.Prelude.{[]}
use Rattle.std.specs.Str.{chars}
use Rattle.chumsky.specs.AcceptedLaws.{exactly-by_words}
use Rattle.exact.specs.JsonNumbers.{HoldsNumber}
use Rattle.exact.specs.JsonNumbersLaws.{number-sound, number-complete, number-follow, number-unambiguous}
use Rattle.exact.proofs.json_number.parse_number_text.Goals as goal

pub returns : goal.returns
returns c =
    let cs = chars c.args.text.now in
    exactly-by_words HoldsNumber (c.parse.ensures.3.reads refl) refl number-unambiguous (number-follow [] tt) (λ v w s. number-sound cs v s) (λ v i. number-complete i.0)
