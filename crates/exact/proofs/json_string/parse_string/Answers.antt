use Rattle.std.proofs.Common.{refl}
use Rattle.std.specs.Str.{chars}
use Rattle.chumsky.specs.AcceptedLaws.{exactly-by_words}
use Rattle.exact.specs.JsonStrings.{HoldsString}
use Rattle.exact.specs.JsonStringsLaws.{string-sound, string-complete, string-unambiguous}
use Rattle.exact.proofs.json_string.parse_string.Goals as goal

pub returns : goal.returns
returns c =
    let cs = chars c.args.text.now in
    let a = c.parse.ensures.3.reads refl in
    exactly-by_words HoldsString a refl string-unambiguous tt (λ v w s. string-sound cs v s) (λ v i. string-complete i)
