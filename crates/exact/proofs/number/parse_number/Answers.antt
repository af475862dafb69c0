use Rattle.std.proofs.Common.{◌≡◌, refl, rules}
use Rattle.std.specs.Str.{chars}
use Rattle.chumsky_exact.specs.Answered.{answers-by_words}
use Rattle.chumsky_exact.specs.Numerals.{int-unsigned, unsigned-int}
use Rattle.exact.specs.Number.{IsNumber}
use Rattle.exact.proofs.number.parse_number.Goals as goal

pub returns : goal.returns
returns c =
    let cs = chars c.args.text.now in
    let ten : c.pick_by.result.picked.parser.kind.radix ≡ 10 = rw c.pick_by.ensures.parser c.int-digits.ensures in
    let a = rw ten at (c.parse.ensures.3.reads refl) in
    let both = answers-by_words IsNumber a (search rules) (search rules) refl tt (λ t. tt) (λ v w s. int-unsigned 32 cs v s) (λ v i. unsigned-int 32 cs v i) in
    record { exact = both.0; answered = both.1 }
