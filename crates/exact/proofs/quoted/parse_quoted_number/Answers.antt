use Rattle.std.proofs.Common.{◌≡◌, refl, rules}
use Rattle.std.specs.Str.{chars}
use Rattle.chumsky_exact.specs.Answered.{answers-by_words}
use Rattle.chumsky_exact.specs.Numerals.{int-unsigned, unsigned-int}
use Rattle.chumsky_exact.specs.Quiet.{vetted-quiet, word-quiet}
use Rattle.exact.specs.Quoted.{IsQuotedNumber}
use Rattle.exact.specs.QuotedLaws.{quoted-sound}
use Rattle.exact.proofs.quoted.parse_quoted_number.Goals as goal

pub returns : goal.returns
returns c =
    let ts = c.args.tokens.now in
    let ten : c.pick_by-number.result.picked.parser.kind.radix ≡ 10 = rw c.pick_by-number.ensures.parser c.int.ensures in
    let a = rw (c.nested.ensures.inner, ten) at (c.parse.ensures.3.reads refl) in
    let both = answers-by_words IsQuotedNumber a (search rules)
    (search rules, search rules, ((search rules, search rules), vetted-quiet _ _ _ _ (word-quiet _ _ _ _ _ _ _ _))) refl (tt, tt, λ t. tt) tt
    (λ v w s. record { text = s.0; all = quoted-sound ts s.0 s.1.0 s.1.1; number = int-unsigned 32 (chars s.0.now) v s.2 })
    (λ v i. (i.text, rw i.all (record { token = _; all = refl; passes = refl; is = tt }, tt), rw i.all refl, unsigned-int 32 (chars i.text.now) v i.number)) in
    record { exact = both.0; answered = both.1 }
