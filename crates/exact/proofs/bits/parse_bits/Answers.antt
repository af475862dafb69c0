use Rattle.std.proofs.Common.{◌≡◌, ℕ, true, nat_eq, refl, ◌∙◌, arith, rules, inl, inr}
use Rattle.std.specs.Prelude.{codes}
use Rattle.std.specs.Str.{chars}
use Rattle.chumsky_primitive.specs.OneOf.{among}
use Rattle.chumsky.specs.AcceptedLaws.{exactly-by_words}
use Rattle.chumsky_exact.specs.Members.{among-each, pass-each, each-pass}
use Rattle.chumsky_exact.specs.Rendered.{tokens-written, written-tokens}
use Rattle.exact.specs.Bits.{IsBit, IsBits}
use Rattle.exact.proofs.bits.parse_bits.Goals as goal

is-bit : (c : ℕ) → IsBit c → among nat_eq (codes "01") c ≡ true
is-bit c (inl e) = rw e refl
is-bit c (inr e) = rw e refl

pub returns : goal.returns
unfolding chars
returns c =
    let cs = chars c.args.text.now in
    let a = rw (c.collect.ensures.parser, c.at_least-bits.ensures, c.repeated.ensures.parser, c.repeated.ensures.at_most, c.one_of.ensures) at (c.parse.ensures.3.reads refl) in
    exactly-by_words IsBits a refl (search rules) (tt, inr tt)
    (λ v w s. (
    let t = tokens-written (among nat_eq (codes "01")) 1 s.items cs s.is in
    record { held = s.held ∙ t.0; bits = pass-each (among-each IsBit (codes "01") (inl refl, (inr refl, tt))) cs t.1; some = omega (arith, t.2) }))
    (λ v i. written-tokens (among nat_eq (codes "01")) 1 cs (each-pass is-bit cs i.bits) (omega (arith, i.some)))
