-- What the picker of a unit answers.
use Rattle.std.proofs.Common.{◌≡◌, ℕ, ◌<◌, ◌&&◌, true, false, nat_lt, nat_le, Option, Some, None, refl, ap, arith, inl, inr}
use Rattle.std.specs.Option.{SomeIff, MatchOption}
use Rattle.std.specs.Char.{IsScalar, InScalarRange, OutOfScalarRange}
use Rattle.std.specs.Char.Utf16.{lone_unit_char}
use Rattle.std.proofs.lemmas.Bool.Decides.{nat_tests}

-- a unit is a character unless it is in a pair
pub lone-from : (r : Option ℕ) (u : ℕ) → u < 65536 → SomeIff r (IsScalar u) u → MatchOption r (OutOfScalarRange u) (λ _. InScalarRange u) → r ≡ lone_unit_char u
lone-from (Some x) u b v (inl l) = let e : (nat_le 0xD800 u && nat_lt u 0xE000) ≡ false = grind (arith, nat_tests) in rw e (ap (λ z. Some z) v.1)
lone-from (Some x) u b v (inr r) = let l = r.0 in let e : (nat_le 0xD800 u && nat_lt u 0xE000) ≡ false = grind (arith, nat_tests) in rw e (ap (λ z. Some z) v.1)
lone-from None u b v (inl r) = let l = r.0 in let h = r.1 in let e : (nat_le 0xD800 u && nat_lt u 0xE000) ≡ true = grind (arith, nat_tests) in rw e refl
lone-from None u b v (inr l) = absurd (omega (arith, b, l))
