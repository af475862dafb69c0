-- A character below 128 is in a text where its bit is set.
use Rattle.std.specs.Prelude.{◌≡◌, ℕ, ◌<◌, ◌≤◌, ◌^◌, Bool, true, false, cond, List, [], ◌∷◌, ◌||◌, max, nat_eq, nat_lt, ◌==◌, bit_or}
use Rattle.std.specs.Int.{bit_at}
use Rattle.std.specs.List.{list_any}
use Rattle.std.specs.Str.{chars, IsUtf8}
use Rattle.std.proofs.Common.{ap, sym, ◌∙◌, refl, arith, ⊎_elim}
use Rattle.std.proofs.lemmas.Bool.{cases_lt, cases_Bool, eqb-true, eqb-false}
use Rattle.std.proofs.lemmas.Bool.Decides.{nat_tests}
use Rattle.std.proofs.lemmas.Nat.Bits.{bit_at_or, bit_at-zero, bit_at-pow_same, bit_at-pow_other}
use Rattle.chumsky_parser.specs.CharBits.{byte_bit, more_bits, text_bits}
use Rattle.chumsky_parser.proofs.MembersLemmas.{ascii_in_text}

either_set : (a b : Bool) → max (cond a 1 0) (cond b 1 0) ≡ cond (a || b) 1 0
either_set true true = refl
either_set true false = refl
either_set false true = refl
either_set false false = refl

or-regroup : (a b c : Bool) → ((a || b) || c) ≡ (a || (b || c))
or-regroup true b c = refl
or-regroup false b c = refl

tests_one : (b : Bool) → (cond b 1 0 == 1) ≡ b
tests_one true = refl
tests_one false = refl

module _ (t : ℕ) (small : t < 128) where
  bit_tells : (b : ℕ) → bit_at (byte_bit b) t ≡ cond (nat_eq b t) 1 0
  bit_tells b = ⊎_elim low high (cases_lt b 128)
    where
      low : b < 128 → bit_at (byte_bit b) t ≡ cond (nat_eq b t) 1 0
      low l =
          let is : nat_lt b 128 ≡ true = grind (arith, nat_tests) in
          ap (λ x. bit_at (cond x (2 ^ b) 0) t) is
          ∙ ⊎_elim (λ e. rw e (rw (eqb-true b t e) (bit_at-pow_same t))) (λ e. rw e (bit_at-pow_other b t (λ f. eqb-false b t e (sym f)))) (cases_Bool (nat_eq b t))

      high : 128 ≤ b → bit_at (byte_bit b) t ≡ cond (nat_eq b t) 1 0
      high l =
          let is : nat_lt b 128 ≡ false = grind (arith, nat_tests) in
          let other : nat_eq b t ≡ false = grind (arith, nat_tests) in
          ap (λ x. bit_at (cond x (2 ^ b) 0) t) is ∙ bit_at-zero t ∙ sym (ap (λ x. cond x 1 0) other)

  bits_tell : (bs : List ℕ) (n : ℕ) (a : Bool) → bit_at n t ≡ cond a 1 0 → bit_at (more_bits n bs) t ≡ cond (a || list_any (λ x. nat_eq x t) bs) 1 0
  bits_tell [] n true e = e
  bits_tell [] n false e = e
  bits_tell (b ∷ bs) n a e =
      let here : bit_at (bit_or n (byte_bit b)) t ≡ cond (a || nat_eq b t) 1 0 = bit_at_or n (byte_bit b) t ∙ rw (e, bit_tells b) (either_set a (nat_eq b t)) in
      bits_tell bs (bit_or n (byte_bit b)) (a || nat_eq b t) here ∙ ap (λ x. cond x 1 0) (or-regroup a (nat_eq b t) (list_any (λ x. nat_eq x t) bs))

  pub bit_in_text : (bs : List ℕ) → IsUtf8 bs → (bit_at (text_bits bs) t == 1) ≡ list_any (λ x. nat_eq x t) (chars bs)
  bit_in_text bs u = ap (λ n. n == 1) (bits_tell bs 0 false (bit_at-zero t)) ∙ tests_one (list_any (λ x. nat_eq x t) bs) ∙ ascii_in_text t small bs u
