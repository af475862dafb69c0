-- Numbers that so many bits hold, as `text::int(10).pick_by(text::decimal::<u32>())` reads them.
-- Main words: IsUnsigned. Main laws: int-unsigned, picked-unsigned, unsigned-int, no_digit-stops. Read first: Decimals.antt of chumsky_text.
use Rattle.std.proofs.Common.{◌≡◌, ℕ, ◌<◌, ◌^◌, Bool, true, false, cond, nat_eq, Option, Some, None, List, [], ◌∷◌, refl, sym, subst}
use Rattle.std.specs.Char.{is_digit}
use Rattle.std.specs.Str.{encode_utf8_all}
use Rattle.std.specs.Str.Parse.{digits_value}
use Rattle.chumsky_parser.specs.Words.{StopsAt}
use Rattle.chumsky_judge.specs.Picked.{IsPick}
use Rattle.chumsky_text.specs.Decimals.{IsDecimal, IsInt, unsigned_of, int-decimal, decimal-int, numeral-value, numeral-fits, is_pick}

-- decimal digits, with no zero before another, that write a number; and so many bits hold it
pub record IsUnsigned (bits : ℕ) (w : List ℕ) (n : ℕ) : Type 0 where
  pub digits : IsDecimal w
  pub value : n ≡ digits_value 10 w
  pub fits : n < 2 ^ bits

module _ (bits : ℕ) (w : List ℕ) (n : ℕ) where
  -- what is picked of a word is its number
  pub int-unsigned : IsInt w × (unsigned_of bits (encode_utf8_all w) ≡ Some n) → IsUnsigned bits w n
  int-unsigned h =
      let d = int-decimal w h.0 in
      let v = numeral-value bits w n d.0 h.1 in
      record { digits = d; value = v.0; fits = subst (λ z. z < 2 ^ bits) (sym v.0) v.1 }

  -- and each number that fits is picked
  pub unsigned-int : IsUnsigned bits w n → IsInt w × IsPick (unsigned_of bits (encode_utf8_all w))
  unsigned-int i = (decimal-int w i.digits, is_pick bits (unsigned_of bits (encode_utf8_all w)) (digits_value 10 w) (numeral-fits bits w i.digits.0 (subst (λ z. z < 2 ^ bits) i.value i.fits)))

-- where one is picked, it is some number
pub picked-unsigned : (bits : ℕ) (w : List ℕ) → IsInt w × IsPick (unsigned_of bits (encode_utf8_all w)) → (n : ℕ) × IsUnsigned bits w n
picked-unsigned bits w h = by_pick (unsigned_of bits (encode_utf8_all w)) refl h.1
  where
    by_pick : (x : Option ℕ) → unsigned_of bits (encode_utf8_all w) ≡ x → IsPick x → (n : ℕ) × IsUnsigned bits w n
    by_pick (Some n) e p = (n, int-unsigned bits w n (h.0, e))
    by_pick None e p = absurd p

-- where no digit follows, none goes on with a number
pub no_digit-stops : (t : ℕ) (rest : List ℕ) → StopsAt (λ c. is_digit c 10) rest → StopsAt (λ c. cond (nat_eq t 48) false (is_digit c 10)) rest
no_digit-stops t [] s = tt
no_digit-stops t (c ∷ cs) s = by_zero (nat_eq t 48)
  where
    by_zero : (z : Bool) → cond z false (is_digit c 10) ≡ false
    by_zero true = refl
    by_zero false = s
