-- Numbers of so many digits, within bounds.
-- Main words: IsField. Main laws: field, picks, fixed-within. Read first: Decimals.antt of chumsky_text.
use Rattle.std.proofs.Common.{◌≡◌, ℕ, ◌<◌, ◌≤◌, ◌^◌, Bool, true, false, cond, nat_eq, nat_le, ◌&&◌, Option, Some, None, List, length, refl, arith}
use Rattle.std.proofs.lemmas.Bool.Decides.{nat_tests}
use Rattle.std.specs.Str.{encode_utf8_all}
use Rattle.std.specs.Str.Parse.{IsNumeral, digits_value}
use Rattle.chumsky_judge.specs.Picked.{IsPick}
use Rattle.chumsky_text.specs.Decimals.{IsDigits, digits-numeral, numeral-digits, bounded, unsigned_of, fixed_of, fixed-value, fixed-fits}

-- a number of just so many digits, within bounds
pub record IsField (digits least most : ℕ) (w : List ℕ) (n : ℕ) : Type 0 where
  pub numeral : IsNumeral 10 w
  pub so_many : length w ≡ digits
  pub value : n ≡ digits_value 10 w
  pub from : least ≤ n
  pub to : n ≤ most

-- digits of which a number is picked
abbrev pub Picked : ℕ → ℕ → ℕ → ℕ → List ℕ → Type 0
Picked digits least most n w = IsDigits w × (fixed_of digits least most (encode_utf8_all w) ≡ Some n)

abbrev pub Picks : ℕ → ℕ → ℕ → List ℕ → Type 0
Picks digits least most w = IsDigits w × IsPick (fixed_of digits least most (encode_utf8_all w))

-- the digits are a field
pub field : (digits least most : ℕ) (w : List ℕ) (n : ℕ) → Picked digits least most n w → IsField digits least most w n
field digits least most w n p =
    let h = digits-numeral w p.0 in
    let v = fixed-value digits least most w n h p.1 in
    record { numeral = h; so_many = v.0; value = v.1; from = v.2; to = v.3 }

-- and of a field its number is picked
pub picks : (digits least most : ℕ) (w : List ℕ) (n : ℕ) → most < 2 ^ 32 → IsField digits least most w n → Picks digits least most w
picks digits least most w n l f =
    let a = f.from in
    let b = f.to in
    let e = f.value in
    (numeral-digits w f.numeral, fixed-fits digits least most w f.numeral f.so_many (omega (arith, a, e)) (omega (arith, b, e)) l)

-- a number that is picked is within the bounds
pub fixed-within : (digits least most : ℕ) (bytes : List ℕ) (n : ℕ) → fixed_of digits least most bytes ≡ Some n → (least ≤ n) × (n ≤ most)
fixed-within digits least most bytes n e = by_length (nat_eq (length bytes) digits) e
  where
    by_bounds : (m : ℕ) (a b : Bool) → nat_le least m ≡ a → nat_le m most ≡ b → cond (a && b) (Some m) None ≡ Some n → (least ≤ n) × (n ≤ most)
    by_bounds m true true a b g = let s : m ≡ n = cc g in (grind (arith, nat_tests), grind (arith, nat_tests))
    by_bounds m true false a b g = absurd (cc g)
    by_bounds m false b a c g = absurd (cc g)

    by_number : (x : Option ℕ) → bounded least most x ≡ Some n → (least ≤ n) × (n ≤ most)
    by_number None g = absurd (cc g)
    by_number (Some m) g = by_bounds m (nat_le least m) (nat_le m most) refl refl g

    by_length : (c : Bool) → cond c (bounded least most (unsigned_of 32 bytes)) None ≡ Some n → (least ≤ n) × (n ≤ most)
    by_length true g = by_number (unsigned_of 32 bytes) g
    by_length false g = absurd (cc g)
