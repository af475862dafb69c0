-- How JSON writes numbers, after RFC 8259.
-- Main words: IsNumberText, HoldsNumber. Laws: JsonNumbersOnce.antt, JsonNumbersLaws.antt.
use Rattle.std.specs.Prelude.{◌≡◌, ℕ, ◌||◌, ◌==◌, true, Bool, List, [], ◌∷◌, ◌++◌, codes, String, string_bytes}
use Rattle.std.specs.Char.{is_digit}
use Rattle.std.specs.Str.{chars}
use Rattle.std.specs.declared.alloc.Global.{Global}
use Rattle.chumsky_parser.specs.Words.{AllPass}
use Rattle.chumsky_text.specs.Decimals.{IsInt}

-- digits, one at least
pub data AreDigits : List ℕ → Type 0 where
  digits : (d : ℕ) (ds : List ℕ) → AllPass (λ c. is_digit c 10) (d ∷ ds) → AreDigits (d ∷ ds)

-- a minus, or nothing
pub data IsMinus : List ℕ → Type 0 where
  no_minus : IsMinus []
  minus : IsMinus (codes "-")

-- a plus or a minus, or nothing
pub data IsSign : List ℕ → Type 0 where
  no_sign : IsSign []
  plus_sign : IsSign (codes "+")
  minus_sign : IsSign (codes "-")

-- a point and digits, or nothing
pub data IsFraction : List ℕ → Type 0 where
  no_fraction : IsFraction []
  fraction : {w : List ℕ} → AreDigits w → IsFraction (codes "." ++ w)

-- an `e` (101) or `E` (69), a sign and digits, or nothing
pub data IsExponent : List ℕ → Type 0 where
  no_exponent : IsExponent []
  exponent : {s w : List ℕ} (e : ℕ) → ((e == 101) || (e == 69)) ≡ true → IsSign s → AreDigits w → IsExponent (e ∷ (s ++ w))

-- a number: a minus, digits with no zero before another, a fraction and an exponent
pub data IsNumberText : List ℕ → Type 0 where
  is_number_text : {m f e : List ℕ} (i : List ℕ) → IsMinus m → IsInt i → IsFraction f → IsExponent e → IsNumberText (m ++ (i ++ (f ++ e)))

-- the text is a number, and the value is that text
abbrev pub HoldsNumber : List ℕ → String Global → Type 0
HoldsNumber text value = IsNumberText text × (chars (string_bytes value) ≡ text)

-- what a number begins with: a digit, or a minus (45)
abbrev pub begins_number : ℕ → Bool
begins_number c = is_digit c 10 || (c == 45)

-- what a number may go on with: a digit, a point (46), `e` or `E`
abbrev pub number_goes_on : ℕ → Bool
number_goes_on c = is_digit c 10 || ((c == 46) || ((c == 101) || (c == 69)))
