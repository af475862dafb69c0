-- Addresses of four numbers below 256, and how they are written.
-- Main words: IsByte, IsAddress, address_expression. Read first: Decimals.antt of chumsky_text.
use Rattle.std.specs.Prelude.{◌≡◌, ℕ, ◌+◌, ◌*◌, ◌<◌, Option, List, ◌∷◌, ◌++◌}
use Rattle.std.specs.Str.{encode_utf8_all}
use Rattle.std.specs.Str.Parse.{digits_value}
use Rattle.chumsky_text.specs.Decimals.{IsDecimal, unsigned_of}
use Rattle.chumsky_grammars.specs.Expression.{Expression, Leaf, Then, TryMap}

-- decimal digits, with no zero before another, that write this number, which is below 256
pub record IsByte (text : List ℕ) (n : ℕ) : Type 0 where
  pub digits : IsDecimal text
  pub value : n ≡ digits_value 10 text
  pub fits : n < 256

-- four of them, with a dot between each two; the first is the highest byte of the address
pub data IsAddress : List ℕ → ℕ → Type 0 where
  four : {a b c d : List ℕ} {k l m n : ℕ} → IsByte a k → IsByte b l → IsByte c m → IsByte d n → IsAddress (((a ++ (46 ∷ b)) ++ (46 ∷ c)) ++ (46 ∷ d)) (((k * 256 + l) * 256 + m) * 256 + n)

-- the number below 256 that these digits write, if they write one
abbrev pub byte_of : List ℕ → Option ℕ
byte_of w = unsigned_of 8 (encode_utf8_all w)

-- a number that the mapper doesn't refuse
abbrev pub byte : Expression
byte = TryMap (Leaf 0) 0

-- N ("." N) ("." N) ("." N)
abbrev pub address_expression : Expression
address_expression = Then (Then (Then byte (Then (Leaf 1) byte 0) 0) (Then (Leaf 1) byte 0) 0) (Then (Leaf 1) byte 0) 0
