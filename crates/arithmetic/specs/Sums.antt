-- Sums: how they are written, and what they come to.
-- Main word: IsSum. Read first: Steps.antt.
use Rattle.std.specs.Prelude.{◌≡◌, ℕ, ℤ, pos, ◌<◌, ◌^◌, Bool, true, ◌==◌, ◌||◌, Option, Some, None, List, ◌∷◌, ◌++◌, []}
use Rattle.std.specs.Char.{is_whitespace}
use Rattle.std.specs.Option.{SomeIff}
use Rattle.std.specs.Str.Parse.{IsNumeral, digits_value}
use Rattle.chumsky_parser.specs.Words.{AllPass}
use Rattle.arithmetic.specs.Steps.{signed, CanSign, made_by, CanMake}

-- what a sign makes of what stands before and after it: none of none, and none that can't be worked out
abbrev pub IsMade : Option ℤ → ℕ → Option ℤ → Option ℤ → Type 0
IsMade (Some a) sign (Some b) z = SomeIff z (CanMake sign a b) (made_by sign a b)
IsMade (Some a) sign None z = z ≡ None
IsMade None sign y z = z ≡ None

-- what a minus (45) makes of the part after it
abbrev pub IsNegative : Option ℤ → Option ℤ → Type 0
IsNegative (Some a) z = SomeIff z (CanSign 45 a) (signed 45 a)
IsNegative None z = z ≡ None

-- the signs of sums, `+` (43) and `-` (45), and those of products, `*` (42), `/` (47) and `%` (37)
abbrev pub adds : ℕ → Bool
adds c = (c == 43) || (c == 45)

abbrev pub multiplies : ℕ → Bool
multiplies c = (c == 42) || ((c == 47) || (c == 37))

-- white space
abbrev pub AreBlanks : List ℕ → Type 0
AreBlanks = AllPass is_whitespace

mutual
  -- a sum is a product; or a sum, a plus or minus, and a product: what the sign makes of the two
  pub data IsSum : List ℕ → Option ℤ → Type 0 where
    one_product : {w : List ℕ} {x : Option ℤ} → IsProduct w x → IsSum w x
    more_products : {u w : List ℕ} {x y z : Option ℤ} (sign : ℕ) → adds sign ≡ true → IsSum u x → IsProduct w y → IsMade x sign y z → IsSum (u ++ (sign ∷ w)) z

  -- a product is a part; or a product, another sign, and a part
  pub data IsProduct : List ℕ → Option ℤ → Type 0 where
    one_part : {w : List ℕ} {x : Option ℤ} → IsPart w x → IsProduct w x
    more_parts : {u w : List ℕ} {x y z : Option ℤ} (sign : ℕ) → multiplies sign ≡ true → IsProduct u x → IsPart w y → IsMade x sign y z → IsProduct (u ++ (sign ∷ w)) z

  -- a part is digits, if an `i64` holds their number; a minus and a part; a sum between brackets (40 and 41); or a part with blanks
  -- before it or after it
  pub data IsPart : List ℕ → Option ℤ → Type 0 where
    number : {w : List ℕ} {x : Option ℤ} → IsNumeral 10 w → SomeIff x (digits_value 10 w < 2 ^ 63) (pos (digits_value 10 w)) → IsPart w x
    negative : {w : List ℕ} {x y : Option ℤ} → IsPart w x → IsNegative x y → IsPart (45 ∷ w) y
    brackets : {w : List ℕ} {x : Option ℤ} → IsSum w x → IsPart (40 ∷ (w ++ (41 ∷ []))) x
    after_blanks : {w : List ℕ} {x : Option ℤ} (b : List ℕ) → AreBlanks b → IsPart w x → IsPart (b ++ w) x
    before_blanks : {w : List ℕ} {x : Option ℤ} (b : List ℕ) → AreBlanks b → IsPart w x → IsPart (w ++ b) x

-- a text comes to nothing else
abbrev pub ComesOnlyTo : List ℕ → Option ℤ → Type 0
ComesOnlyTo cs x = (y : Option ℤ) → IsSum cs y → y ≡ x

-- the number that a text comes to
abbrev pub HasTotal : List ℕ → ℤ → Type 0
HasTotal cs n = IsSum cs (Some n)
