-- What the parsers of a string's characters pick: of a value, and of the word that stands for it.
-- Main words: plain_of, lone_of, high_of, low_of, JoinsPair. Laws: JsonPicksLaws.antt. Read first: JsonStrings.antt.
use Rattle.std.specs.Prelude.{◌≡◌, ℕ, Bool, true, cond, Option, Some, None, List, [], ◌∷◌}
use Rattle.std.specs.Char.Utf16.{lone_unit_char, is_high_surrogate, is_low_surrogate, surrogate_pair_char}
use Rattle.exact.specs.JsonStrings.{is_plain, unit_of}

-- a character that stands for itself
abbrev pub plain_of : ℕ → Option ℕ
plain_of c = cond (is_plain c) (Some c) None

-- what is picked of a word of one character
abbrev pub of_one : (ℕ → Option ℕ) → List ℕ → Option ℕ
of_one pick (c ∷ []) = pick c
of_one pick _ = None

-- the four characters of a value
abbrev pub digits_of : ((ℕ × ℕ) × ℕ) × ℕ → List ℕ
digits_of v = v.0.0.0 ∷ v.0.0.1 ∷ v.0.1 ∷ v.1 ∷ []

-- a unit that passes
abbrev pub passing : (ℕ → Bool) → Option ℕ → Option ℕ
passing test (Some u) = cond (test u) (Some u) None
passing test None = None

-- the character of a unit that is in no pair
abbrev pub lone : Option ℕ → Option ℕ
lone (Some u) = lone_unit_char u
lone None = None

-- the same of the digits that write the unit
abbrev pub lone_of : List ℕ → Option ℕ
lone_of ds = lone (unit_of ds)

-- and the units that begin and end a pair
abbrev pub high_of : List ℕ → Option ℕ
high_of ds = passing is_high_surrogate (unit_of ds)

abbrev pub low_of : List ℕ → Option ℕ
low_of ds = passing is_low_surrogate (unit_of ds)

-- of a pair c is the character
abbrev pub JoinsPair : ℕ → ℕ → ℕ → Type 0
JoinsPair high low c = is_high_surrogate high ≡ true → is_low_surrogate low ≡ true → c ≡ surrogate_pair_char high low
