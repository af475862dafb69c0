-- How JSON is written without blanks, where a string has escapes only for what needs one.
-- Main words: written, AreNumbers. Laws: JsonWrittenLaws.antt. Read first: JsonForms.antt.
use Rattle.std.specs.Prelude.{ℕ, zero, suc, ◌/◌, ◌%◌, ◌==◌, ◌||◌, nat_lt, cond, true, false, Option, Some, None, List, [], ◌∷◌, ◌++◌, drop, flat_map, codes, ⊤}
use Rattle.std.specs.Char.{digit_char}
use Rattle.exact.specs.JsonForms.{Form, null, truth, number, string, array, object, Forms, no_forms, form, Members, no_members, member}
use Rattle.exact.specs.JsonNumbers.{IsNumberText}

-- the letter of a character's short escape: a quote and a backslash have themselves
abbrev pub letter_of : ℕ → Option ℕ
letter_of c = cond ((c == 34) || (c == 92)) (Some c) (cond (c == 8) (Some 98) (cond (c == 12) (Some 102) (cond (c == 10) (Some 110) (cond (c == 13) (Some 114) (cond (c == 9) (Some 116) None)))))

-- a backslash (92) and the letter; without one, a control character is `\u00` and two hexadecimal digits, and any other is itself
abbrev pub text_by : Option ℕ → ℕ → List ℕ
text_by (Some e) c = 92 ∷ e ∷ []
text_by None c = cond (nat_lt c 32) (92 ∷ 117 ∷ 48 ∷ 48 ∷ digit_char (c / 16) ∷ digit_char (c % 16) ∷ []) (c ∷ [])

-- what stands in a string for a character
abbrev pub character_text : ℕ → List ℕ
character_text c = text_by (letter_of c) c

-- characters between quotes (34)
abbrev pub string_text : List ℕ → List ℕ
string_text cs = 34 ∷ (flat_map character_text cs ++ 34 ∷ [])

abbrev mutual
  -- how a value is written: a number as it stands
  pub written : Form → List ℕ
  written null = codes "null"
  written (truth true) = codes "true"
  written (truth false) = codes "false"
  written (number cs) = cs
  written (string cs) = string_text cs
  written (array fs) = codes "[" ++ (drop 1 (elements_written fs) ++ codes "]")
  written (object ms) = codes "{" ++ (drop 1 (members_written ms) ++ codes "}")

  -- elements and members, with a comma before each
  pub elements_written : Forms → List ℕ
  elements_written no_forms = []
  elements_written (form f fs) = codes "," ++ (written f ++ elements_written fs)

  pub members_written : Members → List ℕ
  members_written no_members = []
  members_written (member cs f ms) = codes "," ++ (((string_text cs ++ codes ":") ++ written f) ++ members_written ms)

-- what is written before the item of an index: a comma, but none before the first
abbrev pub comma_before : ℕ → List ℕ
comma_before zero = []
comma_before (suc i) = codes ","

abbrev mutual
  -- each number in it is one of JSON
  pub AreNumbers : Form → Type 0
  AreNumbers null = ⊤
  AreNumbers (truth b) = ⊤
  AreNumbers (number cs) = IsNumberText cs
  AreNumbers (string cs) = ⊤
  AreNumbers (array fs) = AreNumbersEach fs
  AreNumbers (object ms) = AreNumbersIn ms

  pub AreNumbersEach : Forms → Type 0
  AreNumbersEach no_forms = ⊤
  AreNumbersEach (form f fs) = AreNumbers f × AreNumbersEach fs

  pub AreNumbersIn : Members → Type 0
  AreNumbersIn no_members = ⊤
  AreNumbersIn (member cs f ms) = AreNumbers f × AreNumbersIn ms
