-- Characters of a line, taken off a text.
use Rattle.std.specs.Prelude.{◌≡◌, ℕ, false, List, [], ◌∷◌, ◌++◌, take, drop, reverse}
use Rattle.std.specs.Char.{encode_utf8}
use Rattle.std.specs.Str.{chars}
use Rattle.chumsky_report.specs.Line.{is_line_end}
use Rattle.chumsky_report.specs.Window.{of_line}

-- the text without its last character, which ends no line
pub record WithoutLast (text left : List ℕ) : Type 0 where
  pub last : ℕ
  pub no_end : is_line_end last ≡ false
  pub spelled : chars text ≡ chars left ++ last ∷ []
  pub whole : text ≡ left ++ encode_utf8 last

-- the text without its first character, which ends no line
pub record WithoutFirst (text left : List ℕ) : Type 0 where
  pub first : ℕ
  pub no_end : is_line_end first ≡ false
  pub spelled : chars text ≡ first ∷ chars left
  pub whole : text ≡ encode_utf8 first ++ left

-- the text without the last n characters of its last line
pub record CutsBehind (text : List ℕ) (n : ℕ) (left : List ℕ) : Type 0 where
  pub spelled : chars text ≡ chars left ++ reverse (take n (of_line (reverse (chars text))))
  pub others : of_line (reverse (chars left)) ≡ drop n (of_line (reverse (chars text)))
  pub taken : List ℕ
  pub whole : text ≡ left ++ taken

-- the text without the first n characters of its first line
pub record CutsAhead (text : List ℕ) (n : ℕ) (left : List ℕ) : Type 0 where
  pub spelled : chars text ≡ take n (of_line (chars text)) ++ chars left
  pub others : of_line (chars left) ≡ drop n (of_line (chars text))
  pub taken : List ℕ
  pub whole : text ≡ taken ++ left
