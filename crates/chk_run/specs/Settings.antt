-- What is printed of the values of the grammar `settings`.
use Rattle.std.specs.Prelude.{◌≡◌, ℕ, ◌^◌, ◌<◌, List, [], ◌++◌, ◌⊎◌, Some, Result, Ok, Err, codes, decimal, nat_eq}
use Rattle.std.specs.Bool.{MatchBool}
use Rattle.std.specs.Char.{encode_utf8}
use Rattle.std.specs.Str.Parse.{IsNumeral, digits_value, without_leading_plus}
use Rattle.chumsky_input.specs.Rich.{rich_span, rich_message}
use Rattle.chumsky_input.specs.declared.rich.Rich.{Rich}
use Rattle.chumsky_input.specs.declared.span.SimpleSpan.{SimpleSpan}
use Rattle.chk_run.specs.Texts.{text_bytes}
use Rattle.chk_run.specs.declared.texts.Text.{Text}

-- values that end in a comma each: in brackets, and without the last comma
abbrev pub InBrackets : List ℕ → List ℕ → Type 0
InBrackets values text = ((values ≡ []) × (text ≡ codes "[]")) ⊎ ((inside : List ℕ) × (comma : ℕ) × (values ≡ inside ++ encode_utf8 comma) × (text ≡ codes "[" ++ (inside ++ codes "]")))

-- by the mapper's number: a name before its value, a value in brackets, and all values in brackets
abbrev pub Printed : ℕ → List ℕ → List ℕ → Type 0
Printed mapper value text = MatchBool (nat_eq mapper 0) (text ≡ codes " " ++ (value ++ codes "=")) (MatchBool (nat_eq mapper 1) (text ≡ value ++ codes ",") (InBrackets value text))

-- digits that fit into 64 bits, and their number in digits, without leading zeros; or the error of others
abbrev pub ReadsNumber : List ℕ → SimpleSpan → Result Text (Rich ℕ) → Type 0
ReadsNumber digits span (Ok text) = (digits_value 10 (without_leading_plus digits) < 2 ^ 64) × (text_bytes text ≡ decimal (digits_value 10 (without_leading_plus digits)))
ReadsNumber digits span (Err error) = (IsNumeral 10 (without_leading_plus digits) → digits_value 10 (without_leading_plus digits) < 2 ^ 64 → ⊥) × (rich_span error ≡ span) × (rich_message error ≡ Some (codes "number too large"))
