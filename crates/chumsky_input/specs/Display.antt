-- How a span and a `Rich` print, where `shown` says how a token prints, if that is known.
use Rattle.std.specs.Prelude.{List, [], ◌∷◌, ◌++◌, Option, Some, None, ℕ, codes, decimal, string_bytes}
use Rattle.std.specs.Fmt.{◌++?◌}
use Rattle.chumsky_input.specs.Rich.{rich_found, rich_patterns, rich_message}
use Rattle.chumsky_input.specs.declared.rich.Rich.{Rich}
use Rattle.chumsky_input.specs.declared.rich.RichPattern.{RichPattern}
use Rattle.chumsky_input.specs.declared.rich.RichPattern.TheVariants.{Token, Any, SomethingElse, EndOfInput, Label}
use Rattle.chumsky_input.specs.declared.span.SimpleSpan.{SimpleSpan}

-- a range of offsets, as `4..5`
abbrev pub span_text : SimpleSpan → List ℕ
span_text s = decimal s.start ++ (codes ".." ++ decimal s.end)

-- a token between quotes
abbrev pub token_text : {T : Type 0} → (T → Option (List ℕ)) → T → Option (List ℕ)
token_text shown t = Some (codes "'") ++? (shown t ++? Some (codes "'"))

abbrev pub pattern_text : {T : Type 0} → (T → Option (List ℕ)) → RichPattern T → Option (List ℕ)
pattern_text shown (Token t) = token_text shown t
pattern_text shown Any = Some (codes "any")
pattern_text shown SomethingElse = Some (codes "something else")
pattern_text shown EndOfInput = Some (codes "end of input")
pattern_text shown (Label text) = Some (string_bytes text)

-- what stands before a pattern that has others before it, and the ones in `later` after it
abbrev pub separator : {T : Type 0} → List (RichPattern T) → List ℕ
separator [] = codes " or "
separator (p ∷ later) = codes ", "

-- each pattern after its separator
abbrev pub others_text : {T : Type 0} → (T → Option (List ℕ)) → List (RichPattern T) → Option (List ℕ)
others_text shown [] = Some []
others_text shown (p ∷ later) = Some (separator later) ++? (pattern_text shown p ++? others_text shown later)

-- the patterns with commas between them, and an "or" before the last
abbrev pub patterns_text : {T : Type 0} → (T → Option (List ℕ)) → List (RichPattern T) → Option (List ℕ)
patterns_text shown [] = Some (codes "something else")
patterns_text shown (p ∷ others) = pattern_text shown p ++? others_text shown others

abbrev pub found_text : {T : Type 0} → (T → Option (List ℕ)) → Option T → Option (List ℕ)
found_text shown (Some t) = token_text shown t
found_text shown None = Some (codes "end of input")

-- the message of a custom error, or else what was expected and what was found
abbrev pub said_text : {T : Type 0} → (T → Option (List ℕ)) → Option (List ℕ) → List (RichPattern T) → Option T → Option (List ℕ)
said_text shown (Some message) patterns found = Some message
said_text shown None patterns found = Some (codes "expected ") ++? (patterns_text shown patterns ++? (Some (codes ", found ") ++? found_text shown found))

abbrev pub rich_text : {T : Type 0} → (T → Option (List ℕ)) → Rich T → Option (List ℕ)
rich_text shown e = said_text shown (rich_message e) (rich_patterns e) (rich_found e)
