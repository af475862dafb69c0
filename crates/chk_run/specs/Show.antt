-- How errors print.
use Rattle.std.specs.Prelude.{ℕ, ◌-◌, ◌^◌, Bool, true, false, ◌&&◌, if◌then◌else◌, nat_le, List, [], ◌∷◌, ◌++◌, flat_map, Option, Some, None, codes, decimal, string_bytes}
use Rattle.std.specs.Borrow.{Bor}
use Rattle.std.specs.Char.{encode_utf8}
use Rattle.std.specs.Fmt.{digits, format_spec, padded_integral}
use Rattle.chumsky_input.specs.Rich.{rich_span, rich_found, rich_patterns, rich_message}
use Rattle.chumsky_input.specs.declared.rich.Rich.{Rich}
use Rattle.chumsky_input.specs.declared.rich.RichPattern.{RichPattern}
use Rattle.chumsky_input.specs.declared.rich.RichPattern.TheVariants as Pattern
use Rattle.chumsky_input.specs.declared.stop.Stop.{Stop}
use Rattle.chumsky_input.specs.declared.stop.Stop.TheVariants as Why
use Rattle.chumsky_recursive.specs.declared.founded.FoundedError.{FoundedError}
use Rattle.chumsky_recursive.specs.declared.founded.FoundedError.TheVariants as Founded
use Rattle.chk_run.specs.declared.show.Refusal.{Refusal}
use Rattle.chk_run.specs.declared.show.Refusal.TheVariants as reason

-- from a space to a tilde
abbrev pub is_plain : ℕ → Bool
is_plain c = nat_le 32 c && nat_le c 126

-- a character between quotes
abbrev pub quoted : ℕ → List ℕ
quoted c = codes "'" ++ (encode_utf8 c ++ codes "'")

-- a character's number, in at least four digits
abbrev pub numbered : ℕ → List ℕ
numbered c = codes "U+" ++ padded_integral (format_spec 32 0 4 4 (2 ^ 64 - 1)) false [] (digits 16 true c)

abbrev pub symbol_text : ℕ → List ℕ
symbol_text c = if is_plain c then quoted c else numbered c

abbrev pub pattern_text : RichPattern ℕ → List ℕ
pattern_text (Pattern.Token c) = symbol_text c
pattern_text Pattern.Any = codes "any"
pattern_text Pattern.SomethingElse = codes "something else"
pattern_text Pattern.EndOfInput = codes "end of input"
pattern_text (Pattern.Label label) = string_bytes label

abbrev pub found_text : Option ℕ → List ℕ
found_text (Some c) = symbol_text c
found_text None = codes "end"

abbrev pub stop_text : Stop → List ℕ
stop_text Why.Memory = codes "Memory"
stop_text Why.NoProgress = codes "NoProgress"
stop_text Why.TooDeep = codes "TooDeep"
stop_text Why.CountTooLarge = codes "CountTooLarge"

-- the name of a reason why rules make no grammar
abbrev pub rules_text : FoundedError → List ℕ
rules_text (Founded.Close e) = codes "Close"
rules_text Founded.Memory = codes "Memory"
rules_text (Founded.EmptyRound n) = codes "EmptyRound"
rules_text (Founded.LeftCycle r) = codes "LeftCycle"
rules_text Founded.LimitTooLarge = codes "LimitTooLarge"

abbrev pub refusal_text : Refusal → List ℕ
refusal_text (reason.Run stop) = stop_text stop
refusal_text (reason.Rules error) = rules_text error

-- the patterns with commas between them
abbrev pub patterns_text : List (RichPattern ℕ) → List ℕ
patterns_text [] = codes "nothing"
patterns_text (p ∷ rest) = pattern_text p ++ flat_map (λ q. codes ", " ++ pattern_text q) rest

-- what an error says after its span
abbrev pub said_text : Option (List ℕ) → List (RichPattern ℕ) → Option ℕ → List ℕ
said_text (Some message) patterns found = message
said_text None patterns found = codes "expected " ++ (patterns_text patterns ++ (codes " found " ++ found_text found))

-- the line of an error
abbrev pub error_text : Rich ℕ → List ℕ
error_text e = codes "error " ++ (decimal (rich_span e).start ++ (codes ".." ++ (decimal (rich_span e).end ++ (codes " " ++ said_text (rich_message e) (rich_patterns e) (rich_found e)))))

-- the line of a list: that it is right, and each item after a space
abbrev pub items_text : List (Bor (List ℕ)) → List ℕ
items_text items = codes "ok" ++ flat_map (λ item. codes " " ++ item.now) items
