-- How a log is written, and what its lines say.
-- Main words: IsLine, IsLog, ExactlyRecovers. Laws: LogLaws.antt.
use Rattle.std.specs.Prelude.{◌≡◌, ℕ, Bool, true, not, ◌==◌, ◌||◌, Option, Some, None, List, [], ◌∷◌, ◌++◌, codes, Result, Ok, Err}
use Rattle.std.specs.Char.{is_whitespace}
use Rattle.std.specs.Str.{encode_utf8_all, trim}
use Rattle.std.specs.declared.alloc.Global.{Global}
use Rattle.std.specs.declared.vec.Vec.{Vec}
use Rattle.chumsky_input.specs.declared.stop.Stop.{Stop}
use Rattle.chumsky_input.specs.declared.stop.Stop.TheVariants.{Memory}
use Rattle.chumsky_parser.specs.Words.{AllPass, StopsAt}
use Rattle.chumsky_parser.specs.declared.result.ParseResult.{ParseResult}
use Rattle.chumsky_exact.specs.Fields.{IsField}
use Rattle.chumsky_exact.specs.Table.{Names}
use Rattle.examples.specs.declared.log_lines.Level.{Level}
use Rattle.examples.specs.declared.log_lines.Level.TheVariants.{Info, Warning, Error}
use Rattle.examples.specs.declared.log_lines.Line.{Line}

abbrev pub levels : List (List ℕ × Level)
levels = (codes "INFO", Info) ∷ (codes "WARN", Warning) ∷ (codes "ERROR", Error) ∷ []

-- a line feed or a return ends a line
abbrev pub ends_line : ℕ → Bool
ends_line c = (c == 10) || (c == 13)

abbrev pub in_line : ℕ → Bool
in_line c = not (ends_line c)

-- a text is that of a line: an hour, a minute and a second, with a colon between each two; a level; and after a space what the line
-- has left, which isn't blank. The message is that, without the blanks around it
pub record IsLine (text : List ℕ) (line : Line) : Type 0 where
  pub hour : List ℕ
  pub minute : List ℕ
  pub second : List ℕ
  pub level : List ℕ
  pub left : List ℕ
  pub all : text ≡ ((((((hour ++ codes ":") ++ minute) ++ codes ":") ++ second) ++ codes " ") ++ level) ++ (codes " " ++ left)
  pub is_hour : IsField 2 0 23 hour line.time.0
  pub is_minute : IsField 2 0 59 minute line.time.1
  pub is_second : IsField 2 0 59 second line.time.2
  pub is_level : Names levels level line.level
  pub in_one : AllPass in_line left
  pub not_blank : AllPass is_whitespace left → ⊥
  pub message : line.message.now ≡ trim (encode_utf8_all left)

-- a text is a log of these lines: of none, where it is empty; of those of a log, after an end of a line; of a line and of those of
-- a log that follows it, where that is empty or begins with an end of a line
pub data IsLog : List ℕ → List Line → Type 0 where
  no_line : IsLog [] []
  line_end : {cs : List ℕ} {lines : List Line} (c : ℕ) → ends_line c ≡ true → IsLog cs lines → IsLog (c ∷ cs) lines
  more_lines : {w cs : List ℕ} {lines : List Line} (line : Line) → IsLine w line → StopsAt in_line cs → IsLog cs lines → IsLog (w ++ cs) (line ∷ lines)

abbrev pub HoldsLog : List ℕ → Vec Line Global → Type 0
HoldsLog cs v = IsLog cs v.items

-- of values with P: without errors there is an output, which is a value of the text; with errors the text has none
abbrev pub IsRecovered : {Tok V Er : Type 0} → (List Tok → V → Type 0) → List Tok → List Er → Option V → Type 0
IsRecovered P ts [] (Some v) = P ts v
IsRecovered P ts [] None = ⊥
IsRecovered {V = V} P ts (e ∷ es) output = (v : V) → P ts v → ⊥

-- the answer of a run that may go on behind what is wrong. It is refused for memory alone
abbrev pub ExactlyRecovers : {Tok V Er : Type 0} → (List Tok → V → Type 0) → List Tok → Result (ParseResult V Er) Stop → Type 0
ExactlyRecovers P ts (Ok parsed) = IsRecovered P ts parsed.errors.items parsed.output
ExactlyRecovers P ts (Err s) = s ≡ Memory
