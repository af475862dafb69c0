-- How an error of a text, and one of bytes, is reported.
use Rattle.std.specs.Prelude.{ℕ, Option, Some, ◌-◌, false, if◌then◌else◌, nat_le, min, max, length, List, [], ◌++◌, take, replicate, codes, decimal}
use Rattle.std.specs.Fmt.{digits, ◌++?◌}
use Rattle.std.specs.Fmt.Cut.{floor_char_boundary}
use Rattle.std.specs.Str.{encode_utf8_all}
use Rattle.chumsky_input.specs.Display.{rich_text}
use Rattle.chumsky_input.specs.Rich.{rich_span}
use Rattle.chumsky_input.specs.declared.rich.Rich.{Rich}
use Rattle.chumsky_input.specs.declared.span.SimpleSpan.{SimpleSpan}
use Rattle.chumsky_report.specs.Line.{characters, line_number, column_number, text_end}
use Rattle.chumsky_report.specs.Message.{character_text, character_word, byte_text, no_word, message_text}
use Rattle.chumsky_report.specs.Window.{shown_ahead, line_text, below_line}

-- where a span is shown: from the start of a character on; and one at the end of the text behind the last line that has something
abbrev pub shown_span : List ℕ → SimpleSpan → SimpleSpan
shown_span text span = if nat_le (length text) span.start then record { start = text_end text; end = text_end text }
    else record { start = floor_char_boundary text span.start; end = span.end }

-- how many characters of a span are shown on its first line
abbrev pub marked : List ℕ → SimpleSpan → ℕ
marked text span = characters (take (span.end - span.start) (encode_utf8_all (shown_ahead text span.start)))

-- a caret below each of them, and one at least
abbrev pub carets : List ℕ → SimpleSpan → List ℕ
carets text span = replicate (max 1 (marked text span)) 94

-- the line of the last character of a span; a line end is the last character of its line
abbrev pub last_line : List ℕ → SimpleSpan → ℕ
last_line text span = line_number text (min span.end (length text) - 1)

-- to which line a span goes on, where it has characters of later lines
abbrev pub onward : List ℕ → SimpleSpan → List ℕ
onward text span = if nat_le (last_line text span) (line_number text span.start) then []
    else codes " to line " ++ decimal (last_line text span)

-- what is below the line
abbrev pub marks : List ℕ → SimpleSpan → List ℕ
marks text span = below_line text span.start ++ (carets text span ++ onward text span)

-- the name, the line and the column
abbrev pub place_text : List ℕ → List ℕ → ℕ → List ℕ
place_text name text at = name ++ (codes ":" ++ (decimal (line_number text at) ++ (codes ":" ++ decimal (column_number text at))))

-- the place and a message, if that is known; the line; the marks
abbrev pub text_at : List ℕ → List ℕ → Option (List ℕ) → SimpleSpan → Option (List ℕ)
text_at name text message span = Some (place_text name text span.start) ++? (Some (codes ": ") ++? (message
    ++? (Some (codes "\n") ++? (Some (line_text text span.start) ++? (Some (codes "\n") ++? Some (marks text span))))))

-- a report, where its error's span is shown
abbrev pub report_text : List ℕ → List ℕ → Rich ℕ → Option (List ℕ)
report_text name text e = text_at name text (Some (message_text (λ c. c) character_text character_word e)) (shown_span text (rich_span e))

-- that of an error whose tokens print as `shown` says: its message is what it prints by itself
abbrev pub token_report_text : {T : Type 0} → (T → Option (List ℕ)) → List ℕ → List ℕ → Rich T → Option (List ℕ)
token_report_text shown name text e = text_at name text (rich_text shown e) (shown_span text (rich_span e))

-- the name, the offset in both notations, and the message
abbrev pub byte_report_text : List ℕ → Rich ℕ → List ℕ
byte_report_text name e = name ++ (codes ":" ++ (decimal (rich_span e).start ++ (codes " (0x" ++ (digits 16 false (rich_span e).start
    ++ (codes "): " ++ message_text (λ b. b) byte_text no_word e)))))
