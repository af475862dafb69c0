-- The part of a line that a report shows, by its characters.
use Rattle.std.specs.Prelude.{ℕ, ◌+◌, ◌-◌, min, Bool, ◌||◌, if◌then◌else◌, nat_le, List, [], ◌∷◌, ◌++◌, length, take, drop, reverse, flat_map, ◌==◌}
use Rattle.std.specs.List.{before_first}
use Rattle.std.specs.Char.{encode_utf8, is_control}
use Rattle.std.specs.Str.{chars}
use Rattle.chumsky_report.specs.Line.{is_line_end, is_hidden}

-- what stands for a character: a sign for a control character and for one that is hidden, but a space for a carriage return and a tab for a tab
abbrev pub sign : ℕ → ℕ
sign c = if c == 9 then 9 else (if c == 13 then 32 else (if nat_le c 31 then 9216 + c else (if c == 127 then 9249 else (if is_control c || is_hidden c then 65533 else c))))

abbrev pub signs : List ℕ → List ℕ
signs cs = flat_map (λ c. encode_utf8 (sign c)) cs

-- a tab below a tab, and else a space
abbrev pub below : ℕ → List ℕ
below c = if c == 9 then 9 ∷ [] else 32 ∷ []

-- of characters, those before the first line end
abbrev pub of_line : List ℕ → List ℕ
of_line cs = before_first is_line_end cs

-- the characters before an offset on its line, the nearest first; and those from it on
abbrev pub behind : List ℕ → ℕ → List ℕ
behind text at = of_line (reverse (chars (take at text)))

abbrev pub ahead : List ℕ → ℕ → List ℕ
ahead text at = of_line (chars (drop at text))

-- how many characters are shown on one side of an offset, by those on the other: 80, and what the other leaves of its 80
abbrev pub room : List ℕ → ℕ
room others = 160 - min 80 (length others)

abbrev pub shown_behind : List ℕ → ℕ → List ℕ
shown_behind text at = reverse (take (room (ahead text at)) (behind text at))

abbrev pub shown_ahead : List ℕ → ℕ → List ℕ
shown_ahead text at = take (room (behind text at)) (ahead text at)

-- three dots, one character, where that is not all; and a space below them
abbrev pub dots : Bool → List ℕ
dots all = if all then [] else encode_utf8 8230

abbrev pub below_dots : Bool → List ℕ
below_dots all = if all then [] else 32 ∷ []

-- whether all characters on one side are shown
abbrev pub all_behind : List ℕ → ℕ → Bool
all_behind text at = nat_le (length (behind text at)) (room (ahead text at))

abbrev pub all_ahead : List ℕ → ℕ → Bool
all_ahead text at = nat_le (length (ahead text at)) (room (behind text at))

-- the line of an offset
abbrev pub line_text : List ℕ → ℕ → List ℕ
line_text text at = dots (all_behind text at) ++ (signs (shown_behind text at) ++ (signs (shown_ahead text at) ++ dots (all_ahead text at)))

-- what stands below the line, up to the offset
abbrev pub below_line : List ℕ → ℕ → List ℕ
below_line text at = below_dots (all_behind text at) ++ flat_map below (shown_behind text at)
