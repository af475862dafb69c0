-- Lines and columns of a text, which is given as its bytes.
use Rattle.std.specs.Prelude.{ℕ, ◌+◌, ◌-◌, Bool, ◌||◌, ◌&&◌, nat_le, List, length, take, ◌==◌}
use Rattle.std.specs.List.{count_by, suffix_len, after_last}
use Rattle.std.specs.Fmt.{is_char_start}

-- a line feed
abbrev pub is_line_end : ℕ → Bool
is_line_end b = b == 10

-- how many lines end in the bytes
abbrev pub line_ends : List ℕ → ℕ
line_ends bs = count_by is_line_end bs

-- how many characters begin in the bytes
abbrev pub characters : List ℕ → ℕ
characters bs = count_by is_char_start bs

-- what stands before an offset on its line
abbrev pub line_before : List ℕ → ℕ → List ℕ
line_before text at = after_last is_line_end (take at text)

-- one more than the number of line ends before the offset
abbrev pub line_number : List ℕ → ℕ → ℕ
line_number text at = line_ends (take at text) + 1

-- one more than the number of characters after the last line end before the offset
abbrev pub column_number : List ℕ → ℕ → ℕ
column_number text at = characters (line_before text at) + 1

-- a line feed or a carriage return
abbrev pub is_break : ℕ → Bool
is_break b = b == 10 || b == 13

-- where a text ends, but for the line feeds and carriage returns at its end
abbrev pub text_end : List ℕ → ℕ
text_end text = length text - suffix_len is_break text

-- from one number to another
abbrev is_within : ℕ → ℕ → ℕ → Bool
is_within first last c = nat_le first c && nat_le c last

-- characters that show nothing, or turn the direction in which others show: marks of width zero, line and paragraph separators, directions, and the byte order mark
abbrev pub is_hidden : ℕ → Bool
is_hidden c = is_within 8203 8207 c || (is_within 8232 8238 c || (is_within 8288 8303 c || (c == 1564 || c == 65279)))
