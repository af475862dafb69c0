-- What an error says to people, of tokens that have a number and a text, and maybe a word for all from one to another.
use Rattle.std.specs.Prelude.{ℕ, zero, suc, ◌^◌, ◌+◌, ◌-◌, Bool, false, ◌||◌, ◌&&◌, if◌then◌else◌, nat_le, List, [], ◌∷◌, ◌++◌, length, take, Option}
use Rattle.std.specs.Prelude.{Some, None, codes, string_bytes, ◌==◌, slice_index_or}
use Rattle.std.specs.Char.{encode_utf8, is_control}
use Rattle.std.specs.List.{list_any}
use Rattle.std.specs.Option.{unwrap_or}
use Rattle.std.specs.Str.{bytes_eq}
use Rattle.std.specs.Fmt.{digits, format_spec, padded_integral}
use Rattle.chumsky_report.specs.Line.{is_hidden}
use Rattle.chumsky_input.specs.Rich.{rich_found, rich_patterns, rich_message}
use Rattle.chumsky_input.specs.declared.rich.Rich.{Rich}
use Rattle.chumsky_input.specs.declared.rich.RichPattern.{RichPattern}
use Rattle.chumsky_input.specs.declared.rich.RichPattern.TheVariants as Pattern

-- a character as it is written in a program: control characters, hidden ones, quotes and backslashes are escaped
abbrev pub escaped : ℕ → List ℕ
escaped c = if c == 10 then codes "\\n" else (if c == 13 then codes "\\r" else (if c == 9 then codes "\\t"
    else (if c == 39 || c == 92 then codes "\\" ++ encode_utf8 c
    else (if is_control c || is_hidden c then codes "\\u{" ++ (digits 16 false c ++ codes "}") else encode_utf8 c))))

abbrev pub character_text : ℕ → List ℕ
character_text c = codes "'" ++ (escaped c ++ codes "'")

-- the word for all characters from one to another: the ten digits have one
abbrev pub character_word : ℕ → ℕ → Option (List ℕ)
character_word first last = if first == 48 && last == 57 then Some (codes "digit") else None

-- a byte in two hexadecimal digits
abbrev pub byte_text : ℕ → List ℕ
byte_text b = codes "0x" ++ padded_integral (format_spec 32 0 4 2 (2 ^ 64 - 1)) false [] (digits 16 false b)

-- bytes have no word
abbrev pub no_word : ℕ → ℕ → Option (List ℕ)
no_word first last = None

-- what stands before an item that has others before it, and those in `later` after it
abbrev pub separator : List (List ℕ) → List ℕ
separator [] = codes " or "
separator (x ∷ later) = codes ", "

-- each item after its separator
abbrev pub others_text : List (List ℕ) → List ℕ
others_text [] = []
others_text (x ∷ later) = separator later ++ (x ++ others_text later)

-- the items with commas between them, and an "or" before the last
abbrev pub listed : List (List ℕ) → List ℕ
listed [] = codes "something else"
listed (x ∷ others) = x ++ others_text others

module _ {T : Type 0} (number : T → ℕ) (text : T → List ℕ) (word : T → T → Option (List ℕ)) where
  abbrev pub pattern_text : RichPattern T → List ℕ
  pattern_text (Pattern.Token t) = text t
  pattern_text Pattern.Any = codes "anything"
  pattern_text Pattern.SomethingElse = codes "something else"
  pattern_text Pattern.EndOfInput = codes "end of input"
  pattern_text (Pattern.Label label) = string_bytes label

  -- both are tokens, and the number of the second comes next after that of the first
  abbrev pub follows : RichPattern T → RichPattern T → Bool
  follows (Pattern.Token s) (Pattern.Token t) = number t == number s + 1
  follows p q = false

  -- how many patterns follow, each on the one before it, where p comes first
  abbrev pub following : RichPattern T → List (RichPattern T) → ℕ
  following p [] = 0
  following p (q ∷ qs) = if follows p q then 1 + following q qs else 0

  -- how many patterns the first item has: a run of three or more is one item, any other pattern an item by itself
  abbrev pub item_length : List (RichPattern T) → ℕ
  item_length [] = 0
  item_length (p ∷ ps) = if nat_le 2 (following p ps) then 1 + following p ps else 1

  -- the word for a run, by its first pattern and its last
  abbrev pub run_word : RichPattern T → RichPattern T → Option (List ℕ)
  run_word (Pattern.Token s) (Pattern.Token t) = word s t
  run_word p q = None

  -- all patterns from the first of a run to its last: the word for them, if there is one
  abbrev pub run_text : RichPattern T → RichPattern T → List ℕ
  run_text p q = unwrap_or (run_word p q) (pattern_text p ++ (codes " to " ++ pattern_text q))

  -- a pattern, or a run of them
  abbrev pub item_text : List (RichPattern T) → List ℕ
  item_text [] = []
  item_text (p ∷ []) = pattern_text p
  item_text (p ∷ q ∷ qs) = run_text p (slice_index_or (q ∷ qs) (length qs) q)

  -- the pattern is a label, and says this
  abbrev pub is_label : List ℕ → RichPattern T → Bool
  is_label name (Pattern.Label label) = bytes_eq (string_bytes label) name
  is_label name p = false

  -- there is a word, and one of the patterns is a label that says it
  abbrev pub has_label : List (RichPattern T) → Option (List ℕ) → Bool
  has_label patterns None = false
  has_label patterns (Some name) = list_any (is_label name) patterns

  -- the word for what a label names and more: white space within a line is white space
  abbrev pub wider_word : RichPattern T → Option (List ℕ)
  wider_word p = if is_label (codes "inline whitespace") p then Some (codes "whitespace") else None

  -- one of the patterns is a label that says all that the item says: the word for a run, or that for what the item's label names
  abbrev pub is_labelled : List (RichPattern T) → List (RichPattern T) → Bool
  is_labelled patterns [] = false
  is_labelled patterns (p ∷ []) = has_label patterns (wider_word p)
  is_labelled patterns (p ∷ q ∷ qs) = has_label patterns (run_word p (slice_index_or (q ∷ qs) (length qs) q))

  -- an item before others: its text, unless a label says it
  abbrev pub before_items : List (RichPattern T) → List (RichPattern T) → List (List ℕ) → List (List ℕ)
  before_items patterns item later = if is_labelled patterns item then later else item_text item ∷ later

  -- of all patterns, the items of some but for the first n of these, which belong to an item before
  abbrev pub items : List (RichPattern T) → ℕ → List (RichPattern T) → List (List ℕ)
  items patterns n [] = []
  items patterns zero (p ∷ ps) = before_items patterns (take (item_length (p ∷ ps)) (p ∷ ps)) (items patterns (item_length (p ∷ ps) - 1) ps)
  items patterns (suc n) (p ∷ ps) = items patterns n ps

  abbrev pub found_text : Option T → List ℕ
  found_text (Some t) = text t
  found_text None = codes "end of input"

  abbrev pub said_text : Option (List ℕ) → List (RichPattern T) → Option T → List ℕ
  said_text (Some message) patterns found = message
  said_text None patterns found = codes "expected " ++ (listed (items patterns 0 patterns) ++ (codes ", found " ++ found_text found))

  -- the message of a custom error, or else what was expected and what was found
  abbrev pub message_text : Rich T → List ℕ
  message_text e = said_text (rich_message e) (rich_patterns e) (rich_found e)
