-- How comma-separated values are written, after RFC 4180.
-- Main words: IsCsvField, IsRecord, AreRecords, IsCsv, HoldsCsv. Laws: CsvLaws.antt. Read first: Divided.antt.
use Rattle.std.specs.Prelude.{◌≡◌, ℕ, ◌==◌, ◌&&◌, ◌||◌, not, cond, Bool, true, false, List, [], ◌∷◌, ◌++◌, ◌⊎◌, map, String, string_bytes}
use Rattle.std.specs.Str.{chars}
use Rattle.std.specs.declared.alloc.Global.{Global}
use Rattle.std.specs.declared.vec.Vec.{Vec}
use Rattle.chumsky_parser.specs.Words.{AllPass}
use Rattle.exact.specs.Divided.{Divided}

-- what may stand in a field without quotes, which the RFC calls TEXTDATA, here beyond ASCII too: no comma (44), no quote (34), and neither CR (13) nor LF (10)
abbrev pub is_text_data : ℕ → Bool
is_text_data c = not ((c == 44) || (c == 34) || (c == 13) || (c == 10))

-- a text in which each quote is written twice
abbrev pub doubled : List ℕ → List ℕ
doubled [] = []
doubled (c ∷ cs) = cond (c == 34) (34 ∷ 34 ∷ doubled cs) (c ∷ doubled cs)

-- a field is written as it is, if all that stands in it may; or else, as any may, between quotes, with its own quotes written twice
abbrev pub IsCsvField : List ℕ → List ℕ → Type 0
IsCsvField w field = ((w ≡ field) × AllPass is_text_data field) ⊎ (w ≡ 34 ∷ (doubled field ++ 34 ∷ []))

-- a comma
abbrev pub IsComma : List ℕ → Type 0
IsComma s = s ≡ 44 ∷ []

-- the end of a line: CR and LF, or LF alone
abbrev pub is_line_end : List ℕ → Bool
is_line_end (c ∷ []) = c == 10
is_line_end (c ∷ d ∷ []) = (c == 13) && (d == 10)
is_line_end _ = false

abbrev pub IsLineEnd : List ℕ → Type 0
IsLineEnd s = is_line_end s ≡ true

-- a record: its fields, with a comma between each two
abbrev pub IsRecord : List ℕ → List (List ℕ) → Type 0
IsRecord = Divided IsCsvField IsComma

-- records, with the end of a line between each two
abbrev pub AreRecords : List ℕ → List (List (List ℕ)) → Type 0
AreRecords = Divided IsRecord IsLineEnd

-- a text without the end of a line that stands at its end, if one does
abbrev pub without_line_end : List ℕ → List ℕ
without_line_end [] = []
without_line_end (c ∷ cs) = cond (is_line_end (c ∷ cs)) [] (c ∷ without_line_end cs)

-- a text is these records, of which the last may be ended or not: a line end at the end of the text ends it, and begins no other
abbrev pub IsCsv : List ℕ → List (List (List ℕ)) → Type 0
IsCsv cs records = AreRecords (without_line_end cs) records

-- the fields that strings hold
abbrev pub field_of : String Global → List ℕ
field_of s = chars (string_bytes s)

abbrev pub record_of : Vec (String Global) Global → List (List ℕ)
record_of v = map field_of v.items

abbrev pub records_of : Vec (Vec (String Global) Global) Global → List (List (List ℕ))
records_of v = map record_of v.items

-- it holds the records of the text
abbrev pub HoldsCsv : List ℕ → Vec (Vec (String Global) Global) Global → Type 0
HoldsCsv cs v = IsCsv cs (records_of v)
