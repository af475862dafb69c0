-- Settings in sections, as INI files have them: which sections a text says, and which map of maps holds them.
-- Main words: Says, IsIni, HoldsIni, ReadsIni. Laws: IniLaws.antt.
use Rattle.std.specs.Prelude.{◌≡◌, ℕ, ◌==◌, ◌||◌, ◌&&◌, not, true, Bool, Option, Some, None, List, [], ◌∷◌, ◌++◌, map, Result, Ok, Err}
use Rattle.std.specs.Borrow.{Bor}
use Rattle.std.specs.BTreeMap.{BTreeMap}
use Rattle.std.specs.Char.{is_whitespace}
use Rattle.std.specs.Cmp.Lexicographic.{slice_cmp}
use Rattle.std.specs.Ordering.{nat_cmp}
use Rattle.std.specs.Str.{trim, encode_utf8_all}
use Rattle.chumsky_input.specs.declared.stop.Stop.{Stop}
use Rattle.chumsky_input.specs.declared.stop.Stop.TheVariants.{Memory}
use Rattle.chumsky_parser.specs.Words.{AllPass, StopsAt}
use Rattle.chumsky_parser.specs.declared.result.ParseResult.{ParseResult}
use Rattle.chumsky_items.specs.Container.{entries_of}
use Rattle.chumsky_text.specs.TextLanguage.{IsWord}

-- what may stand in a line: all but its end
abbrev pub in_line : ℕ → Bool
in_line c = not (c == 10)

-- a comment begins with `;` or `#`
abbrev pub marks_comment : ℕ → Bool
marks_comment c = (c == 59) || (c == 35)

-- what stands between entries and heads begins with white space or a comment
abbrev pub begins_gap : ℕ → Bool
begins_gap c = is_whitespace c || marks_comment c

-- a name has no `=`, `[` or `]`, begins no comment within it, and ends with its line
abbrev pub in_name : ℕ → Bool
in_name c = not ((c == 61) || (c == 91) || (c == 93) || (c == 59) || (c == 35) || (c == 10))

-- that of an entry begins with no white space either
abbrev pub begins_entry : ℕ → Bool
begins_entry c = in_name c && not (is_whitespace c)

-- such names, of one character at least
abbrev pub IsSectionName : List ℕ → Type 0
IsSectionName = IsWord in_name (λ first. in_name)

abbrev pub IsEntryName : List ℕ → Type 0
IsEntryName = IsWord begins_entry (λ first. in_name)

-- these characters without the white space around them, as bytes
abbrev pub trimmed : List ℕ → List ℕ
trimmed cs = trim (encode_utf8_all cs)

-- an entry is a name and a value; a section is a name and entries
abbrev pub Entry : Type 0
Entry = List ℕ × List ℕ

abbrev pub Section : Type 0
Section = List ℕ × List Entry

-- a text says entries, and then sections: nothing says none; white space, and comments to the end of their line, add nothing; a
-- name, a `=` and the rest of its line are the next entry; and a name in brackets makes a section of the entries that follow
pub data Says : List ℕ → List Entry → List Section → Type 0 where
  nothing : Says [] [] []
  blank : {rest : List ℕ} {es : List Entry} {ss : List Section} (c : ℕ) → is_whitespace c ≡ true → Says rest es ss → Says (c ∷ rest) es ss
  comment : {rest : List ℕ} {es : List Entry} {ss : List Section} (c : ℕ) (cs : List ℕ) → marks_comment c ≡ true → AllPass in_line cs → StopsAt in_line rest → Says rest es ss
      → Says (c ∷ (cs ++ rest)) es ss
  entry : {rest : List ℕ} {es : List Entry} {ss : List Section} (name value : List ℕ) → IsEntryName name → AllPass in_line value → StopsAt in_line rest → Says rest es ss
      → Says (name ++ (61 ∷ (value ++ rest))) ((trimmed name, trimmed value) ∷ es) ss
  section : {rest : List ℕ} {es : List Entry} {ss : List Section} (name : List ℕ) → IsSectionName name → Says rest es ss → Says (91 ∷ (name ++ (93 ∷ rest))) [] ((trimmed name, es) ∷ ss)

-- a text is these sections, with no entry before the first
abbrev pub IsIni : List ℕ → List Section → Type 0
IsIni cs ss = Says cs [] ss

-- the last value of each name, in the order of the names' bytes
abbrev pub last_of : {V : Type 0} → List (List ℕ × V) → List (List ℕ × V)
last_of = entries_of (slice_cmp nat_cmp)

-- the map of maps that is made of a text, and what it says: for each name of a section that of each name of an entry
abbrev pub Ini : Type 0
Ini = BTreeMap (Bor (List ℕ)) (BTreeMap (Bor (List ℕ)) (Bor (List ℕ)))

abbrev pub said_by : Ini → List Section
said_by ini = map (λ s. (s.0.now, map (λ e. (e.0.now, e.1.now)) s.1.entries)) ini.entries

-- it holds the sections of the text: of two of one name the last, and of two entries of one name in it the last
pub record HoldsIni (cs : List ℕ) (ini : Ini) : Type 0 where
  pub sections : List Section
  pub is : IsIni cs sections
  pub held : said_by ini ≡ last_of (map (λ s. (s.0, last_of s.1)) sections)

-- an output holds the sections of the text; and where there is none the text has none
abbrev pub IsOutput : List ℕ → Option Ini → Type 0
IsOutput cs (Some ini) = HoldsIni cs ini
IsOutput cs None = (ss : List Section) → IsIni cs ss → ⊥

-- so is the output of an answer, and a run is refused for memory alone
abbrev pub ReadsIni : {Er : Type 0} → List ℕ → Result (ParseResult Ini Er) Stop → Type 0
ReadsIni cs (Ok parsed) = IsOutput cs parsed.output
ReadsIni cs (Err s) = s ≡ Memory
