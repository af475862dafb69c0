-- The languages of the parsers that read settings in sections.
-- Main words: gaps, entries, heads, headed, wholes. Laws: IniLaws.antt. Read first: Ini.antt, and Language.antt of chumsky_parser.
use Rattle.std.specs.Prelude.{◌≡◌, ℕ, ◌&&◌, nat_eq, Bool, Option, None, List, [], ◌∷◌, ⊤}
use Rattle.std.specs.Borrow.{Bor}
use Rattle.std.specs.BTreeMap.{BTreeMap}
use Rattle.std.specs.Cmp.Lexicographic.{slice_cmp}
use Rattle.std.specs.Ordering.{nat_cmp}
use Rattle.std.specs.Str.{trim}
use Rattle.chumsky_parser.specs.Language.{Language}
use Rattle.chumsky_parser.specs.SequenceLanguage.{then_language, ignore_then_language, then_ignore_language, between_language}
use Rattle.chumsky_primitive.specs.PrimitiveLanguage.{literal_language}
use Rattle.chumsky_combinator.specs.MappedLanguage.{map_language}
use Rattle.chumsky_items.specs.Container.{entries_of}
use Rattle.chumsky_items.specs.ListLanguage.{collected_language}
use Rattle.chumsky_items.specs.RepeatedLanguage.{repeated_language}
use Rattle.chumsky_text.specs.Decimals.{TextSlice}
use Rattle.chumsky_text.specs.TextLanguage.{run_language, word_language}
use Rattle.examples.specs.Ini.{in_line, marks_comment, begins_gap, in_name, begins_entry, Ini}

-- a slice, and a map of slices
abbrev pub Slice : Type 0
Slice = Bor (List ℕ)

abbrev pub Entries : Type 0
Entries = BTreeMap Slice Slice

-- a map holds the last value of each name
abbrev pub Holds : {V : Type 0} → List (Slice × V) → BTreeMap Slice V → Type 0
Holds xs m = m.entries ≡ entries_of (λ a b. slice_cmp nat_cmp a.now b.now) xs

-- this character
abbrev pub fixed : ℕ → Language ℕ ℕ
fixed c = literal_language nat_eq (c ∷ []) (λ v. v ≡ c) ⊤

-- a word, and what a line has left, of which the slice without white space around it is given
abbrev pub Trims : Slice → Slice → Type 0
Trims s t = t.now ≡ trim s.now

abbrev pub words : (ℕ → Bool) → (ℕ → ℕ → Bool) → Language ℕ Slice
words = word_language (TextSlice (λ s. s.now))

abbrev pub names : (ℕ → Bool) → Language ℕ Slice
names begins = map_language Trims (words begins (λ first. in_name))

abbrev pub values : Language ℕ Slice
values = map_language Trims (run_language (TextSlice (λ s. s.now)) in_line)

-- white space, a character each, and comments
abbrev pub goes_on : ℕ → ℕ → Bool
goes_on first c = marks_comment first && in_line c

abbrev pub pieces : Language ℕ Slice
pieces = words begins_gap goes_on

abbrev pub gaps : Language ℕ (Unit {0})
gaps = collected_language (repeated_language pieces 0 None) (λ (cs : List Slice) (u : Unit {0}). ⊤) ⊤

-- an entry, and the name of a section between brackets, each with the gap after it
abbrev pub entries : Language ℕ (Slice × Slice)
entries = then_ignore_language (then_language (then_ignore_language (names begins_entry) (fixed 61)) values) gaps

abbrev pub heads : Language ℕ Slice
heads = then_ignore_language (between_language (fixed 91) (names in_name) (fixed 93)) gaps

-- a section, and a whole text
abbrev pub headed : Language ℕ (Slice × Entries)
headed = then_language heads (collected_language (repeated_language entries 0 None) Holds ⊥)

abbrev pub wholes : Language ℕ Ini
wholes = ignore_then_language gaps (collected_language (repeated_language headed 0 None) Holds ⊥)
