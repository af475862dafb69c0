-- The parsers that read settings in sections are lawful.
-- Main laws: gap-lawful, entry-lawful, head-lawful, headed-lawful. Read first: IniReading.antt; Lawful.antt of chumsky_descent.
use Rattle.std.proofs.Common.{◌≡◌, ℕ, nat_eq, Bool, Some, None, List, [], ◌∷◌}
use Rattle.std.specs.Prelude.{⊤}
use Rattle.chumsky_input.specs.declared.error.Error as error_trait
use Rattle.chumsky_input.specs.declared.inspector.Inspector as inspector_trait
use Rattle.chumsky_input.specs.declared.input.Input as input_trait
use Rattle.chumsky_input.specs.Outcome.{Meaning}
use Rattle.chumsky_parser.specs.Chained.{Given, Sequence}
use Rattle.chumsky_parser.specs.Ignoring.{IgnoringSecond, Between}
use Rattle.chumsky_primitive.specs.Just.{MeansJust}
use Rattle.chumsky_combinator.specs.Mapped.{Mapped}
use Rattle.chumsky_items.specs.Consumers.{Collects}
use Rattle.chumsky_items.specs.Repeating.{Repeats}
use Rattle.chumsky_text.specs.Decimals.{TextSlice}
use Rattle.chumsky_text.specs.TextRun.{MeansRun, MeansWord}
use Rattle.chumsky_descent.specs.Lawful.{Lawful, then-lawful, then_ignore-lawful, between-lawful, map-lawful, repeated-lawful, just-lawful, word-lawful, run-lawful}
use Rattle.examples.specs.Ini.{in_line, begins_gap, in_name, begins_entry}
use Rattle.examples.specs.IniReading.{Slice, Entries, Holds, fixed, Trims, goes_on, gaps, entries, heads, headed}

-- what these parsers may do
module _ {I Sp Cu Er St Mk Cx : Type 0} (source : input_trait.Ghosts I Cu ℕ Sp) (errors : error_trait.Ghosts Er I ℕ Sp) (states : inspector_trait.Ghosts St I Mk ℕ Sp) where
  -- `just(c)`
  abbrev Just : ℕ → Meaning ℕ Cx states.Seen errors.Seen ℕ
  Just c = MeansJust source nat_eq errors states (λ v. v ≡ c) ⊤ (c ∷ [])

  -- a word of a kind, a name, and what a line has left
  abbrev Word : (ℕ → Bool) → (ℕ → ℕ → Bool) → Meaning ℕ Cx states.Seen errors.Seen Slice
  Word begins after = MeansWord source (TextSlice (λ s. s.now)) errors states begins after [] (λ t. [])

  abbrev Name : (ℕ → Bool) → Meaning ℕ Cx states.Seen errors.Seen Slice
  Name begins = Mapped Trims (Word begins (λ first. in_name))

  abbrev Value : Meaning ℕ Cx states.Seen errors.Seen Slice
  Value = Mapped Trims (MeansRun source (TextSlice (λ s. s.now)) errors states in_line [])

  -- any number of these, collected
  abbrev Many : {V C : Type 0} → Bool → (List V → C → Type 0) → Type 0 → Meaning ℕ Cx states.Seen errors.Seen V → Meaning ℕ Cx states.Seen errors.Seen C
  Many free holds quiet part = Collects (Repeats states.mark states.back states.takes_no_memory part free 0 None) (Given (Some 0)) holds quiet

  -- `gap_parser()`, `entry_parser()`, `head_parser()` and `headed_parser()`
  abbrev Gap : Bool → Meaning ℕ Cx states.Seen errors.Seen (Unit {0})
  Gap free = Many free (λ (cs : List Slice) (u : Unit {0}). ⊤) ⊤ (Word begins_gap goes_on)

  abbrev Entry : Bool → Meaning ℕ Cx states.Seen errors.Seen (Slice × Slice)
  Entry free = IgnoringSecond (Sequence (IgnoringSecond (Name begins_entry) (Just 61)) Value) (Gap free)

  abbrev Head : Bool → Meaning ℕ Cx states.Seen errors.Seen Slice
  Head free = IgnoringSecond (Between (Just 91) (Name in_name) (Just 93)) (Gap free)

  abbrev Headed : Bool → Bool → Meaning ℕ Cx states.Seen errors.Seen (Slice × Entries)
  Headed free most = Sequence (Head free) (Many most Holds ⊥ (Entry free))

-- `just(c)`
fixed-lawful : {I Sp Cu Er St Mk Cx : Type 0} {source : input_trait.Ghosts I Cu ℕ Sp} {errors : error_trait.Ghosts Er I ℕ Sp} {states : inspector_trait.Ghosts St I Mk ℕ Sp} (c : ℕ)
    → Lawful (errors.takes_no_memory × states.takes_no_memory) (Just {Cx = Cx} source errors states c) (fixed c)
fixed-lawful {source = source} {errors = errors} {states = states} c = just-lawful (c ∷ []) source nat_eq errors states (λ v. v ≡ c) ⊤

module _ {I Sp Cu Er St Mk Cx : Type 0} {source : input_trait.Ghosts I Cu ℕ Sp} {errors : error_trait.Ghosts Er I ℕ Sp} {states : inspector_trait.Ghosts St I Mk ℕ Sp} {free : Bool} where
  pub gap-lawful : Lawful (errors.takes_no_memory × states.takes_no_memory) (Gap {Cx = Cx} source errors states free) gaps
  gap-lawful = repeated-lawful word-lawful

  pub entry-lawful : Lawful (errors.takes_no_memory × states.takes_no_memory) (Entry {Cx = Cx} source errors states free) entries
  entry-lawful = then_ignore-lawful (then-lawful (then_ignore-lawful (map-lawful word-lawful) (fixed-lawful 61)) (map-lawful run-lawful)) gap-lawful

  pub head-lawful : Lawful (errors.takes_no_memory × states.takes_no_memory) (Head {Cx = Cx} source errors states free) heads
  head-lawful = then_ignore-lawful (between-lawful (fixed-lawful 91) (map-lawful word-lawful) (fixed-lawful 93)) gap-lawful

  pub headed-lawful : {most : Bool} → Lawful (errors.takes_no_memory × states.takes_no_memory) (Headed {Cx = Cx} source errors states free most) headed
  headed-lawful = then-lawful head-lawful (repeated-lawful entry-lawful)
