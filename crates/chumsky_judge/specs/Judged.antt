-- A part whose failures count as one, or are put aside for others.
use Rattle.std.specs.Prelude.{◌≡◌, ℕ, Option, None, List, [], ◌∷◌, ◌⊎◌, option_to_list, slice_get}
use Rattle.chumsky_input.specs.Layout.{Layout}
use Rattle.chumsky_input.specs.declared.error.Error as error_trait
use Rattle.chumsky_input.specs.declared.input.Input as input_trait
use Rattle.chumsky_input.specs.declared.stop.Stop.TheVariants.{Memory}
use Rattle.chumsky_input.specs.declared.stop.Fault.{Fault}
use Rattle.chumsky_input.specs.declared.stop.Fault.TheVariants as fault
use Rattle.chumsky_input.specs.Held.{Held}
use Rattle.chumsky_input.specs.Aside.{kept_after, ClashesWith}
use Rattle.chumsky_input.specs.Wanted as wanted
use Rattle.chumsky_input.specs.Outcome.{Event, Meaning, Beginning, Outcome, Verdict, Yes, No, Halt, Clash}
use Rattle.chumsky_input.specs.Primary.{primary}
use Rattle.chumsky_parser.specs.Chained.{retold}
use Rattle.chumsky_parser.specs.Failure.{Refuses, expects}

module _ {V Er St : Type 0} where
  -- the outcome with its events replaced by their primary one, if there is one
  abbrev pub as_one : (Er → Er → Er) → Outcome V Er St → Outcome V Er St
  as_one merged p = record p { events = option_to_list (primary merged p.events) }

  -- an outcome with one event at most; or the merge of that event with an earlier one was refused
  abbrev pub OrClash : Outcome V Er St → Outcome V Er St → Type 0
  OrClash whole o = (o ≡ whole) ⊎ ((e : Event Er) × (whole.events ≡ e ∷ []) × (o ≡ record whole { verdict = Clash e; events = [] }))

  -- the same where the event's error is built; or there was no memory to build it
  abbrev pub OrLacks : Type 0 → Outcome V Er St → Outcome V Er St → Type 0
  OrLacks safe whole o = Refuses (safe → ⊥) whole.state o ⊎ OrClash whole o

module _ {V W Er St : Type 0} where
  -- no where the part ended, with this event in place of those of the part
  abbrev pub failing : Event Er → Outcome V Er St → Outcome W Er St
  failing e p = record { verdict = No; end = p.end; state = p.state; events = e ∷ []; emitted = p.emitted }

-- what is made of a yes, and of a no, of a part
abbrev pub OfYes : (Tok Cx St Er V W : Type 0) → Type 1
OfYes Tok Cx St Er V W = Beginning Tok Cx St → Option V → Outcome V Er St → Outcome W Er St → Type 0

abbrev pub OfNo : (Tok Cx St Er V W : Type 0) → Type 1
OfNo Tok Cx St Er V W = Beginning Tok Cx St → Outcome V Er St → Outcome W Er St → Type 0

module _ {Tok Cx St Er V W : Type 0} where
  -- a stop of the part stands
  abbrev pub ByVerdict : Verdict V Er → OfYes Tok Cx St Er V W → OfNo Tok Cx St Er V W → Beginning Tok Cx St → Outcome V Er St → Outcome W Er St → Type 0
  ByVerdict (Yes v) on_yes on_no b p o = on_yes b v p o
  ByVerdict No on_yes on_no b p o = on_no b p o
  ByVerdict (Halt s) on_yes on_no b p o = o ≡ retold (Halt s) p
  ByVerdict (Clash e) on_yes on_no b p o = o ≡ retold (Clash e) p

  -- one outcome of the part, and what is made of it in place of it
  pub record Judged (part : Meaning Tok Cx St Er V) (on_yes : OfYes Tok Cx St Er V W) (on_no : OfNo Tok Cx St Er V W) (b : Beginning Tok Cx St) (o : Outcome W Er St) : Type 0 where
    pub first : Outcome V Er St
    pub meant : part b first
    pub judges : ByVerdict first.verdict on_yes on_no b first o

  -- a no of the part is the whole's, and its events count as one
  abbrev pub NoAsOne : (Er → Er → Er) → OfNo Tok Cx St Er V W
  NoAsOne merged b p o = OrClash (retold No (as_one merged p)) o

module _ {Tok Cx St Er : Type 0} (merged : Er → Er → Er) (safe : Type 0) where
  -- a failure whose event is put after an older one; or there is no memory to merge the two
  abbrev pub FailsAsOne : Option (Event Er) → Held Tok Cx St Er → Held Tok Cx St Er → Fault → Type 0
  FailsAsOne older old new fault.Fail = new ≡ kept_after merged older old
  FailsAsOne older old new (fault.Stop s) = (s ≡ Memory) × ClashesWith safe older old.kept × (new ≡ record old { kept = None })

module _ {I Tok Sp Cu Er : Type 0} (source : input_trait.Ghosts I Cu Tok Sp) (errors : error_trait.Ghosts Er I Tok Sp) where
  -- something else than what stands at a place was expected there, spanning to another one
  abbrev pub something_else : Layout Tok → ℕ → ℕ → Event errors.Seen
  something_else ts place to = expects source errors ts (wanted.SomethingElse ∷ []) (slice_get ts.list place) place to
