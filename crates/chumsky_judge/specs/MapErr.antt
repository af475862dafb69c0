-- A part whose failures are mapped.
use Rattle.std.specs.Prelude.{◌≡◌, Option, Some, None, ◌∷◌, [], option_map}
use Rattle.std.specs.Borrow.{MutBor}
use Rattle.std.specs.Fn.{Shared}
use Rattle.chumsky_input.specs.declared.error.Error as error_trait
use Rattle.chumsky_input.specs.declared.inspector.Inspector as inspector_trait
use Rattle.chumsky_input.specs.declared.input.Input as input_trait
use Rattle.chumsky_input.specs.declared.input_ref.InputRef.{InputRef}
use Rattle.chumsky_input.specs.declared.input_ref.Located.{Located}
use Rattle.chumsky_input.specs.declared.stop.Fault.{Fault}
use Rattle.chumsky_input.specs.declared.stop.Fault.TheVariants as fault
use Rattle.chumsky_input.specs.Extra.{Shown}
use Rattle.chumsky_input.specs.Held.{Held, held, located}
use Rattle.chumsky_input.specs.Outcome.{Event, Meaning, Beginning, Outcome, Yes, No}
use Rattle.chumsky_input.specs.Primary.{primary}
use Rattle.chumsky_input.specs.Run.{Adds}
use Rattle.chumsky_parser.specs.Chained.{retold}
use Rattle.chumsky_judge.specs.Judged.{as_one, failing, OrClash, OfYes, OfNo, Judged}
use Rattle.chumsky_judge.specs.TriedWith.{shown_of}

-- what a mapper of errors makes of one, by what counts of them
pub record MapsSeen {E S : Type 0} (seen : E → S) (gives : E → E → Type 0) (e r : S) : Type 0 where
  pub error : E
  pub result : E
  pub counts : seen error ≡ e
  pub result_counts : seen result ≡ r
  pub says : gives error result

-- what a mapper of errors may make of one, shown the part that failed: another, and the state that it leaves
abbrev pub ErrMaps : (Tok Cx St Er : Type 0) → Type 1
ErrMaps Tok Cx St Er = Shown Tok Cx St → Er → Er → St → Type 0

-- a mapper that is handed the error alone
abbrev pub Alone : {Tok Cx St Er : Type 0} → (Er → Er → Type 0) → ErrMaps Tok Cx St Er
Alone maps x e r s = maps e r × (s ≡ x.state)

-- what a mapper that is shown the run makes of an error, by what counts of them
pub record MapsShown {Tok Cx St E S : Type 0} (seen : E → S) (says : E → Shown Tok Cx St → E → St → Type 0) (x : Shown Tok Cx St) (e r : S) (s : St) : Type 0 where
  pub error : E
  pub result : E
  pub counts : seen error ≡ e
  pub result_counts : seen result ≡ r
  pub answers : says error x result s

module _ {I Tok Sp Er St Mk : Type 0} (errors : error_trait.Ghosts Er I Tok Sp)
    (states : inspector_trait.Ghosts St I Mk Tok Sp) {F : Type 0}
    (calls : Shared F (Er × (Sp × (MutBor St × Unit {0}))) (Er × (MutBor St × Unit {0}))) (f : F) where
  -- what a mapper that is handed a span and the state makes of an error
  pub record MapsWithState (span : Sp) (from : states.Seen) (e r : errors.Seen) (s : states.Seen) : Type 0 where
    pub error : Er
    pub result : Er
    pub lent : MutBor St
    pub left : MutBor St
    pub counts : errors.seen error ≡ e
    pub result_counts : errors.seen result ≡ r
    pub met : calls.post f (error, (span, (lent, tt))) (result, (left, tt))
    pub shows : states.seen lent.now ≡ from
    pub leaves : states.seen left.now ≡ s

module _ {Tok Cx St Er V : Type 0} (merged : Er → Er → Er) where
  -- the events of a yes count as one
  abbrev pub YesAsOne : OfYes Tok Cx St Er V V
  YesAsOne b v p o = OrClash (retold (Yes v) (as_one merged p)) o

module _ {Tok Cx St Er V : Type 0} (merged : Er → Er → Er) (maps : ErrMaps Tok Cx St Er) where
  -- a failure whose one event is mapped, at its place; without an event nothing is mapped
  abbrev pub MappedAs : Option (Event Er) → OfNo Tok Cx St Er V V
  MappedAs None b p o = o ≡ retold No (as_one merged p)
  MappedAs (Some e) b p o = (r : Er) × (s : St) × maps (shown_of b p.end p.state) e.error r s × OrClash (record (failing (record { place = e.place; error = r }) p) { state = s }) o

  abbrev pub NoMapped : OfNo Tok Cx St Er V V
  NoMapped b p o = MappedAs (primary merged p.events) b p o

  pub record MeansMapErr (part : Meaning Tok Cx St Er V) (b : Beginning Tok Cx St) (o : Outcome V Er St) : Type 0 where
    pub run : Judged part (YesAsOne merged) NoMapped b o

module _ {Tok Cx St Er : Type 0} (merged : Er → Er → Er) (safe : Type 0) (maps : Er → Er → St → Type 0) where
  -- the event that is kept, if there is one, is mapped and put after an older one
  abbrev pub MapsKept : Option (Event Er) → Option (Event Er) → Held Tok Cx St Er → Held Tok Cx St Er → Fault → Type 0
  MapsKept None older old new f = (f ≡ fault.Fail) × (new ≡ record old { kept = older })
  MapsKept (Some e) older old new f = (r : Er) × (s : St) × maps e.error r s × Adds merged safe (record { place = e.place; error = r }) (record old { kept = older; state = s }) new f

module _ {I X Tok Sp Cu Er St Cx Mk : Type 0} (source : input_trait.Ghosts I Cu Tok Sp) (errors : error_trait.Ghosts Er I Tok Sp) (states : inspector_trait.Ghosts St I Mk Tok Sp) where
  -- the same of the error that a run kept, by a mapper that may look at what the run holds
  abbrev pub MapsKeptOf : (Held Tok Cx states.Seen errors.Seen → errors.Seen → errors.Seen → states.Seen → Type 0)
      → Option (Located Er) → InputRef I X Cu Tok Sp Er St Cx Mk → InputRef I X Cu Tok Sp Er St Cx Mk → Fault → Type 0
  MapsKeptOf maps older old new fault =
      MapsKept errors.merged errors.takes_no_memory (maps (held source errors states old))
      (held source errors states old).kept (option_map (located errors.seen) older)
      (held source errors states old) (held source errors states new) fault

-- one result to each error
abbrev pub MapsOnce : {S : Type 0} → (S → S → Type 0) → Type 0
MapsOnce {S} maps = (e r r' : S) → maps e r → maps e r' → r ≡ r'

-- to each error and state, one result and one state
abbrev pub MapsOnceFrom : {St Er : Type 0} → (St → Er → Er → St → Type 0) → Type 0
MapsOnceFrom {St} {Er} maps = (x : St) (e r r' : Er) (s t : St) → maps x e r s → maps x e r' t → (r ≡ r') × (s ≡ t)

-- the same of a mapper that is shown the run
abbrev pub MapsOnceShown : {Tok Cx St Er : Type 0} → ErrMaps Tok Cx St Er → Type 0
MapsOnceShown {Tok} {Cx} {St} {Er} maps = (x : Shown Tok Cx St) (e r r' : Er) (s t : St) → maps x e r s → maps x e r' t → (r ≡ r') × (s ≡ t)
