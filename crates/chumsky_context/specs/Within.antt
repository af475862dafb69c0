-- Runs over the whole of an input that another part gave.
-- Main words: Within, MeansNestedIn, RunsWhole, SameOverBoth. Laws: WithinLaws.antt.
use Rattle.std.specs.Prelude.{◌≡◌, ℕ, Bool, true, Option, Some, None, List, [], ◌∷◌, map, option_map, option_to_list, Result, Ok, Err, ◌⊎◌}
use Rattle.chumsky_input.specs.declared.error.Error as error_trait
use Rattle.chumsky_input.specs.declared.inspector.Inspector as inspector_trait
use Rattle.chumsky_input.specs.declared.input.Input as input_trait
use Rattle.chumsky_input.specs.declared.stop.Fault.{Fault}
use Rattle.chumsky_input.specs.declared.stop.Fault.TheVariants as fault
use Rattle.chumsky_input.specs.declared.input_ref.InputRef.{InputRef}
use Rattle.chumsky_input.specs.Held.{Held, held}
use Rattle.chumsky_input.specs.Outcome.{Event, Meaning, Beginning, Outcome, Verdict, Yes, No, Halt, Clash}
use Rattle.chumsky_input.specs.Run.{Ran, Runs}
use Rattle.chumsky_input.specs.Aside.{brought_back, ClashesWith, SameButErrors}
use Rattle.chumsky_input.specs.Words.{Does}
use Rattle.chumsky_parser.specs.Chained.{Chained, Asked}
use Rattle.chumsky_parser.specs.Failure.{Refuses}
use Rattle.chumsky_parser.specs.Ignoring.{IgnoringSecond}
use Rattle.chumsky_primitive.specs.End.{MeansEnd}
use Rattle.chumsky_context.specs.declared.nested_in.NestedIn.{NestedIn}

-- what a run over an input of its own came to: its answer, the error that it ends with, those that it emitted, and its state
pub record RunReport (W Er St : Type 0) : Type 0 where
  pub answer : Result W Fault
  pub error : Option Er
  pub emitted : List Er
  pub state : St

-- the report that has these
abbrev pub report_of : {W Er St : Type 0} → Result W Fault → Option Er → List Er → St → RunReport W Er St
report_of answer error emitted state = record { answer = answer; error = error; emitted = emitted; state = state }

-- the verdict of an answer
abbrev pub verdict_of : {V Er : Type 0} → Result (Option V) Fault → Verdict V Er
verdict_of (Ok v) = Yes v
verdict_of (Err fault.Fail) = No
verdict_of (Err (fault.Stop s)) = Halt s

module _ {J Tok Sp Cu Er St Mk : Type 0} (source : input_trait.Ghosts J Cu Tok Sp) (errors : error_trait.Ghosts Er J Tok Sp) (states : inspector_trait.Ghosts St J Mk Tok Sp) where
  -- the part, and then the end of its input
  abbrev pub ToEnd : {Cx V : Type 0} → Meaning Tok Cx states.Seen errors.Seen V → Meaning Tok Cx states.Seen errors.Seen V
  ToEnd part = IgnoringSecond part (MeansEnd source errors states)

  -- held at the start of an input, with nothing kept and nothing emitted
  abbrev pub held_at_start : {Cx : Type 0} → J → Cx → St → Held Tok Cx states.Seen errors.Seen
  held_at_start input context state = record { tokens = source.tokens input; place = 0; context = context; state = states.seen state; kept = None; emitted = []; stopped = None }

  -- the report has this answer, and an error and emitted errors that count as these
  abbrev pub ReportIs : {W : Type 0} → Result W Fault → Option errors.Seen → List errors.Seen → RunReport W Er St → Type 0
  ReportIs a e es r = (r.answer ≡ a) × (option_map errors.seen r.error ≡ e) × (map errors.seen r.emitted ≡ es)

  -- the kept error is reported, if there is one, with the emitted ones; a stop is reported alone
  abbrev pub ReportsRun : {Cx W : Type 0} → Result W Fault → Held Tok Cx states.Seen errors.Seen → RunReport W Er St → Type 0
  ReportsRun (Ok v) h r = ReportIs (Ok v) (option_map (λ e. e.error) h.kept) h.emitted r
  ReportsRun (Err fault.Fail) h r = ReportIs (Err fault.Fail) (option_map (λ e. e.error) h.kept) h.emitted r
  ReportsRun (Err (fault.Stop s)) h r = ReportIs (Err (fault.Stop s)) None [] r

  -- the part's run from the start of an input, on a state and under a context, is reported
  pub record RunsWhole {Cx V : Type 0} (part : Meaning Tok Cx states.Seen errors.Seen V) (wanted : Bool) (input : J) (context : Cx) (state : St) (report : RunReport (Option V) Er St) : Type 0 where
    pub last : Held Tok Cx states.Seen errors.Seen
    pub answer : Result (Option V) Fault
    pub ran : Ran errors.merged errors.takes_no_memory part wanted (held_at_start input context state) last answer
    pub reported : ReportsRun answer last report
    pub left : states.seen report.state ≡ last.state

  -- what is done over the whole of an input, on a state and under a context, is reported
  abbrev pub ReportsWhole : {Cx V : Type 0} → Does J Tok Sp Er St Mk Cx V → Bool → J → Cx → St → RunReport (Option V) Er St → Type 0
  ReportsWhole does wanted input context state report = RunsWhole (ToEnd (does errors states)) wanted input context state report

-- an error, as an event at a place
abbrev pub event_at : {Er S : Type 0} → (Er → S) → ℕ → Er → Event S
event_at seen place e = record { place = place; error = seen e }

module _ {I Tok Sp Er St Mk : Type 0} (errors : error_trait.Ghosts Er I Tok Sp) (states : inspector_trait.Ghosts St I Mk Tok Sp) where
  -- the outcome that a report stands for: its error is one event at a place, and its emitted errors are emitted
  abbrev pub outcome_of_report : {V : Type 0} → ℕ → ℕ → RunReport (Option V) Er St → Outcome V errors.Seen states.Seen
  outcome_of_report place end r =
      record {
        verdict = verdict_of r.answer;
        end = end;
        state = states.seen r.state;
        events = option_to_list (option_map (event_at errors.seen place) r.error);
        emitted = map errors.seen r.emitted;
      }

module _ {Tok Cx St Er : Type 0} (merged : Er → Er → Er) where
  -- an event, if there is one, and emitted errors are added after those that are held
  abbrev pub with_errors : Option (Event Er) → List Er → Held Tok Cx St Er → Held Tok Cx St Er
  with_errors e es h = brought_back merged h.kept h.emitted (record h { kept = e; emitted = es })

module _ {Tok Cx St Er : Type 0} (merged : Er → Er → Er) (safe : Type 0) where
  -- they are added; or there was no memory to merge the event, or to put the errors after others
  abbrev pub AddsReported : {E : Type 0} → Option (Event Er) → List Er → Held Tok Cx St Er → Held Tok Cx St Er → Result (Unit {0}) E → Type 0
  AddsReported e es old new (Ok _) = new ≡ with_errors merged e es old
  AddsReported e es old new (Err _) = (ClashesWith safe old.kept e ⊎ (es ≡ [] → ⊥)) × SameButErrors old new

module _ {I X Tok Sp Cu Er St Cx Mk : Type 0} (source : input_trait.Ghosts I Cu Tok Sp) (errors : error_trait.Ghosts Er I Tok Sp) (states : inspector_trait.Ghosts St I Mk Tok Sp) where
  -- the error that another run ended with is added as an event at a place, if there is one, and those that it emitted after the run's
  abbrev pub AddsErrors : {E : Type 0} → ℕ → Option Er → List Er → InputRef I X Cu Tok Sp Er St Cx Mk → InputRef I X Cu Tok Sp Er St Cx Mk → Result (Unit {0}) E → Type 0
  AddsErrors place error emitted old new result =
      AddsReported errors.merged errors.takes_no_memory (option_map (event_at errors.seen place) error) (map errors.seen emitted) (held source errors states old) (held source errors states new) result

module _ {V Er St : Type 0} where
  -- there was no memory to merge the only event of an outcome with an earlier one
  pub record ClashesAlone (whole o : Outcome V Er St) : Type 0 where
    pub event : Event Er
    pub alone : whole.events ≡ event ∷ []
    pub verdict : o.verdict ≡ Clash event
    pub before : o.events ≡ []
    pub state : o.state ≡ whole.state

  -- an outcome; or there is no memory to merge its event, or to put its emitted errors after others
  abbrev pub OrOutOfMemory : Outcome V Er St → Outcome V Er St → Type 0
  OrOutOfMemory whole o = (o ≡ whole) ⊎ (ClashesAlone whole o ⊎ Refuses (whole.emitted ≡ [] → ⊥) whole.state o)

module _ {J Tok Sp Cu Mk Er St I Tok' Sp' Mk' Cx V : Type 0} (source : input_trait.Ghosts J Cu Tok Sp)
    (errors : error_trait.Ghosts Er J Tok Sp) (states : inspector_trait.Ghosts St J Mk Tok Sp)
    (errors' : error_trait.Ghosts Er I Tok' Sp') (states' : inspector_trait.Ghosts St I Mk' Tok' Sp') where
  -- the part runs over the given input, on a state that counts as the run's, and its report is told at a place; or there is no
  -- memory for that
  pub record Within (part : Meaning Tok Cx states.Seen errors.Seen V) (place : ℕ) (given : Option J) (b : Beginning Tok' Cx states'.Seen) (o : Outcome V errors'.Seen states'.Seen) : Type 0 where
    pub input : J
    pub is : given ≡ Some input
    pub state : St
    pub begins : states'.seen state ≡ b.state
    pub report : RunReport (Option V) Er St
    pub runs : RunsWhole source errors states part b.wanted input b.context state report
    pub does : OrOutOfMemory (outcome_of_report errors' states' place b.start report) o

  -- the outer part for its value, an input, and then the inner part over that; the report is told where the outer part began
  abbrev pub MeansNestedIn : Meaning Tok Cx states.Seen errors.Seen V → Meaning Tok' Cx states'.Seen errors'.Seen J → Meaning Tok' Cx states'.Seen errors'.Seen V
  MeansNestedIn inner outer b o = Chained (Asked true outer) (Within inner b.start) b o

module _ {J Tok Sp Cu Mk Er St I Tok' Sp' Mk' : Type 0} (source : input_trait.Ghosts J Cu Tok Sp)
    (errors : error_trait.Ghosts Er J Tok Sp) (states : inspector_trait.Ghosts St J Mk Tok Sp)
    (errors' : error_trait.Ghosts Er I Tok' Sp') (states' : inspector_trait.Ghosts St I Mk' Tok' Sp') where
  -- errors that count as the same over the inner input do so over the outer one, states do in both directions, and inputs that
  -- are the same have the same tokens
  pub record SameOverBoth (same : J → J → Type 0) : Type 0 where
    pub same_errors : (x y : Er) → errors.seen x ≡ errors.seen y → errors'.seen x ≡ errors'.seen y
    pub same_states : (x y : St) → states.seen x ≡ states.seen y → states'.seen x ≡ states'.seen y
    pub same_states_within : (x y : St) → states'.seen x ≡ states'.seen y → states.seen x ≡ states.seen y
    pub same_tokens : (x y : J) → same x y → source.tokens x ≡ source.tokens y

  -- `nested_in` is steady where both its parts are, and errors and states count as the same over both inputs
  abbrev pub SteadyNested : {A B C S M : Type 0} → (A → Type 0) → (B → Type 0) → (B → J → J → Type 0) → (NestedIn A B J C Tok S M → Type 0) → NestedIn A B J C Tok S M → Type 0
  SteadyNested inner outer same nested p = inner p.parser → outer p.outer → SameOverBoth (same p.outer) → nested p

module _ {J Tok Sp Cu Mk Er St I X Tok' Sp' Cu' Mk' Cx V : Type 0} (source : input_trait.Ghosts J Cu Tok Sp)
    (errors : error_trait.Ghosts Er J Tok Sp) (states : inspector_trait.Ghosts St J Mk Tok Sp)
    (source' : input_trait.Ghosts I Cu' Tok' Sp') (errors' : error_trait.Ghosts Er I Tok' Sp')
    (states' : inspector_trait.Ghosts St I Mk' Tok' Sp') where
  -- a run shows one outcome of what is done over the whole of another input, which is told at a place
  abbrev pub RunsWithin : Does J Tok Sp Er St Mk Cx V → ℕ → J → Bool → InputRef I X Cu' Tok' Sp' Er St Cx Mk' → InputRef I X Cu' Tok' Sp' Er St Cx Mk' → Result (Option V) Fault → Type 0
  RunsWithin does place input wanted old new result =
      Runs source' errors' states'
      (Within source errors states errors' states' (ToEnd source errors states (does errors states)) place (Some input))
      wanted old new result
