-- One more alternative, and what runs of several show.
-- Main words: GoesToNext, RunsNext, RunsFirst, RunsAmong. Read first: Among.antt.
use Rattle.std.specs.Prelude.{◌≡◌, Bool, Option, None, Result, Ok, Err, List, [], ◌⊎◌, map}
use Rattle.chumsky_input.specs.declared.error.Error as error_trait
use Rattle.chumsky_input.specs.declared.inspector.Inspector as inspector_trait
use Rattle.chumsky_input.specs.declared.input.Input as input_trait
use Rattle.chumsky_input.specs.declared.input_ref.InputRef.{InputRef}
use Rattle.chumsky_input.specs.declared.input_ref.Checkpoint.{Checkpoint}
use Rattle.chumsky_input.specs.declared.stop.Fault.{Fault}
use Rattle.chumsky_input.specs.declared.stop.Fault.TheVariants as fault
use Rattle.chumsky_input.specs.declared.stop.Stop.TheVariants.{Memory}
use Rattle.chumsky_input.specs.Outcome.{Meaning}
use Rattle.chumsky_input.specs.Words.{Does}
use Rattle.chumsky_input.specs.Held.{Held, Marks, held, marks}
use Rattle.chumsky_input.specs.Run.{Ran, Runs, Fails, gone_back}
use Rattle.chumsky_parser.specs.Choice.{FirstOf}
use Rattle.chumsky_parser.specs.Failure.{expects}
use Rattle.chumsky_choice.specs.Among.{FirstAmong}

module _ {Tok Cx St Mk Er V : Type 0} (merged : Er → Er → Er) (safe : Type 0) (back : St → Mk → St) (quiet : Type 0)
    (mark : Marks Tok Mk) (next : Meaning Tok Cx St Er V) (wanted : Bool) (old new : Held Tok Cx St Er) where
  -- after a failure the next alternative, gone back to by the mark unless memory is wanting; any other answer stands
  abbrev pub NextAfter : Result (Option V) Fault → Result (Option V) Fault → Type 0
  NextAfter (Ok v) r = (r ≡ Ok v) × (new ≡ old)
  NextAfter (Err (fault.Stop s)) r = (r ≡ Err (fault.Stop s)) × (new ≡ old)
  NextAfter (Err fault.Fail) r = ((r ≡ Err (fault.Stop Memory)) × (quiet → ⊥) × (new ≡ old)) ⊎ Ran merged safe next wanted (gone_back back old mark) new r

  pub record GoesToNext (tried result : Result (Option V) Fault) : Type 0 where
    pub after : NextAfter tried result

module _ {I X Tok Sp Cu Er St Cx Mk : Type 0} (source : input_trait.Ghosts I Cu Tok Sp) (errors : error_trait.Ghosts Er I Tok Sp) (states : inspector_trait.Ghosts St I Mk Tok Sp) where
  -- the run from `old` to `new` goes on after an answer with the next alternative, by a checkpoint
  abbrev pub RunsNext : {V : Type 0} → Checkpoint Cu Mk → Does I Tok Sp Er St Mk Cx V → Bool
      → InputRef I X Cu Tok Sp Er St Cx Mk → InputRef I X Cu Tok Sp Er St Cx Mk → Result (Option V) Fault
      → Result (Option V) Fault → Type 0
  RunsNext before next wanted old new tried result =
      GoesToNext errors.merged errors.takes_no_memory states.back states.takes_no_memory (marks source states before)
      (next errors states) wanted (held source errors states old) (held source errors states new) tried result

  -- the run shows the first that does not say no of a parser and some others
  abbrev pub RunsFirst : {P V : Type 0} → (P → Does I Tok Sp Er St Mk Cx V) → P → List P → Bool
      → InputRef I X Cu Tok Sp Er St Cx Mk → InputRef I X Cu Tok Sp Er St Cx Mk → Result (Option V) Fault → Type 0
  RunsFirst meaning first others wanted old new result =
      Runs source errors states (FirstOf states.mark states.back states.takes_no_memory (meaning first errors states) (map (λ p. meaning p errors states) others)) wanted old new result

  -- the run shows the first that does not say no of some parsers, if there is one
  abbrev pub RunsAmong : {P V : Type 0} → (P → Does I Tok Sp Er St Mk Cx V) → List P → Bool → InputRef I X Cu Tok Sp Er St Cx Mk → InputRef I X Cu Tok Sp Er St Cx Mk → Result (Option V) Fault → Type 0
  RunsAmong meaning parsers wanted old new result = Runs source errors states (FirstAmong source errors states (map (λ p. meaning p errors states) parsers)) wanted old new result

  -- the run fails where it stands, and expects nothing there
  abbrev pub ExpectsNothing : InputRef I X Cu Tok Sp Er St Cx Mk → InputRef I X Cu Tok Sp Er St Cx Mk → Fault → Type 0
  ExpectsNothing old new fault =
      let here = held source errors states old in
      Fails errors.merged errors.takes_no_memory (expects source errors here.tokens [] None here.place here.place) here (held source errors states new) fault
