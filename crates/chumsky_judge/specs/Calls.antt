-- What the calls of these parsers make of the run that they are lent.
-- Main words: Changes, FailsWith, RunsAnyway.
use Rattle.std.specs.Prelude.{◌≡◌, Bool, Result}
use Rattle.chumsky_input.specs.declared.error.Error as error_trait
use Rattle.chumsky_input.specs.declared.inspector.Inspector as inspector_trait
use Rattle.chumsky_input.specs.declared.input.Input as input_trait
use Rattle.chumsky_input.specs.declared.input_ref.InputRef.{InputRef}
use Rattle.chumsky_input.specs.declared.stop.Fault.{Fault}
use Rattle.chumsky_input.specs.Held.{Held, held}
use Rattle.chumsky_input.specs.Outcome.{Event}
use Rattle.chumsky_input.specs.Run.{Fails, Runs}
use Rattle.chumsky_input.specs.Words.{Does}
use Rattle.chumsky_parser.specs.Failure.{asked}

-- but for the state, nothing that the run holds has changed
abbrev pub SameButState : {Tok Cx St Er : Type 0} → Held Tok Cx St Er → Held Tok Cx St Er → Type 0
SameButState old new = new ≡ record old { state = new.state }

module _ {I X Tok Sp Cu Er St Cx Mk : Type 0} (source : input_trait.Ghosts I Cu Tok Sp) (errors : error_trait.Ghosts Er I Tok Sp) (states : inspector_trait.Ghosts St I Mk Tok Sp) where
  -- a call changes what the run holds in this way
  abbrev pub Changes : (Held Tok Cx states.Seen errors.Seen → Held Tok Cx states.Seen errors.Seen → Type 0) → InputRef I X Cu Tok Sp Er St Cx Mk → InputRef I X Cu Tok Sp Er St Cx Mk → Type 0
  Changes way old new = way (held source errors states old) (held source errors states new)

  -- a call fails with this event, or there is no memory for its error or to merge it with the one that is kept
  abbrev pub FailsWith : Event errors.Seen → InputRef I X Cu Tok Sp Er St Cx Mk → InputRef I X Cu Tok Sp Er St Cx Mk → Fault → Type 0
  FailsWith event old new fault = Fails errors.merged errors.takes_no_memory event (held source errors states old) (held source errors states new) fault

  -- a run for a value, where one is wanted and where none is, shows one outcome of what is done
  abbrev pub RunsAnyway : {V : Type 0} → Does I Tok Sp Er St Mk Cx V → InputRef I X Cu Tok Sp Er St Cx Mk → InputRef I X Cu Tok Sp Er St Cx Mk → Result V Fault → Type 0
  RunsAnyway does old new result = (wanted : Bool) → Runs source errors states (does errors states) wanted old new (asked wanted result)
