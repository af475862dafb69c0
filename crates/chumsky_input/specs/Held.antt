-- What counts of what a run holds.
use Rattle.std.specs.Prelude.{◌≡◌, ℕ, Option, Some, None, List, [], map, option_map}
use Rattle.chumsky_input.specs.Layout.{Layout}
use Rattle.chumsky_input.specs.declared.error.Error as error_trait
use Rattle.chumsky_input.specs.declared.inspector.Inspector as inspector_trait
use Rattle.chumsky_input.specs.declared.input.Input as input_trait
use Rattle.chumsky_input.specs.declared.stop.Stop.{Stop}
use Rattle.chumsky_input.specs.declared.input_ref.InputRef.{InputRef}
use Rattle.chumsky_input.specs.declared.input_ref.Located.{Located}
use Rattle.chumsky_input.specs.declared.input_ref.Checkpoint.{Checkpoint}
use Rattle.chumsky_input.specs.Outcome.{Event}

-- the tokens, the place, the context, the state, the error that is kept, those that were emitted, and the first stop of a parser that a closure ran
pub record Held (Tok Cx St Er : Type 0) : Type 0 where
  pub tokens : Layout Tok
  pub place : ℕ
  pub context : Cx
  pub state : St
  pub kept : Option (Event Er)
  pub emitted : List Er
  pub stopped : Option Stop

-- the first stop: the one that was noted, or else this one
abbrev pub first_stop : Option Stop → Stop → Stop
first_stop (Some t) s = t
first_stop None s = s

module _ {Tok Cx St Er : Type 0} where
  -- a run that begins at this place, with no error and no stop
  abbrev pub begun_at : Layout Tok → ℕ → Cx → St → Held Tok Cx St Er
  begun_at tokens place context state = record { tokens = tokens; place = place; context = context; state = state; kept = None; emitted = []; stopped = None }

  -- a stop is noted, where none was
  abbrev pub with_stop : Stop → Held Tok Cx St Er → Held Tok Cx St Er
  with_stop s h = record h { stopped = Some (first_stop h.stopped s) }

  -- a stop that is answered is the first one, if any was noted in between
  abbrev pub PassesOn : Stop → Held Tok Cx St Er → Held Tok Cx St Er → Type 0
  PassesOn s old new = first_stop new.stopped s ≡ first_stop old.stopped s

-- an event, of an error and its place
abbrev pub located : {E S : Type 0} → (E → S) → Located E → Event S
located seen l = record { place = l.place; error = seen l.error }

module _ {I X Tok Sp Cu Er St Cx Mk : Type 0} (source : input_trait.Ghosts I Cu Tok Sp) (errors : error_trait.Ghosts Er I Tok Sp) (states : inspector_trait.Ghosts St I Mk Tok Sp) where
  abbrev pub held : InputRef I X Cu Tok Sp Er St Cx Mk → Held Tok Cx states.Seen errors.Seen
  held inp =
      record {
        tokens = source.cursor_tokens inp.cursor;
        place = source.place inp.cursor;
        context = inp.context.now;
        state = states.seen inp.state.now;
        kept = option_map (located errors.seen) inp.kept;
        emitted = map errors.seen inp.emitted.items;
        stopped = inp.stopped;
      }

-- what a checkpoint holds
pub record Marks (Tok Mk : Type 0) : Type 0 where
  pub tokens : Layout Tok
  pub place : ℕ
  pub emitted : ℕ
  pub mark : Mk

module _ {I Tok Sp Cu St Mk : Type 0} (source : input_trait.Ghosts I Cu Tok Sp) (states : inspector_trait.Ghosts St I Mk Tok Sp) where
  abbrev pub marks : Checkpoint Cu Mk → Marks Tok states.Marked
  marks c = record { tokens = source.cursor_tokens c.cursor; place = source.place c.cursor; emitted = c.emitted; mark = states.marked c.mark }
