-- A part that is run by itself, within a closure: its events count as one.
use Rattle.std.specs.Prelude.{◌≡◌, ℕ, Bool, Option, Some, None, List, ◌++◌, Result, Ok, Err, option_to_list, ◌⊎◌}
use Rattle.chumsky_input.specs.Layout.{Layout}
use Rattle.chumsky_input.specs.declared.error.Error as error_trait
use Rattle.chumsky_input.specs.declared.inspector.Inspector as inspector_trait
use Rattle.chumsky_input.specs.declared.input.Input as input_trait
use Rattle.chumsky_input.specs.declared.input_ref.InputRef.{InputRef}
use Rattle.chumsky_input.specs.declared.stop.Stop.{Stop}
use Rattle.chumsky_input.specs.declared.stop.Stop.TheVariants.{Memory}
use Rattle.chumsky_input.specs.declared.stop.Failure.{Failure}
use Rattle.chumsky_input.specs.declared.stop.Failure.TheVariants as failure
use Rattle.chumsky_input.specs.Outcome.{Event, Meaning, Outcome, Verdict, Yes, No, Halt, Clash, HasEventAt}
use Rattle.chumsky_input.specs.Primary.{primary}
use Rattle.chumsky_input.specs.Held.{Held, held, first_stop}
use Rattle.chumsky_input.specs.Run.{begin, final_error}
use Rattle.chumsky_input.specs.Aside.{failure_seen, ClashesWith}

-- what a call that gives a value hands out, and one that gives none
abbrev pub handed_value : {V E S : Type 0} → (E → S) → Result V (Failure E) → Result (Option V) (Failure S)
handed_value seen (Ok v) = Ok (Some v)
handed_value seen (Err f) = Err (failure_seen seen f)

abbrev pub handed_check : {V E S : Type 0} → (E → S) → Result (Unit {0}) (Failure E) → Result (Option V) (Failure S)
handed_check seen (Ok _) = Ok None
handed_check seen (Err f) = Err (failure_seen seen f)

module _ {Tok Cx St Er V : Type 0} (merged : Er → Er → Er) (safe : Type 0) (final : Option (Event Er) → Layout Tok → ℕ → Er) where
  -- the place and the state of an outcome, and its emitted errors after older ones
  abbrev pub ended : Outcome V Er St → Held Tok Cx St Er → Held Tok Cx St Er
  ended o h = record h { place = o.end; state = o.state; emitted = h.emitted ++ o.emitted }

  -- a stop is handed out, and noted where none was; of what else is held the state is known
  abbrev pub HandsStop : Stop → Outcome V Er St → Held Tok Cx St Er → Held Tok Cx St Er → Result (Option V) (Failure Er) → Type 0
  HandsStop s o old new r = (r ≡ Err (failure.Stop s)) × (new.state ≡ o.state) × (new.stopped ≡ Some (first_stop old.stopped s))

  -- after a yes the part's one event is added, and after a no it is handed out; a stop is handed out too
  abbrev pub HandsBy : Verdict V Er → Outcome V Er St → Held Tok Cx St Er → Held Tok Cx St Er → Result (Option V) (Failure Er) → Type 0
  HandsBy (Yes v) o old new r =
      ((r ≡ Ok v) × (new ≡ record (ended o old) { kept = primary merged (option_to_list old.kept ++ option_to_list (primary merged o.events)) }))
      ⊎ (HandsStop Memory o old new r × ClashesWith safe old.kept (primary merged o.events))
  HandsBy No o old new r =
      ((r ≡ Err (failure.Error (final (primary merged o.events) old.tokens o.end))) × (new ≡ ended o old))
      ⊎ (HandsStop Memory o old new r × (safe → ⊥) × (primary merged o.events ≡ None))
  HandsBy (Halt s) o old new r = HandsStop s o old new r
  HandsBy (Clash e) o old new r = HandsStop Memory o old new r × (safe → ⊥) × HasEventAt e.place o.events

  -- one outcome of the part, and what is made of it
  pub record RanApart (meaning : Meaning Tok Cx St Er V) (wanted : Bool) (old new : Held Tok Cx St Er) (result : Result (Option V) (Failure Er)) : Type 0 where
    pub outcome : Outcome V Er St
    pub meant : meaning (begin wanted old) outcome
    pub hands : HandsBy outcome.verdict outcome old new result

module _ {I X Tok Sp Cu Er St Cx Mk V : Type 0} (source : input_trait.Ghosts I Cu Tok Sp) (errors : error_trait.Ghosts Er I Tok Sp) (states : inspector_trait.Ghosts St I Mk Tok Sp) where
  -- the run from `old` to `new` is a part run by itself, asked for a value or not, and what is handed out of one outcome of it
  abbrev pub RunsApart : Meaning Tok Cx states.Seen errors.Seen V → Bool → InputRef I X Cu Tok Sp Er St Cx Mk → InputRef I X Cu Tok Sp Er St Cx Mk → Result (Option V) (Failure errors.Seen) → Type 0
  RunsApart meaning wanted old new result =
      RanApart errors.merged errors.takes_no_memory (final_error errors.expectation source.span_between) meaning
      wanted (held source errors states old) (held source errors states new) result
