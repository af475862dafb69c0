-- What a run sets aside and brings back, and where a closure that is lent one may leave it.
use Rattle.std.specs.Prelude.{◌≡◌, ℕ, ◌≤◌, ◌++◌, length, take, [], None, Some, Option, List, Result, Ok, Err, option_to_list}
use Rattle.chumsky_input.specs.declared.stop.Stop.TheVariants.{Memory}
use Rattle.chumsky_input.specs.declared.stop.Failure.{Failure}
use Rattle.chumsky_input.specs.declared.stop.Failure.TheVariants as failure
use Rattle.chumsky_input.specs.Layout.{Layout}
use Rattle.chumsky_input.specs.Outcome.{Event, HasEventAt}
use Rattle.chumsky_input.specs.Primary.{primary}
use Rattle.chumsky_input.specs.Held.{Held, with_stop, PassesOn}

-- a failure, by what counts of its error
abbrev pub failure_seen : {E S : Type 0} → (E → S) → Failure E → Failure S
failure_seen seen (failure.Error e) = failure.Error (seen e)
failure_seen seen (failure.Stop s) = failure.Stop s

module _ {Tok Cx St Er : Type 0} where
  -- the same tokens, the same context, a place not before, the emitted errors before any new ones, and no stop noted in between
  pub record Forward (old new : Held Tok Cx St Er) : Type 0 where
    pub tokens : new.tokens ≡ old.tokens
    pub context : new.context ≡ old.context
    pub place : old.place ≤ new.place
    pub emitted : take (length old.emitted) new.emitted ≡ old.emitted
    pub stopped : new.stopped ≡ old.stopped

  -- so after a value and after an error; and a stop is passed on
  abbrev pub GoesForward : {V E : Type 0} → Result V (Failure E) → Held Tok Cx St Er → Held Tok Cx St Er → Type 0
  GoesForward (Ok v) old new = Forward old new
  GoesForward (Err (failure.Error e)) old new = Forward old new
  GoesForward (Err (failure.Stop s)) old new = PassesOn s old new

  -- nothing kept, nothing emitted
  abbrev pub without_errors : Held Tok Cx St Er → Held Tok Cx St Er
  without_errors h = record h { kept = None; emitted = [] }

  -- but for what is kept and emitted, nothing has changed
  abbrev pub SameButErrors : Held Tok Cx St Er → Held Tok Cx St Er → Type 0
  SameButErrors old new = new ≡ record old { kept = new.kept; emitted = new.emitted }

module _ {Er : Type 0} (safe : Type 0) where
  -- an event that is kept could not be merged with an older one, at its place
  abbrev pub ClashesWith : Option (Event Er) → Option (Event Er) → Type 0
  ClashesWith older kept = (e : Event Er) × (kept ≡ Some e) × (safe → ⊥) × HasEventAt e.place (option_to_list older)

module _ {Tok Cx St Er : Type 0} (merged : Er → Er → Er) where
  -- an older event, before the one that is kept
  abbrev pub kept_after : Option (Event Er) → Held Tok Cx St Er → Held Tok Cx St Er
  kept_after older h = record h { kept = primary merged (option_to_list older ++ option_to_list h.kept) }

  -- older errors, before those that are held
  abbrev pub brought_back : Option (Event Er) → List Er → Held Tok Cx St Er → Held Tok Cx St Er
  brought_back older emitted h = record h { kept = primary merged (option_to_list older ++ option_to_list h.kept); emitted = emitted ++ h.emitted }

module _ {Tok Cx St Er : Type 0} (safe : Type 0) (final : Option (Event Er) → Layout Tok → ℕ → Er) where
  -- the last error of a failure is handed out and an older event kept in its place; or there is no memory to build one
  abbrev pub HandsOut : Option (Event Er) → Held Tok Cx St Er → Held Tok Cx St Er → Failure Er → Type 0
  HandsOut older old new (failure.Error e) = (e ≡ final old.kept old.tokens old.place) × (new ≡ record old { kept = older })
  HandsOut older old new (failure.Stop s) = (s ≡ Memory) × (safe → ⊥) × (old.kept ≡ None) × (new ≡ with_stop Memory old)
