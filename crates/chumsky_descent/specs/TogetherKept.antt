-- What functions that call each other keep of their calls: that they move, and that they are never refused for memory.
-- Main laws: together-moves, together-spares. Read first: Kept.antt.
use Rattle.std.proofs.Common.{ℕ, zero, suc}
use Rattle.chumsky_input.specs.Outcome.{EndsAfterStart}
use Rattle.chumsky_parser.specs.Memory.{NeverOutOfMemory}
use Rattle.chumsky_parser.specs.Progress.{Moves}
use Rattle.chumsky_combinator.specs.PartLaws.{onward-moves}
use Rattle.chumsky_descent.specs.CallLaws.{calls-end}
use Rattle.chumsky_descent.specs.Calls.{Bodies, CallsOf}
use Rattle.chumsky_descent.specs.Kept.{onward-spares, too_deep-moves, too_deep-spares}

module _ {Tok Cx St Er Name : Type 0} {V : Name → Type 0} (bodies : Bodies Tok Cx St Er Name V) where
  -- where a call of each function that is to move does, so do these functions
  abbrev pub KeepMoving : (Name → Type 0) → Type 0
  KeepMoving moving =
      (depth : ℕ) → ((called : Name) → EndsAfterStart (CallsOf bodies depth called)) → ((called : Name) → moving called → Moves (CallsOf bodies depth called))
      → (name : Name) → moving name → Moves (bodies name depth (CallsOf bodies depth))

  -- where a call of each is never refused for memory, no function is
  abbrev pub KeepSparing : Type 0
  KeepSparing = (depth : ℕ) → ((called : Name) → NeverOutOfMemory (CallsOf bodies depth called)) → (name : Name) → NeverOutOfMemory (bodies name depth (CallsOf bodies depth))

  calls-move : (moving : Name → Type 0) → KeepMoving moving → (depth : ℕ) (name : Name) → moving name → Moves (CallsOf bodies depth name)
  calls-move moving keep zero name m = too_deep-moves
  calls-move moving keep (suc depth) name m = onward-moves _ (keep depth (calls-end bodies depth) (calls-move moving keep depth) name m)

  calls-spare : KeepSparing → (depth : ℕ) (name : Name) → NeverOutOfMemory (CallsOf bodies depth name)
  calls-spare keep zero name = too_deep-spares
  calls-spare keep (suc depth) name = onward-spares _ (keep depth (calls-spare keep depth) name)

  -- as `KeepsMoving` asks it of one of them
  pub together-moves : (name : Name) (moving : Name → Type 0) → moving name → KeepMoving moving
      → (depth : ℕ) → EndsAfterStart (CallsOf bodies depth name) → Moves (CallsOf bodies depth name) → Moves (bodies name depth (CallsOf bodies depth))
  together-moves name moving m keep depth ends call = keep depth (calls-end bodies depth) (calls-move moving keep depth) name m

  -- and as `KeepsSparing` does
  pub together-spares : (name : Name) → KeepSparing → (depth : ℕ) → NeverOutOfMemory (CallsOf bodies depth name) → NeverOutOfMemory (bodies name depth (CallsOf bodies depth))
  together-spares name keep depth call = keep depth (calls-spare keep depth) name
