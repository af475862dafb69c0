-- A parser given by a reader, as by a closure.
use Rattle.std.specs.Prelude.{◌≡◌, ◌≤◌, Option, None, List, [], ◌∷◌, ◌++◌, Result, Ok, Err, option_to_list, ◌⊎◌, ⊤}
use Rattle.std.specs.Fn.{Shared}
use denote.Ref.{MutBor}
use Rattle.chumsky_input.specs.declared.error.Error as error_trait
use Rattle.chumsky_input.specs.declared.inspector.Inspector as inspector_trait
use Rattle.chumsky_input.specs.declared.input.Input as input_trait
use Rattle.chumsky_input.specs.declared.input_ref.InputRef.{InputRef}
use Rattle.chumsky_input.specs.declared.stop.Stop.{Stop}
use Rattle.chumsky_input.specs.declared.stop.Failure.{Failure}
use Rattle.chumsky_input.specs.declared.stop.Failure.TheVariants as failure
use Rattle.chumsky_input.specs.Held.{Held, held}
use Rattle.chumsky_input.specs.Aside.{GoesForward}
use Rattle.chumsky_input.specs.Outcome.{Event, Beginning, Outcome, Yes, No, Halt, Clash, IsAnswer}
use Rattle.chumsky_parser.specs.Failure.{Refuses, wanting}

module _ {Tok Cx St Er : Type 0} where
  -- held at a beginning, with nothing kept and nothing emitted
  abbrev pub begun : Option Stop → Beginning Tok Cx St → Held Tok Cx St Er
  begun stopped b = record { tokens = b.tokens; place = b.start; context = b.context; state = b.state; kept = None; emitted = []; stopped = stopped }

  -- held, but for a stop that was noted
  abbrev pub unstopped : Held Tok Cx St Er → Held Tok Cx St Er
  unstopped h = record h { stopped = None }

module _ {Tok Cx St Er E V : Type 0} (seen : E → Er) where
  -- what a call that ended so does: the one event that it kept, and after it a failure's own error, at the start
  abbrev pub done : Beginning Tok Cx St → Result V (Failure E) → Held Tok Cx St Er → Outcome V Er St
  done b (Ok v) h = record { verdict = Yes (wanting b.wanted v); end = h.place; state = h.state; events = option_to_list h.kept; emitted = h.emitted }
  done b (Err (failure.Error e)) h = record { verdict = No; end = h.place; state = h.state; events = option_to_list h.kept ++ record { place = b.start; error = seen e } ∷ []; emitted = h.emitted }
  done b (Err (failure.Stop s)) h = record { verdict = Halt s; end = h.place; state = h.state; events = []; emitted = [] }

  -- two calls that end alike: in a value both, or in errors that count as one; of a stop nothing is asked
  abbrev pub EndAlike : Result V (Failure E) → Result V (Failure E) → Held Tok Cx St Er → Held Tok Cx St Er → Type 0
  EndAlike (Ok v) (Ok w) h k = unstopped h ≡ unstopped k
  EndAlike (Ok v) (Err (failure.Error e)) h k = ⊥
  EndAlike (Ok v) (Err (failure.Stop s)) h k = ⊤
  EndAlike (Err (failure.Error e)) (Ok w) h k = ⊥
  EndAlike (Err (failure.Error e)) (Err (failure.Error d)) h k = (seen e ≡ seen d) × (unstopped h ≡ unstopped k)
  EndAlike (Err (failure.Error e)) (Err (failure.Stop s)) h k = ⊤
  EndAlike (Err (failure.Stop s)) r h k = ⊤

module _ {V Er St : Type 0} where
  -- the merge of one event with an earlier one at its place was refused
  pub record ClashesAmong (whole o : Outcome V Er St) : Type 0 where
    pub before : List (Event Er)
    pub event : Event Er
    pub after : List (Event Er)
    pub among : whole.events ≡ before ++ event ∷ after
    pub verdict : o.verdict ≡ Clash event
    pub earlier : o.events ≡ before
    pub state : o.state ≡ whole.state

  -- an outcome; or out of memory merging its events, or putting its emitted errors after others
  abbrev pub OrLacksMemory : Outcome V Er St → Outcome V Er St → Type 0
  OrLacksMemory whole o = (o ≡ whole) ⊎ (ClashesAmong whole o ⊎ Refuses (whole.emitted ≡ [] → ⊥) whole.state o)

-- what a reader may do, from what is held where it begins: its answer, and what it leaves
abbrev pub Reads : (Tok Cx St Er E V : Type 0) → Type 1
Reads Tok Cx St Er E V = Held Tok Cx St Er → Result V (Failure E) → Held Tok Cx St Er → Type 0

-- the same, in the words of the errors and the states
abbrev pub ReadsBy : (I Tok Sp Er St Mk Cx V : Type 0) → Type 1
ReadsBy I Tok Sp Er St Mk Cx V = (errors : error_trait.Ghosts Er I Tok Sp) → (states : inspector_trait.Ghosts St I Mk Tok Sp) → Reads Tok Cx states.Seen errors.Seen Er V

module _ {Tok Cx St Er E V : Type 0} (reads : Reads Tok Cx St Er E V) where
  -- a call from a beginning, with nothing kept and nothing emitted
  pub record Call (b : Beginning Tok Cx St) : Type 0 where
    pub stopped : Option Stop
    pub returned : Result V (Failure E)
    pub left : Held Tok Cx St Er
    pub read : reads (begun stopped b) returned left

  -- both are values of calls from one beginning
  pub record SameCalled (v w : V) : Type 0 where
    pub beginning : Beginning Tok Cx St
    pub first : Call beginning
    pub second : Call beginning
    pub of_first : first.returned ≡ Ok v
    pub of_second : second.returned ≡ Ok w

module _ {Tok Cx St Er E V : Type 0} (seen : E → Er) (reads : Reads Tok Cx St Er E V) where
  -- what a call does, where it does not end before its start
  pub record MeansCustom (b : Beginning Tok Cx St) (o : Outcome V Er St) : Type 0 where
    pub call : Call reads b
    pub does : OrLacksMemory (done seen b call.returned call.left) o
    pub later : IsAnswer o.verdict → b.start ≤ o.end

  -- two calls from one beginning end alike
  pub record IsSteady : Type 0 where
    pub alike : (b : Beginning Tok Cx St) (x y : Call reads b) → EndAlike seen x.returned y.returned x.left y.left

module _ {I X Tok Sp Cu Er St Cx Mk V F : Type 0} (source : input_trait.Ghosts I Cu Tok Sp)
    (errors : error_trait.Ghosts Er I Tok Sp) (states : inspector_trait.Ghosts St I Mk Tok Sp)
    (g : Shared F (MutBor (InputRef I X Cu Tok Sp Er St Cx Mk) × Unit {0})
    (Result V (Failure Er) × (MutBor (InputRef I X Cu Tok Sp Er St Cx Mk) × Unit {0})))
    (f : F) where
  -- the closure may be called on any input; after a value and after an error it stands where it began or further on, in the same tokens, under the same context, with the older emitted errors before any new ones, and no parser that it ran has stopped; the stop that it answers is the first of those that it ran into; and it keeps the lent state
  pub record MayRun : Type 0 where
    pub may : (p : MutBor (InputRef I X Cu Tok Sp Er St Cx Mk)) → g.pre f (p, tt)
    pub keeps : (p left : MutBor (InputRef I X Cu Tok Sp Er St Cx Mk)) (r : Result V (Failure Er))
        → g.post f (p, tt) (r, (left, tt))
        → GoesForward r (held source errors states p.now) (held source errors states left.now)
        × (left.now.state.ghost_name ≡ p.now.state.ghost_name)

  -- what a call of the closure may do
  pub record Calls (before : Held Tok Cx states.Seen errors.Seen) (r : Result V (Failure Er)) (after : Held Tok Cx states.Seen errors.Seen) : Type 0 where
    pub lent : MutBor (InputRef I X Cu Tok Sp Er St Cx Mk)
    pub left : MutBor (InputRef I X Cu Tok Sp Er St Cx Mk)
    pub met : g.post f (lent, tt) (r, (left, tt))
    pub begins : held source errors states lent.now ≡ before
    pub ends : held source errors states left.now ≡ after
