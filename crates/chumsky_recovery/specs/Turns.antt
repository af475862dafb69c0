-- Turns: one step, done again and again until it says that it was the last.
use Rattle.std.specs.Prelude.{ℕ, zero, suc, Bool, true, false, Option, Some, None, ⊤, Result, Ok, Err}
use Rattle.chumsky_input.specs.declared.stop.Fault.{Fault}
use Rattle.chumsky_input.specs.Outcome.{Meaning, Beginning, Outcome, SameValue}
use Rattle.chumsky_parser.specs.Chained.{Chained, Given}

-- what a turn says: that there is another, or that it was the last, with a value where one is wanted
pub data Turn (V : Type 0) : Type 0 where
  Again : Turn V
  Last : Option V → Turn V

-- a turn that gave a value, if it was the last, and one that gave none
abbrev pub with_last : {V : Type 0} → Result (Option V) Fault → Result (Option (Turn V)) Fault
with_last (Ok (Some v)) = Ok (Some (Last (Some v)))
with_last (Ok None) = Ok (Some Again)
with_last (Err f) = Err f

abbrev pub without_last : {V : Type 0} → Result (Option (Unit {0})) Fault → Result (Option (Turn V)) Fault
without_last (Ok (Some _)) = Ok (Some (Last None))
without_last (Ok None) = Ok (Some Again)
without_last (Err f) = Err f

-- a turn that says whether it was the last
abbrev pub turn_if : {V : Type 0} → Bool → Turn V
turn_if true = Last None
turn_if false = Again

abbrev pub if_last : {V : Type 0} → Result Bool Fault → Result (Option (Turn V)) Fault
if_last (Ok found) = Ok (Some (turn_if found))
if_last (Err f) = Err f

-- a turn that was not the last
abbrev pub again_after : {V : Type 0} → Result (Unit {0}) Fault → Result (Option (Turn V)) Fault
again_after (Ok _) = Ok (Some Again)
again_after (Err f) = Err f

-- both say that there is another, or give values that are the same
abbrev pub SameTurn : {V : Type 0} → (V → V → Type 0) → Turn V → Turn V → Type 0
SameTurn same Again Again = ⊤
SameTurn same Again (Last w) = ⊥
SameTurn same (Last v) Again = ⊥
SameTurn same (Last v) (Last w) = SameValue same v w

module _ {Tok Cx St Er V : Type 0} where
  -- after a turn: what follows it, or the value of the last
  abbrev pub AfterTurn : Meaning Tok Cx St Er V → Option (Turn V) → Meaning Tok Cx St Er V
  AfterTurn next (Some Again) = next
  AfterTurn next (Some (Last v)) = Given v
  AfterTurn next None = λ b o. ⊥

module _ {Tok Cx St Er V : Type 0} (turn : Meaning Tok Cx St Er (Turn V)) where
  -- at most this many turns, each from where the one before it ended
  abbrev pub TurnsUpTo : ℕ → Meaning Tok Cx St Er V
  TurnsUpTo zero = λ b o. ⊥
  TurnsUpTo (suc n) = Chained turn (AfterTurn (TurnsUpTo n))

  -- some number of turns, of which the last says so or doesn't succeed
  pub record AllTurns (b : Beginning Tok Cx St) (o : Outcome V Er St) : Type 0 where
    pub turns : ℕ
    pub run : TurnsUpTo turns b o
