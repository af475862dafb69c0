-- How a parser fails, or is refused for memory.
use Rattle.std.specs.Prelude.{◌≡◌, ℕ, Bool, true, false, Option, Some, None, List, [], ◌∷◌, ◌⊎◌, ⊤, Result, Ok, Err}
use Rattle.chumsky_input.specs.Layout.{Layout}
use Rattle.chumsky_input.specs.declared.error.Error as error_trait
use Rattle.chumsky_input.specs.declared.input.Input as input_trait
use Rattle.chumsky_input.specs.declared.stop.Stop.{Stop}
use Rattle.chumsky_input.specs.declared.stop.Stop.TheVariants.{Memory}
use Rattle.chumsky_input.specs.declared.stop.Fault.{Fault}
use Rattle.chumsky_input.specs.Wanted.{Wanted}
use Rattle.chumsky_input.specs.Outcome.{Event, Meaning, Outcome, No, Halt, Clash}

-- a value with P where one is wanted, else none
abbrev pub IsWanted : {V : Type 0} → (V → Type 0) → Bool → Option V → Type 0
IsWanted P true (Some v) = P v
IsWanted P true None = ⊥
IsWanted P false (Some v) = ⊥
IsWanted P false None = ⊤

module _ {V Er St : Type 0} where
  -- no, with one event; or a refused merge of that event
  abbrev pub FailsBy : Event Er → Outcome V Er St → Type 0
  FailsBy e o = ((o.verdict ≡ No) × (o.events ≡ e ∷ [])) ⊎ ((o.verdict ≡ Clash e) × (o.events ≡ []))

  pub record FailsAt (e : Event Er) (end : ℕ) (state : St) (o : Outcome V Er St) : Type 0 where
    pub by : FailsBy e o
    pub end_at : o.end ≡ end
    pub left : o.state ≡ state
    pub emitted : o.emitted ≡ []

  -- a refusal for memory, which the premise tells of
  abbrev pub Refuses : Type 0 → St → Outcome V Er St → Type 0
  Refuses may state o = may × (o.verdict ≡ Halt Memory) × (o.state ≡ state)

  -- a failure, or out of memory for its error
  abbrev pub Misses : Type 0 → Event Er → ℕ → St → Outcome V Er St → Type 0
  Misses safe e end state o = Refuses (safe → ⊥) state o ⊎ FailsAt e end state o

module _ {Tok Cx St Er V : Type 0} where
  -- no, and nothing done
  abbrev pub SaysNo : Meaning Tok Cx St Er V
  SaysNo b o = o ≡ record { verdict = No; end = b.start; state = b.state; events = []; emitted = [] }

  -- a refusal, and nothing done
  abbrev pub Stops : Stop → Meaning Tok Cx St Er V
  Stops s b o = o ≡ record { verdict = Halt s; end = b.start; state = b.state; events = []; emitted = [] }

module _ {I Tok Sp Cu Er : Type 0} (source : input_trait.Ghosts I Cu Tok Sp) (errors : error_trait.Ghosts Er I Tok Sp) where
  -- the event of an expectation, at a place and spanning to another one
  abbrev pub expects : Layout Tok → List (Wanted Tok) → Option Tok → ℕ → ℕ → Event errors.Seen
  expects ts what found place to = record { place = place; error = errors.expectation what found (source.span_between ts place to) }

-- a value, where one is wanted
abbrev pub wanting : {V : Type 0} → Bool → V → Option V
wanting true v = Some v
wanting false v = None

-- the answer, with its value where one is wanted
abbrev pub asked : {V : Type 0} → Bool → Result V Fault → Result (Option V) Fault
asked w (Ok v) = Ok (wanting w v)
asked w (Err f) = Err f
