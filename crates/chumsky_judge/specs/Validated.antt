-- A part whose value a validator looks at, which may emit errors.
use Rattle.std.specs.Prelude.{◌≡◌, ℕ, Bool, true, false, Option, Some, None, List, [], ◌++◌, map, ◌⊎◌}
use Rattle.std.specs.Borrow.{MutBor}
use Rattle.std.specs.Fn.{Shared}
use Rattle.chumsky_input.specs.declared.error.Error as error_trait
use Rattle.chumsky_input.specs.declared.inspector.Inspector as inspector_trait
use Rattle.chumsky_input.specs.declared.input.Input as input_trait
use Rattle.chumsky_input.specs.declared.map_extra.MapExtra.{MapExtra}
use Rattle.chumsky_input.specs.declared.emitter.Emitter.{Emitter}
use Rattle.chumsky_input.specs.Extra.{Shown, shown, InOrder}
use Rattle.chumsky_input.specs.Held.{Held}
use Rattle.chumsky_input.specs.Outcome.{Meaning, Beginning, Outcome, Yes}
use Rattle.chumsky_parser.specs.Chained.{Chained, Asked}
use Rattle.chumsky_parser.specs.Failure.{Refuses, wanting}

-- what a validator may answer to a value and what it is shown: a value, the state that it leaves, and the errors that it
-- emitted in order, or none where there was no memory for one of them
abbrev pub Emits : (Tok Cx St Er V W : Type 0) → Type 1
Emits Tok Cx St Er V W = V → Shown Tok Cx St → W → St → Option (List Er) → Type 0

module _ {Tok Cx St Er W : Type 0} where
  -- yes here, with these errors emitted; or there was no memory for one of them
  abbrev pub EmitsAll : Option (List Er) → W → St → Meaning Tok Cx St Er W
  EmitsAll emitted w s b o =
      ((es : List Er) × (emitted ≡ Some es) × (o ≡ record { verdict = Yes (wanting b.wanted w); end = b.start; state = s; events = []; emitted = es }))
      ⊎ Refuses (emitted ≡ Some [] → ⊥) s o

module _ {Tok Cx St Er V W : Type 0} (emits : Emits Tok Cx St Er V W) where
  -- some answer of the validator to a value, of a part that began at this place
  abbrev pub Validated : ℕ → Option V → Meaning Tok Cx St Er W
  Validated from (Some v) b o =
      (w : W) × (s : St) × (emitted : Option (List Er)) × emits v (record { tokens = b.tokens; from = from; to = b.start; context = b.context; state = b.state }) w s emitted × EmitsAll emitted w s b o
  Validated from None b o = ⊥

  -- the part, which always runs for its value, and then the validator
  pub record MeansValidate (part : Meaning Tok Cx St Er V) (b : Beginning Tok Cx St) (o : Outcome W Er St) : Type 0 where
    pub run : Chained (Asked true part) (Validated b.start) b o

  module _ (same : V → V → Type 0) where
    -- to values that are the same and one run, where no memory was wanting, the same errors and one state
    abbrev pub EmitsAlike : Type 0
    EmitsAlike = (v w : V) (x : Shown Tok Cx St) (r r' : W) (s t : St) (es es' : List Er) → same v w → emits v x r s (Some es) → emits w x r' t (Some es') → (es ≡ es') × (s ≡ t)

    -- two values that the validator made of values that are the same, shown one run
    pub record SameValidated (x y : W) : Type 0 where
      pub first : V
      pub second : V
      pub shown : Shown Tok Cx St
      pub state : St
      pub other_state : St
      pub errors : List Er
      pub other_errors : List Er
      pub alike : same first second
      pub from_first : emits first shown x state (Some errors)
      pub from_second : emits second shown y other_state (Some other_errors)

module _ {Tok Cx St Er : Type 0} where
  -- a run that has emitted these errors too
  abbrev pub EmitsAfter : Option (List Er) → Held Tok Cx St Er → Held Tok Cx St Er → Type 0
  EmitsAfter emitted old new = (es : List Er) × (emitted ≡ Some es) × (new ≡ record old { emitted = old.emitted ++ es })

-- what counts of an emitter: its errors in order, or none where there was no memory for one of them
abbrev pub all_emitted : {E S : Type 0} → (E → S) → Bool → List E → Option (List S)
all_emitted seen true es = None
all_emitted seen false es = Some (map seen es)

abbrev pub emitted_by : {E S : Type 0} → (E → S) → Emitter E → Option (List S)
emitted_by seen e = all_emitted seen e.refused e.errors.items

module _ {I X Cu Tok Sp Er St Cx Mk : Type 0} (source : input_trait.Ghosts I Cu Tok Sp)
    (states : inspector_trait.Ghosts St I Mk Tok Sp) {F V W : Type 0}
    (calls : Shared F (V × (MutBor (MapExtra I X Cu Tok Sp Er St Cx Mk) × (MutBor (Emitter Er) × Unit {0})))
    (W × (MutBor (MapExtra I X Cu Tok Sp Er St Cx Mk) × (MutBor (Emitter Er) × Unit {0}))))
    (f : F) where
  -- f may be called with any value, any extra whose cursors are in order and any emitter, and keeps the reference to the state
  pub record MayValidate : Type 0 where
    pub may : (v : V) (x : MutBor (MapExtra I X Cu Tok Sp Er St Cx Mk)) (e : MutBor (Emitter Er)) → InOrder source states x.now → calls.pre f (v, (x, (e, tt)))
    pub keeps : (v : V) (x left : MutBor (MapExtra I X Cu Tok Sp Er St Cx Mk)) (e after : MutBor (Emitter Er)) (w : W)
        → InOrder source states x.now → calls.post f (v, (x, (e, tt))) (w, (left, (after, tt)))
        → left.now.state.ghost_name ≡ x.now.state.ghost_name

  -- f may answer w to v, an extra that shows x and an emitter that has emitted nothing, and leave the state s and the emitter so
  pub record Validates (v : V) (x : Shown Tok Cx states.Seen) (w : W) (s : states.Seen) (emitter : Emitter Er) : Type 0 where
    pub lent : MutBor (MapExtra I X Cu Tok Sp Er St Cx Mk)
    pub left : MutBor (MapExtra I X Cu Tok Sp Er St Cx Mk)
    pub fresh : MutBor (Emitter Er)
    pub after : MutBor (Emitter Er)
    pub met : calls.post f (v, (lent, (fresh, tt))) (w, (left, (after, tt)))
    pub in_order : InOrder source states lent.now
    pub shows : shown source states lent.now ≡ x
    pub none : fresh.now.errors.items ≡ []
    pub not_refused : fresh.now.refused ≡ false
    pub leaves : states.seen left.now.state.now ≡ s
    pub emits : after.now ≡ emitter

  -- the same, by what counts of the emitter
  pub record ByEmitter {S : Type 0} (seen : Er → S) (v : V) (x : Shown Tok Cx states.Seen) (w : W) (s : states.Seen) (emitted : Option (List S)) : Type 0 where
    pub emitter : Emitter Er
    pub validates : Validates v x w s emitter
    pub counts : emitted_by seen emitter ≡ emitted
