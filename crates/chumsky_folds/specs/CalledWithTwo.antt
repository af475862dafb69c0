-- What counts of calls with two values and what is shown of a run.
use Rattle.std.specs.Prelude.{◌≡◌}
use Rattle.std.specs.Borrow.{MutBor}
use Rattle.std.specs.Fn.{Shared}
use Rattle.chumsky_input.specs.declared.inspector.Inspector as inspector_trait
use Rattle.chumsky_input.specs.declared.input.Input as input_trait
use Rattle.chumsky_input.specs.declared.map_extra.MapExtra.{MapExtra}
use Rattle.chumsky_input.specs.Extra.{Shown, shown, InOrder}

module _ {I X Cu Tok Sp Er St Cx Mk : Type 0} (source : input_trait.Ghosts I Cu Tok Sp)
    (states : inspector_trait.Ghosts St I Mk Tok Sp) {F A V R : Type 0}
    (calls : Shared F (A × (V × (MutBor (MapExtra I X Cu Tok Sp Er St Cx Mk) × Unit {0})))
    (R × (MutBor (MapExtra I X Cu Tok Sp Er St Cx Mk) × Unit {0})))
    (f : F) where
  -- f may be called with any two values and any extra whose cursors are in order, and keeps the reference to the state
  pub record KeepsStateOfTwo : Type 0 where
    pub may : (a : A) (v : V) (x : MutBor (MapExtra I X Cu Tok Sp Er St Cx Mk)) → InOrder source states x.now → calls.pre f (a, (v, (x, tt)))
    pub keeps : (a : A) (v : V) (x left : MutBor (MapExtra I X Cu Tok Sp Er St Cx Mk)) (r : R)
        → InOrder source states x.now → calls.post f (a, (v, (x, tt))) (r, (left, tt))
        → left.now.state.ghost_name ≡ x.now.state.ghost_name

  -- f may answer r to the two values and an extra that shows x, and leave the state s
  pub record AnswersTwo (values : A × V) (x : Shown Tok Cx states.Seen) (r : R) (s : states.Seen) : Type 0 where
    pub lent : MutBor (MapExtra I X Cu Tok Sp Er St Cx Mk)
    pub left : MutBor (MapExtra I X Cu Tok Sp Er St Cx Mk)
    pub met : calls.post f (values.0, (values.1, (lent, tt))) (r, (left, tt))
    pub in_order : InOrder source states lent.now
    pub shows : shown source states lent.now ≡ x
    pub leaves : states.seen left.now.state.now ≡ s
