-- What counts of calls with three values and what is shown of a run.
use Rattle.std.specs.Prelude.{◌≡◌}
use Rattle.std.specs.Borrow.{MutBor}
use Rattle.std.specs.Fn.{Shared}
use Rattle.chumsky_input.specs.declared.inspector.Inspector as inspector_trait
use Rattle.chumsky_input.specs.declared.input.Input as input_trait
use Rattle.chumsky_input.specs.declared.map_extra.MapExtra.{MapExtra}
use Rattle.chumsky_input.specs.Extra.{Shown, shown, InOrder}

module _ {I X Cu Tok Sp Er St Cx Mk : Type 0} (source : input_trait.Ghosts I Cu Tok Sp) (states : inspector_trait.Ghosts St I Mk Tok Sp) {F A V W R : Type 0}
    (calls : Shared F (A × (V × (W × (MutBor (MapExtra I X Cu Tok Sp Er St Cx Mk) × Unit {0})))) (R × (MutBor (MapExtra I X Cu Tok Sp Er St Cx Mk) × Unit {0}))) (f : F) where
  -- f may be called with any three values and any extra whose cursors are in order, and keeps the reference to the state
  pub record KeepsStateOfThree : Type 0 where
    pub may : (a : A) (v : V) (w : W) (x : MutBor (MapExtra I X Cu Tok Sp Er St Cx Mk)) → InOrder source states x.now → calls.pre f (a, (v, (w, (x, tt))))
    pub keeps : (a : A) (v : V) (w : W) (x left : MutBor (MapExtra I X Cu Tok Sp Er St Cx Mk)) (r : R)
        → InOrder source states x.now → calls.post f (a, (v, (w, (x, tt)))) (r, (left, tt))
        → left.now.state.ghost_name ≡ x.now.state.ghost_name

  -- f may answer r to the three values and an extra that shows x, and leave the state s
  pub record AnswersThree (values : A × (V × W)) (x : Shown Tok Cx states.Seen) (r : R) (s : states.Seen) : Type 0 where
    pub lent : MutBor (MapExtra I X Cu Tok Sp Er St Cx Mk)
    pub left : MutBor (MapExtra I X Cu Tok Sp Er St Cx Mk)
    pub met : calls.post f (values.0, (values.1.0, (values.1.1, (lent, tt)))) (r, (left, tt))
    pub in_order : InOrder source states lent.now
    pub shows : shown source states lent.now ≡ x
    pub leaves : states.seen left.now.state.now ≡ s
