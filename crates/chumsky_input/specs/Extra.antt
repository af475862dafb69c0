-- What a closure is shown of a run, and what counts of its calls.
use Rattle.std.specs.Prelude.{◌≡◌, ℕ, ◌≤◌, []}
use Rattle.std.specs.Borrow.{Lends, MutBor, Fml, RattleType}
use Rattle.std.specs.Fn.{Shared}
use mir.Syntax.{named}
use Rattle.chumsky_input.specs.Layout.{Layout}
use Rattle.chumsky_input.specs.declared.input.Input as input_trait
use Rattle.chumsky_input.specs.declared.inspector.Inspector as inspector_trait
use Rattle.chumsky_input.specs.declared.map_extra.MapExtra.{MapExtra}
use Rattle.chumsky_input.specs.contracts.map_extra.MapExtra.{the_row}
use Rattle.chumsky_input.specs.Held.{Held}

-- the tokens, two places among them, the context and the state
pub record Shown (Tok Cx St : Type 0) : Type 0 where
  pub tokens : Layout Tok
  pub from : ℕ
  pub to : ℕ
  pub context : Cx
  pub state : St

-- what a run shows that has gone on from a place
abbrev pub shown_from : {Tok Cx St Er : Type 0} → ℕ → Held Tok Cx St Er → Shown Tok Cx St
shown_from p h = record { tokens = h.tokens; from = p; to = h.place; context = h.context; state = h.state }

-- x, with s as the state behind it
abbrev pub with_state : {I X Cu Tok Sp Er St Cx Mk : Type 0} → MapExtra I X Cu Tok Sp Er St Cx Mk → St → MapExtra I X Cu Tok Sp Er St Cx Mk
with_state x s = record x { state = record x.state { now = s } }

module _ (I X Cu Tok Sp Er St Cx Mk : RattleType) where
  -- once the borrow r ends, the state behind x is what was last written through r; the lifetimes are those of 'src and 'b
  abbrev pub ExtraLendsState : MutBor (MapExtra I.Denot X.Denot Cu.Denot Tok.Denot Sp.Denot Er.Denot St.Denot Cx.Denot Mk.Denot) → MutBor St.Denot → Fml
  ExtraLendsState x r = Lends (the_row (record { mir = named 1; lft = [] }) (record { mir = named 2; lft = [] }) I X Cu Tok Sp Er St Cx Mk) St x r (with_state x.now)

module _ {I X Cu Tok Sp Er St Cx Mk : Type 0} (source : input_trait.Ghosts I Cu Tok Sp) (states : inspector_trait.Ghosts St I Mk Tok Sp) where
  -- what counts of an extra
  abbrev pub shown : MapExtra I X Cu Tok Sp Er St Cx Mk → Shown Tok Cx states.Seen
  shown x = record { tokens = source.cursor_tokens x.to; from = source.place x.from; to = source.place x.to; context = x.context.now; state = states.seen x.state.now }

  -- its cursors stand in one input, the first not past the second
  abbrev pub InOrder : MapExtra I X Cu Tok Sp Er St Cx Mk → Type 0
  InOrder x = (source.cursor_tokens x.to ≡ source.cursor_tokens x.from) × (source.place x.from ≤ source.place x.to)

  module _ {F A R : Type 0} (calls : Shared F (A × (MutBor (MapExtra I X Cu Tok Sp Er St Cx Mk) × Unit {0})) (R × (MutBor (MapExtra I X Cu Tok Sp Er St Cx Mk) × Unit {0}))) (f : F) where
    -- f may be called with any argument and any extra whose cursors are in order, and keeps the reference to the state
    pub record KeepsState : Type 0 where
      pub may : (a : A) (x : MutBor (MapExtra I X Cu Tok Sp Er St Cx Mk)) → InOrder x.now → calls.pre f (a, (x, tt))
      pub keeps : (a : A) (x left : MutBor (MapExtra I X Cu Tok Sp Er St Cx Mk)) (r : R) → InOrder x.now
          → calls.post f (a, (x, tt)) (r, (left, tt)) → left.now.state.ghost_name ≡ x.now.state.ghost_name

    -- f may answer r to a and an extra that shows x, and leave the state s
    pub record MayAnswer (a : A) (x : Shown Tok Cx states.Seen) (r : R) (s : states.Seen) : Type 0 where
      pub lent : MutBor (MapExtra I X Cu Tok Sp Er St Cx Mk)
      pub left : MutBor (MapExtra I X Cu Tok Sp Er St Cx Mk)
      pub met : calls.post f (a, (lent, tt)) (r, (left, tt))
      pub in_order : InOrder lent.now
      pub shows : shown lent.now ≡ x
      pub leaves : states.seen left.now.state.now ≡ s
