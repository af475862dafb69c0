use Rattle.std.proofs.Common.{◌≡◌, ◌∷◌, ◌-◌, Bool, length}
use Rattle.chumsky_input.specs.Held.{held}
use Rattle.chumsky_recovery.specs.Nested.{has_token}
use Rattle.chumsky_recovery.proofs.NestedLemmas.{NestedFrom}
use Rattle.chumsky_recovery.proofs.nested_delimiters.take_nested.Given as goal

abbrev pub invariant-loop-open : goal.invariant-loop-open
invariant-loop-open g l = record {
  from : (w : Bool)
      → NestedFrom g.I.Input g.E.Error.Error g.E.State.Inspector (has_token g.I.Token.PartialEq.eq g.T.Seq.members)
      g.T.Seq.members ((l.pairs.start, l.pairs.end) ∷ l.pairs.others) l.pairs.end w
      (held g.I.Input g.E.Error.Error g.E.State.Inspector l.fn.inp) l.innermost l.open.items
      (held g.I.Input g.E.Error.Error g.E.State.Inspector l.inp);
  lent : l.inp.state.ghost_name ≡ l.fn.inp.state.ghost_name;
}

abbrev pub decreases-loop-open : goal.decreases-loop-open
decreases-loop-open g l = length (g.I.Input.cursor_tokens l.inp.cursor).list - g.I.Input.place l.inp.cursor
