use Rattle.std.proofs.Common.{◌≡◌, Bool, ◌-◌, length}
use Rattle.chumsky_input.specs.Held.{held}
use Rattle.chumsky_recovery.specs.Seeking.{Seeks}
use Rattle.chumsky_recovery.proofs.TurnsLemmas.{TurnsFrom}
use Rattle.chumsky_recovery.proofs.skip_until.skip_to.Given as goal

abbrev pub invariant-loop-found : goal.invariant-loop-found
invariant-loop-found g l = record {
  from : (w : Bool)
      → TurnsFrom {V = Unit {0}} g.E.Error.Error.merged g.E.Error.Error.takes_no_memory
      (Seeks g.E.State.Inspector.mark g.E.State.Inspector.back g.E.State.Inspector.takes_no_memory
      (g.U.Parser.meaning l.until g.E.Error.Error g.E.State.Inspector)
      (g.S.Parser.meaning l.skip g.E.Error.Error g.E.State.Inspector))
      w (held g.I.Input g.E.Error.Error g.E.State.Inspector l.fn.inp)
      (held g.I.Input g.E.Error.Error g.E.State.Inspector l.inp);
  lent : l.inp.state.ghost_name ≡ l.fn.inp.state.ghost_name;
}

abbrev pub decreases-loop-found : goal.decreases-loop-found
decreases-loop-found g l = length (g.I.Input.cursor_tokens l.inp.cursor).list - g.I.Input.place l.inp.cursor
