use Rattle.std.proofs.Common.{◌≡◌, ◌-◌, true, None, length}
use Rattle.chumsky_input.specs.Held.{held}
use Rattle.chumsky_recovery.specs.Seeking.{RetryTurn}
use Rattle.chumsky_recovery.proofs.TurnsLemmas.{TurnsFrom}
use Rattle.chumsky_recovery.proofs.skip_then_retry_until.SkipThenRetryUntilStrategy.recover_emit.Given as goal

abbrev pub invariant-loop-answer : goal.invariant-loop-answer
invariant-loop-answer g l = record {
  from : TurnsFrom g.E.Error.Error.merged g.E.Error.Error.takes_no_memory
      (RetryTurn g.E.State.Inspector.mark g.E.State.Inspector.back g.E.State.Inspector.takes_no_memory
      (g.U.Parser.meaning l.self.until g.E.Error.Error g.E.State.Inspector)
      (g.S.Parser.meaning l.self.skip g.E.Error.Error g.E.State.Inspector)
      (g.A.Parser.meaning l.parser g.E.Error.Error g.E.State.Inspector))
      true (held g.I.Input g.E.Error.Error g.E.State.Inspector l.fn.inp)
      (held g.I.Input g.E.Error.Error g.E.State.Inspector l.inp);
  none : (held g.I.Input g.E.Error.Error g.E.State.Inspector l.inp).kept ≡ None;
  lent : l.inp.state.ghost_name ≡ l.fn.inp.state.ghost_name;
}

abbrev pub decreases-loop-answer : goal.decreases-loop-answer
decreases-loop-answer g l = length (g.I.Input.cursor_tokens l.inp.cursor).list - g.I.Input.place l.inp.cursor
