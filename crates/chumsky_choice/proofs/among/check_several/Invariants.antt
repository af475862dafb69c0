use Rattle.std.proofs.Common.{◌≡◌, false, Err, drop}
use Rattle.chumsky_input.specs.declared.stop.Fault.TheVariants as fault
use Rattle.chumsky_input.specs.Held.{held, marks}
use Rattle.chumsky_choice.proofs.AmongLemmas.{TriedSome}
use Rattle.chumsky_choice.proofs.among.check_several.Given as goal

abbrev pub invariant-loop-next : goal.invariant-loop-next
invariant-loop-next g l = record {
  some : TriedSome g.E.Error.Error.merged g.E.Error.Error.takes_no_memory g.E.State.Inspector.back
      g.E.State.Inspector.takes_no_memory (marks g.I.Input g.E.State.Inspector l.before)
      (λ p. g.P.Parser.meaning p g.E.Error.Error g.E.State.Inspector) l.fn.first l.fn.others
      (drop l.next-index l.others) false (held g.I.Input g.E.Error.Error g.E.State.Inspector l.fn.inp)
      (held g.I.Input g.E.Error.Error g.E.State.Inspector l.inp) (Err fault.Fail);
  lent : l.inp.state.ghost_name ≡ l.fn.inp.state.ghost_name;
}
