use Rattle.std.proofs.Common.{◌≡◌, false, None, map, drop}
use Rattle.chumsky_input.specs.Held.{held}
use Rattle.chumsky_set.specs.AnyOrder.{Missing}
use Rattle.chumsky_set.specs.Passes.{slot_of}
use Rattle.chumsky_set.proofs.TurnsLemmas.{GoOn}
use Rattle.chumsky_set.proofs.each.last_checks.Given as goal

abbrev pub invariant-loop-i : goal.invariant-loop-i
invariant-loop-i g l =
    record {
      resumes : GoOn g.E.Error.Error.merged g.E.Error.Error.takes_no_memory
          (λ p. Missing (g.P.Parser.meaning p g.E.Error.Error g.E.State.Inspector)) false l.parts
          (map (slot_of (λ _. None)) l.slots) None (held g.I.Input g.E.Error.Error g.E.State.Inspector l.initial.inp)
          (drop l.i l.parts) (drop l.i (map (slot_of (λ _. None)) l.slots)) None
          (held g.I.Input g.E.Error.Error g.E.State.Inspector l.inp);
      lent : l.inp.state.ghost_name ≡ l.initial.inp.state.ghost_name;
    }
