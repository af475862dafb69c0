use Rattle.std.proofs.Common.{◌≡◌, true, List, Some, [], map, length, drop}
use Rattle.chumsky_input.specs.Held.{held}
use Rattle.chumsky_set.specs.AnyOrder.{Missing}
use Rattle.chumsky_set.specs.Passes.{slot_of}
use Rattle.chumsky_set.proofs.TurnsLemmas.{GoOn}
use Rattle.chumsky_set.proofs.array.last_dropped.Given as goal

abbrev pub invariant-loop-i : goal.invariant-loop-i
invariant-loop-i g l =
    record {
      resumes : (values : List g.row.O.Denot)
          × GoOn g.E.Error.Error.merged g.E.Error.Error.takes_no_memory
          (λ p. Missing (g.P.Parser.meaning p g.E.Error.Error g.E.State.Inspector)) true l.parts
          (map (slot_of (λ v. Some v)) l.initial.slots) (Some [])
          (held g.I.Input g.E.Error.Error g.E.State.Inspector l.initial.inp) (drop l.i l.parts)
          (drop l.i (map (slot_of (λ v. Some v)) l.slots)) (Some values)
          (held g.I.Input g.E.Error.Error g.E.State.Inspector l.inp);
      fits : length l.slots ≡ length l.parts;
      lent : l.inp.state.ghost_name ≡ l.initial.inp.state.ghost_name;
    }
