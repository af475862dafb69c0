use Rattle.std.proofs.Common.{◌≡◌, Some, [], map, length, take, drop}
use Rattle.chumsky_input.specs.Held.{held}
use Rattle.chumsky_set.specs.AnyOrder.{Offered, all_still}
use Rattle.chumsky_set.specs.Passes.{slot_of, Lessens}
use Rattle.chumsky_set.proofs.TurnsLemmas.{GoOn}
use Rattle.chumsky_set.proofs.each.round_each.Given as goal

abbrev pub invariant-loop-i : goal.invariant-loop-i
invariant-loop-i g l =
    let slots = map (slot_of g.D.Runs.shown) l.slots in
    record {
      resumes : GoOn g.E.Error.Error.merged g.E.Error.Error.takes_no_memory
          (λ p. Offered g.E.State.Inspector.mark g.E.State.Inspector.back g.E.State.Inspector.takes_no_memory
          (g.P.Parser.meaning p g.E.Error.Error g.E.State.Inspector))
          g.D.Mode.wanted l.parts (map (slot_of g.D.Runs.shown) l.initial.slots) (Some [])
          (held g.I.Input g.E.Error.Error g.E.State.Inspector l.initial.inp) (drop l.i l.parts) (drop l.i slots)
          (Some (take l.i slots)) (held g.I.Input g.E.Error.Error g.E.State.Inspector l.inp);
      lessens : Lessens (all_still (map (slot_of g.D.Runs.shown) l.initial.slots)) (all_still slots) l.more;
      fits : length l.slots ≡ length l.parts;
      lent : l.inp.state.ghost_name ≡ l.initial.inp.state.ghost_name;
    }
