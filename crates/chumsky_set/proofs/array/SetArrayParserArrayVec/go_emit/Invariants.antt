use Rattle.std.proofs.Common.{◌≡◌, true, Some, None, length, map}
use Rattle.chumsky_input.specs.Held.{held}
use Rattle.chumsky_set.specs.AnyOrder.{all_still}
use Rattle.chumsky_set.specs.Lists.{each_stored}
use Rattle.chumsky_set.specs.Passes.{slot_of}
use Rattle.chumsky_set.proofs.RoundsLemmas.{Resumes}
use Rattle.chumsky_set.proofs.array.SetArrayParserArrayVec.go_emit.Given as goal

abbrev pub invariant-rounds : goal.invariant-rounds
invariant-rounds g l =
    record {
      resumes : Resumes g.E.Error.Error.merged g.E.Error.Error.takes_no_memory
          (each_stored g.E.State.Inspector.mark g.E.State.Inspector.back g.E.State.Inspector.takes_no_memory
          (λ p. g.P.Parser.meaning p g.E.Error.Error g.E.State.Inspector) l.parts)
          true (map (λ _. None) l.parts) (held g.I.Input g.E.Error.Error g.E.State.Inspector l.fn.inp)
          (map (slot_of (λ v. Some v)) l.slots) (held g.I.Input g.E.Error.Error g.E.State.Inspector l.inp);
      fits : length l.slots ≡ length l.parts;
      sized : length l.parts ≡ g.row.N;
      lent : l.inp.state.ghost_name ≡ l.fn.inp.state.ghost_name;
    }

abbrev pub decreases-rounds : goal.decreases-rounds
decreases-rounds g l = all_still (map (slot_of (λ v. Some v)) l.slots)
