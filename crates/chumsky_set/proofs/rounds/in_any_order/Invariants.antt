use Rattle.std.proofs.Common.{◌≡◌}
use Rattle.chumsky_input.specs.Held.{held}
use Rattle.chumsky_set.proofs.RoundsLemmas.{Resumes}
use Rattle.chumsky_set.proofs.rounds.in_any_order.Given as goal

abbrev pub invariant-rounds : goal.invariant-rounds
invariant-rounds g l =
    record {
      resumes : Resumes g.E.Error.Error.merged g.E.Error.Error.takes_no_memory
          (g.M.PartsRow.passes l.row g.E.Error.Error g.E.State.Inspector) g.D.Mode.wanted
          (g.M.PartsRow.taken l.initial.slots) (held g.I.Input g.E.Error.Error g.E.State.Inspector l.initial.inp)
          (g.M.PartsRow.taken l.slots) (held g.I.Input g.E.Error.Error g.E.State.Inspector l.inp);
      fits : g.M.PartsRow.fits l.row l.slots;
      lent : l.inp.state.ghost_name ≡ l.initial.inp.state.ghost_name;
    }

abbrev pub decreases-rounds : goal.decreases-rounds
decreases-rounds g l = (g.M.PartsRow.passes l.row g.E.Error.Error g.E.State.Inspector).left (g.M.PartsRow.taken l.slots)
