use Rattle.std.proofs.Common.{refl}
use Rattle.chumsky_input.specs.Held.{held}
use Rattle.chumsky_judge.proofs.MapErrLemmas.{maps_some, state_kept}
use Rattle.chumsky_judge.proofs.map_err.map_kept.Goals as goal

pub returns-in-Some-clause-maps : goal.returns-in-Some-clause-maps
returns-in-Some-clause-maps g c =
    maps_some g.E.Error.Error.merged g.E.Error.Error.takes_no_memory _ _ _ _ _
    (held g.I.Input g.E.Error.Error g.E.State.Inspector c.take_kept.new.self).state
    (held g.I.Input g.E.Error.Error g.E.State.Inspector c.args.inp.now)
    (held g.I.Input g.E.Error.Error g.E.State.Inspector c.take_kept.new.self)
    (held g.I.Input g.E.Error.Error g.E.State.Inspector c.take_kept.new.self) _ _ _ c.in-Some.ensures.kept
    c.in-Some.ensures.leaves refl refl (
      record { error = c.in-Some.kept.error; result = c.mapper-error.result; counts = refl; result_counts = refl; says = c.mapper-error.ensures },
      state_kept (held g.I.Input g.E.Error.Error g.E.State.Inspector c.args.inp.now)
          (held g.I.Input g.E.Error.Error g.E.State.Inspector c.take_kept.new.self) c.in-Some.ensures.leaves,
    )
    (rw c.put_kept-in-Some.ensures at c.add_event.ensures.adds)
