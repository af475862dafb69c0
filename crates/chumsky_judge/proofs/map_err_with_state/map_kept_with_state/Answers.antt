use Rattle.std.proofs.Common.{refl, subst}
use Rattle.chumsky_input.specs.Held.{held}
use Rattle.chumsky_judge.specs.MapErr.{MapsWithState}
use Rattle.chumsky_judge.proofs.MapErrLemmas.{maps_some, state_kept}
use Rattle.chumsky_judge.proofs.map_err_with_state.map_kept_with_state.Goals as goal

pub returns-in-Some-clause-maps : goal.returns-in-Some-clause-maps
returns-in-Some-clause-maps g c =
    let old = held g.I.Input g.E.Error.Error g.E.State.Inspector c.args.inp.now in
    let taken = held g.I.Input g.E.Error.Error g.E.State.Inspector c.take_kept.new.self in
    let moved = held g.I.Input g.E.Error.Error g.E.State.Inspector c.call_with_state-error.new.inp in
    maps_some g.E.Error.Error.merged g.E.Error.Error.takes_no_memory _ _ _ _ _ moved.state old taken moved _ _ _
    c.in-Some.ensures.kept c.in-Some.ensures.leaves c.call_with_state-error.ensures.moves refl
    (subst
    (λ z. MapsWithState g.E.Error.Error g.E.State.Inspector g.F.Fn c.args.mapper.now c.args.span z
    (g.E.Error.Error.seen c.in-Some.kept.error) (g.E.Error.Error.seen c.call_with_state-error.result)
    moved.state)
    (state_kept old taken c.in-Some.ensures.leaves) c.call_with_state-error.ensures.maps)
    (rw c.put_kept-in-Some.ensures at c.add_event.ensures.adds)
