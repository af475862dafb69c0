use Rattle.std.proofs.Common.{refl, subst}
use Rattle.chumsky_input.specs.Extra.{MayAnswer}
use Rattle.chumsky_input.specs.Held.{held}
use Rattle.chumsky_judge.proofs.MapErrLemmas.{maps_some, shown_kept}
use Rattle.chumsky_judge.proofs.map_err_with.map_kept_with.Goals as goal

pub returns-in-Some-clause-maps : goal.returns-in-Some-clause-maps
returns-in-Some-clause-maps g c =
    let old = held g.I.Input g.E.Error.Error g.E.State.Inspector c.args.inp.now in
    let taken = held g.I.Input g.E.Error.Error g.E.State.Inspector c.take_kept.new.self in
    let moved = held g.I.Input g.E.Error.Error g.E.State.Inspector c.call_with_extra-error.new.inp in
    let shown = shown_kept old taken (g.I.Input.place c.args.start.now) c.in-Some.ensures.leaves in
    maps_some g.E.Error.Error.merged g.E.Error.Error.takes_no_memory _ _ _ _ _ moved.state old taken moved _ _ _
    c.in-Some.ensures.kept c.in-Some.ensures.leaves c.call_with_extra-error.ensures.moves refl
    (record { error = c.in-Some.kept.error; result = c.call_with_extra-error.result; counts = refl; result_counts = refl; answers = subst (λ z. MayAnswer g.I.Input g.E.State.Inspector g.F.Fn c.args.mapper.now c.in-Some.kept.error z c.call_with_extra-error.result moved.state) shown c.call_with_extra-error.ensures.answers })
    (rw c.put_kept-in-Some.ensures at c.add_event.ensures.adds)
