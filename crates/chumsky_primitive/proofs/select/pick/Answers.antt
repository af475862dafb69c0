use Rattle.std.proofs.Common.{rules, ◌≡◌, Err}
use Rattle.chumsky_input.specs.declared.stop.Fault.TheVariants as fault
use Rattle.chumsky_input.specs.declared.stop.Stop.TheVariants.{Memory}
use Rattle.chumsky_input.specs.Held.{held, marks}
use Rattle.chumsky_input.specs.Maybe.{maybe_value}
use Rattle.chumsky_primitive.specs.Select.{PicksValue}
use Rattle.chumsky_primitive.proofs.SelectLemmas.{select_unmarked, select_ends_input, select_lacks, select_takes, select_not_picked}
use Rattle.chumsky_primitive.proofs.select.pick.Goals as goal

pub returns-in_err-before-clause-ran : goal.returns-in_err-before-clause-ran
returns-in_err-before-clause-ran g c =
    let e : c.from_residual.result ≡ Err (fault.Stop Memory) = search rules in
    λ w. select_unmarked g.I.Input g.I.ValueInput.takes_no_memory g.E.Error.Error g.E.State.Inspector (PicksValue g.I.Input g.E.State.Inspector g.I.ValueInput.seen g.F.Fn c.args.filter.now) w
    (held g.I.Input g.E.Error.Error g.E.State.Inspector c.args.inp.now) _ e c.in_err-before.ensures

pub returns-in-None-clause-ran : goal.returns-in-None-clause-ran
returns-in-None-clause-ran g c =
    λ w. select_ends_input g.I.Input g.I.ValueInput.takes_no_memory g.E.Error.Error g.E.State.Inspector (PicksValue g.I.Input g.E.State.Inspector g.I.ValueInput.seen g.F.Fn c.args.filter.now) w
    (held g.I.Input g.E.Error.Error g.E.State.Inspector c.args.inp.now)
    (held g.I.Input g.E.Error.Error g.E.State.Inspector c.next_maybe.new.self) _ _ c.in-None.ensures.taken
    c.in-None.ensures.moves (rw c.cursor-here.ensures at c.expected.ensures.fails)

pub returns-in_err-token-in-Some-clause-ran : goal.returns-in_err-token-in-Some-clause-ran
returns-in_err-token-in-Some-clause-ran g c =
    let e : c.from_residual-in_err-token-in-Some.result ≡ Err (fault.Stop Memory) = search rules in
    λ w. select_lacks g.I.Input g.I.ValueInput.takes_no_memory g.E.Error.Error g.E.State.Inspector (PicksValue g.I.Input g.E.State.Inspector g.I.ValueInput.seen g.F.Fn c.args.filter.now) w
    (held g.I.Input g.E.Error.Error g.E.State.Inspector c.args.inp.now) (maybe_value c.in-Some.found)
    c.in-Some.ensures.taken (held g.I.Input g.E.Error.Error g.E.State.Inspector c.next_maybe.new.self)
    c.in-Some.ensures.moves
    _ e (rw c.get.ensures at c.in_err-token-in-Some.ensures)

pub returns-in-Some-call_with_extra-clause-ran : goal.returns-in-Some-call_with_extra-clause-ran
returns-in-Some-call_with_extra-clause-ran g c =
    λ w. select_takes g.I.Input g.I.ValueInput.takes_no_memory g.E.Error.Error g.E.State.Inspector (PicksValue g.I.Input g.E.State.Inspector g.I.ValueInput.seen g.F.Fn c.args.filter.now) w
    (held g.I.Input g.E.Error.Error g.E.State.Inspector c.args.inp.now) (maybe_value c.in-Some.found)
    c.in-Some.ensures.taken (held g.I.Input g.E.Error.Error g.E.State.Inspector c.next_maybe.new.self)
    c.in-Some.ensures.moves
    (marks g.I.Input g.E.State.Inspector c.in_ok-before.before) c.in_ok-before.ensures _ _
    c.in-Some-call_with_extra.ensures.moves _
    (record { token = _; counts = rw c.get.ensures at c.in_ok-token-in-Some.ensures; answers = c.in-Some-call_with_extra.ensures.answers })

pub returns-clause-ran : goal.returns-clause-ran
returns-clause-ran g c =
    λ w. select_not_picked g.I.Input g.I.ValueInput.takes_no_memory g.E.Error.Error g.E.State.Inspector (PicksValue g.I.Input g.E.State.Inspector g.I.ValueInput.seen g.F.Fn c.args.filter.now) w
    (held g.I.Input g.E.Error.Error g.E.State.Inspector c.args.inp.now) (maybe_value c.in-Some.found)
    c.in-Some.ensures.taken (held g.I.Input g.E.Error.Error g.E.State.Inspector c.next_maybe.new.self)
    c.in-Some.ensures.moves
    (marks g.I.Input g.E.State.Inspector c.in_ok-before.before) c.in_ok-before.ensures
    (held g.I.Input g.E.Error.Error g.E.State.Inspector c.call_with_extra.new.inp)
    (held g.I.Input g.E.Error.Error g.E.State.Inspector c.call_with_extra.new.inp).state
    c.in-None-call_with_extra.ensures.moves
    _ _ (record { token = _; counts = rw c.get.ensures at c.in_ok-token-in-Some.ensures; answers = c.in-None-call_with_extra.ensures.answers }) c.miss.ensures.misses
