use Rattle.std.proofs.Common.{rules, ◌≡◌, Err, refl}
use Rattle.std.specs.Prelude.{⊤}
use Rattle.chumsky_input.specs.declared.stop.Fault.TheVariants as fault
use Rattle.chumsky_input.specs.declared.stop.Stop.TheVariants.{Memory}
use Rattle.chumsky_input.specs.Held.{held, marks}
use Rattle.chumsky_primitive.specs.Select.{PicksRef}
use Rattle.chumsky_primitive.proofs.SelectLemmas.{select_unmarked, select_ends_input, select_takes, select_not_picked}
use Rattle.chumsky_primitive.proofs.select_ref.pick_ref.Goals as goal

pub returns-in_err-before-clause-ran : goal.returns-in_err-before-clause-ran
returns-in_err-before-clause-ran g c =
    let e : c.from_residual.result ≡ Err (fault.Stop Memory) = search rules in
    λ w. select_unmarked g.I.Input (λ _. ⊤) g.E.Error.Error g.E.State.Inspector (PicksRef g.I.Input g.E.State.Inspector g.F.Fn c.args.filter.now) w
    (held g.I.Input g.E.Error.Error g.E.State.Inspector c.args.inp.now) _ e c.in_err-before.ensures

pub returns-in-None-clause-ran : goal.returns-in-None-clause-ran
returns-in-None-clause-ran g c =
    λ w. select_ends_input g.I.Input (λ _. ⊤) g.E.Error.Error g.E.State.Inspector (PicksRef g.I.Input g.E.State.Inspector g.F.Fn c.args.filter.now) w
    (held g.I.Input g.E.Error.Error g.E.State.Inspector c.args.inp.now)
    (held g.I.Input g.E.Error.Error g.E.State.Inspector c.next_ref.new.self) _ _ c.in-None.ensures.taken
    c.in-None.ensures.moves (rw c.cursor-here.ensures at c.expected.ensures.fails)

pub returns-in-Some-call_with_extra-clause-ran : goal.returns-in-Some-call_with_extra-clause-ran
returns-in-Some-call_with_extra-clause-ran g c =
    λ w. select_takes g.I.Input (λ _. ⊤) g.E.Error.Error g.E.State.Inspector (PicksRef g.I.Input g.E.State.Inspector g.F.Fn c.args.filter.now) w
    (held g.I.Input g.E.Error.Error g.E.State.Inspector c.args.inp.now) c.in-Some.token.now c.in-Some.ensures.taken
    (held g.I.Input g.E.Error.Error g.E.State.Inspector c.next_ref.new.self) c.in-Some.ensures.moves
    (marks g.I.Input g.E.State.Inspector c.in_ok-before.before) c.in_ok-before.ensures _ _
    c.in-Some-call_with_extra.ensures.moves _
    (record { token = _; is_there = refl; answers = c.in-Some-call_with_extra.ensures.answers })

pub returns-clause-ran : goal.returns-clause-ran
returns-clause-ran g c =
    λ w. select_not_picked g.I.Input (λ _. ⊤) g.E.Error.Error g.E.State.Inspector (PicksRef g.I.Input g.E.State.Inspector g.F.Fn c.args.filter.now) w
    (held g.I.Input g.E.Error.Error g.E.State.Inspector c.args.inp.now) c.in-Some.token.now c.in-Some.ensures.taken
    (held g.I.Input g.E.Error.Error g.E.State.Inspector c.next_ref.new.self) c.in-Some.ensures.moves
    (marks g.I.Input g.E.State.Inspector c.in_ok-before.before) c.in_ok-before.ensures
    (held g.I.Input g.E.Error.Error g.E.State.Inspector c.call_with_extra.new.inp)
    (held g.I.Input g.E.Error.Error g.E.State.Inspector c.call_with_extra.new.inp).state
    c.in-None-call_with_extra.ensures.moves
    _ _ (record { token = _; is_there = refl; answers = c.in-None-call_with_extra.ensures.answers }) c.miss.ensures.misses
