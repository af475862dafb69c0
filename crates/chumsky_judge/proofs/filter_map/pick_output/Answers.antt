use Rattle.std.proofs.Common.{rules, ◌≡◌, Err, Some, None, refl, ap}
use Rattle.chumsky_input.specs.declared.stop.Fault.TheVariants as fault
use Rattle.chumsky_input.specs.declared.stop.Stop.TheVariants.{Memory}
use Rattle.chumsky_input.specs.Held.{held}
use Rattle.chumsky_judge.proofs.VettedLemmas.{vetted_stops, vetted_no, vetted_yes, vetted_yes_refused, vetted_fails}
use Rattle.chumsky_judge.proofs.filter_map.pick_output.Goals as goal

pub returns-in_err-keep_before-in-Some-clause-ran : goal.returns-in_err-keep_before-in-Some-clause-ran
returns-in_err-keep_before-in-Some-clause-ran g c w =
    let e : c.from_residual.result ≡ Err (fault.Stop Memory) = search rules in
    rw e
    (vetted_yes_refused (rw c.take_kept-older.ensures.leaves at c.in-Ok.ensures.ran) _
    (held g.I.Input g.E.Error.Error g.E.State.Inspector c.go_emit.new.inp)
    refl c.in-Some.output (record { pick = Some c.in-Some.output; says = rw c.in-Some.is at c.pick.ensures; answer = refl; keeps = refl })
    (rw c.take_kept-older.ensures.kept at c.in_err-keep_before-in-Some.ensures.keeps))

pub returns-in_ok-keep_before-in-Some-clause-ran : goal.returns-in_ok-keep_before-in-Some-clause-ran
returns-in_ok-keep_before-in-Some-clause-ran g c w =
    vetted_yes (rw c.take_kept-older.ensures.leaves at c.in-Ok.ensures.ran) _
    (held g.I.Input g.E.Error.Error g.E.State.Inspector c.go_emit.new.inp)
    refl c.in-Some.output (record { pick = Some c.in-Some.output; says = rw c.in-Some.is at c.pick.ensures; answer = refl; keeps = refl })
    (rw c.take_kept-older.ensures.kept at c.in_ok-keep_before-in-Some.ensures.keeps)

pub returns-in-None-clause-ran : goal.returns-in-None-clause-ran
returns-in-None-clause-ran g c w =
    let kept = ap (λ k. record (held g.I.Input g.E.Error.Error g.E.State.Inspector c.go_emit.new.inp) { kept = k }) c.take_kept-older.ensures.kept in
    vetted_fails (rw c.take_kept-older.ensures.leaves at c.in-Ok.ensures.ran) _
    (held g.I.Input g.E.Error.Error g.E.State.Inspector c.go_emit.new.inp)
    refl _ refl (record { pick = None; says = rw c.in-None.is at c.pick.ensures; answer = refl; keeps = refl }) kept
    (rw (c.cursor-past.ensures, c.put_kept.ensures, c.cursor-start.ensures) at c.something_else.ensures.fails)

pub returns-in-Err-Fail-clause-ran : goal.returns-in-Err-Fail-clause-ran
returns-in-Err-Fail-clause-ran g c w =
    vetted_no (rw (c.take_kept-older.ensures.leaves, c.in-Err-Fail.field-0-is) at c.in-Err-Fail.ensures.ran) (rw c.take_kept-older.ensures.kept at c.fail_as_one.ensures.fails)

pub returns-in-Err-Stop-clause-ran : goal.returns-in-Err-Stop-clause-ran
returns-in-Err-Stop-clause-ran g c w =
    rw c.in-Err-Stop.stop-is (vetted_stops (rw (c.take_kept-older.ensures.leaves, c.in-Err-Stop.field-0-is) at c.in-Err-Stop.ensures.ran))
