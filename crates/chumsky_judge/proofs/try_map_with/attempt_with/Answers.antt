use Rattle.std.proofs.Common.{rules, ◌≡◌, Ok, Err, refl, ap, subst}
use Rattle.chumsky_input.specs.declared.stop.Fault.TheVariants as fault
use Rattle.chumsky_input.specs.declared.stop.Stop.TheVariants.{Memory}
use Rattle.chumsky_input.specs.Held.{held}
use Rattle.chumsky_input.specs.Extra.{MayAnswer}
use Rattle.chumsky_judge.proofs.VettedLemmas.{vetted_stops, vetted_no, vetted_yes, vetted_yes_refused, vetted_adds, shown_same}
use Rattle.chumsky_judge.proofs.try_map_with.attempt_with.Goals as goal

pub returns-in_err-keep_before-in-Ok-call_with_extra-clause-ran : goal.returns-in_err-keep_before-in-Ok-call_with_extra-clause-ran
returns-in_err-keep_before-in-Ok-call_with_extra-clause-ran g c w =
    let e : c.from_residual.result ≡ Err (fault.Stop Memory) = search rules in
    rw e
    (vetted_yes_refused (rw c.take_kept-older.ensures.leaves at c.in-Ok.ensures.ran)
    (held g.I.Input g.E.Error.Error g.E.State.Inspector c.call_with_extra.new.inp).state
    (held g.I.Input g.E.Error.Error g.E.State.Inspector c.call_with_extra.new.inp)
    c.in-Ok-call_with_extra.ensures.moves c.in-Ok-call_with_extra.output
    (record { ruling = (Ok c.in-Ok-call_with_extra.output); answers = (subst (λ z. MayAnswer g.I.Input g.E.State.Inspector g.F.Fn c.args.try_map.now.mapper c.in-Ok.value z (Ok c.in-Ok-call_with_extra.output) (held g.I.Input g.E.Error.Error g.E.State.Inspector c.call_with_extra.new.inp).state) (shown_same w (held g.I.Input g.E.Error.Error g.E.State.Inspector c.args.inp.now) (held g.I.Input g.E.Error.Error g.E.State.Inspector c.go_emit.new.inp) (rw c.take_kept-older.ensures.leaves at c.in-Ok.ensures.ran)) (rw c.cursor-start.ensures at c.in-Ok-call_with_extra.ensures.answers)); answer = refl })
    (rw c.take_kept-older.ensures.kept at c.in_err-keep_before-in-Ok-call_with_extra.ensures.keeps))

pub returns-in_ok-keep_before-in-Ok-call_with_extra-clause-ran : goal.returns-in_ok-keep_before-in-Ok-call_with_extra-clause-ran
returns-in_ok-keep_before-in-Ok-call_with_extra-clause-ran g c w =
    vetted_yes (rw c.take_kept-older.ensures.leaves at c.in-Ok.ensures.ran)
    (held g.I.Input g.E.Error.Error g.E.State.Inspector c.call_with_extra.new.inp).state
    (held g.I.Input g.E.Error.Error g.E.State.Inspector c.call_with_extra.new.inp)
    c.in-Ok-call_with_extra.ensures.moves c.in-Ok-call_with_extra.output
    (record { ruling = (Ok c.in-Ok-call_with_extra.output); answers = (subst (λ z. MayAnswer g.I.Input g.E.State.Inspector g.F.Fn c.args.try_map.now.mapper c.in-Ok.value z (Ok c.in-Ok-call_with_extra.output) (held g.I.Input g.E.Error.Error g.E.State.Inspector c.call_with_extra.new.inp).state) (shown_same w (held g.I.Input g.E.Error.Error g.E.State.Inspector c.args.inp.now) (held g.I.Input g.E.Error.Error g.E.State.Inspector c.go_emit.new.inp) (rw c.take_kept-older.ensures.leaves at c.in-Ok.ensures.ran)) (rw c.cursor-start.ensures at c.in-Ok-call_with_extra.ensures.answers)); answer = refl })
    (rw c.take_kept-older.ensures.kept at c.in_ok-keep_before-in-Ok-call_with_extra.ensures.keeps)

pub returns-in-Err-clause-ran : goal.returns-in-Err-clause-ran
returns-in-Err-clause-ran g c w =
    let kept = ap (λ k. record (held g.I.Input g.E.Error.Error g.E.State.Inspector c.call_with_extra.new.inp) { kept = k }) c.take_kept-older.ensures.kept in
    vetted_adds (rw c.take_kept-older.ensures.leaves at c.in-Ok.ensures.ran)
    (held g.I.Input g.E.Error.Error g.E.State.Inspector c.call_with_extra.new.inp).state
    (held g.I.Input g.E.Error.Error g.E.State.Inspector c.call_with_extra.new.inp) c.in-Err.ensures.moves _
    (record { ruling = (Err c.in-Err.error); answers = (subst (λ z. MayAnswer g.I.Input g.E.State.Inspector g.F.Fn c.args.try_map.now.mapper c.in-Ok.value z (Err c.in-Err.error) (held g.I.Input g.E.Error.Error g.E.State.Inspector c.call_with_extra.new.inp).state) (shown_same w (held g.I.Input g.E.Error.Error g.E.State.Inspector c.args.inp.now) (held g.I.Input g.E.Error.Error g.E.State.Inspector c.go_emit.new.inp) (rw c.take_kept-older.ensures.leaves at c.in-Ok.ensures.ran)) (rw c.cursor-start.ensures at c.in-Err.ensures.answers)); answer = refl })
    kept (rw (c.place.ensures, c.cursor-start.ensures, c.put_kept.ensures) at c.add_event.ensures.adds)

pub returns-in-Err-Fail-clause-ran : goal.returns-in-Err-Fail-clause-ran
returns-in-Err-Fail-clause-ran g c w =
    vetted_no (rw (c.take_kept-older.ensures.leaves, c.in-Err-Fail.field-0-is) at c.in-Err-Fail.ensures.ran) (rw c.take_kept-older.ensures.kept at c.fail_as_one.ensures.fails)

pub returns-in-Err-Stop-clause-ran : goal.returns-in-Err-Stop-clause-ran
returns-in-Err-Stop-clause-ran g c w =
    rw c.in-Err-Stop.stop-is (vetted_stops (rw (c.take_kept-older.ensures.leaves, c.in-Err-Stop.field-0-is) at c.in-Err-Stop.ensures.ran))
