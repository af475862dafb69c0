use Rattle.std.proofs.Common.{rules, ◌≡◌, Err, true, false, refl, ap}
use Rattle.chumsky_input.specs.declared.stop.Fault.TheVariants as fault
use Rattle.chumsky_input.specs.declared.stop.Stop.TheVariants.{Memory}
use Rattle.chumsky_input.specs.Held.{held}
use Rattle.chumsky_input.specs.Run.{KeepsPast}
use Rattle.chumsky_parser.proofs.ChainedLemmas.{check_ok, check_err}
use Rattle.chumsky_judge.proofs.AndIsLemmas.{rewind_stops, rewind_no, rewind_past, rewind_here, rewind_here_refused}
use Rattle.chumsky_judge.proofs.rewind.RewindParser.go_check.Goals as goal

pub returns-then-keeps_past-clause-ran : goal.returns-then-keeps_past-clause-ran
returns-then-keeps_past-clause-ran g c =
    let past = rw (c.place.ensures, c.cursor-start.ensures, c.move_to.ensures) at (c.keeps_past.ensures.past c.if-keeps_past.true) in
    rw (c.put_kept.ensures, c.move_to.ensures, c.cursor-start.ensures)
    (rewind_past (rw (c.take_kept-older.ensures.leaves, check_ok c.in-Ok.is) at c.go_check.ensures.ran) past
    (ap (λ k. record (held g.I.Input g.E.Error.Error g.E.State.Inspector c.go_check.new.inp) { tokens = (held g.I.Input g.E.Error.Error g.E.State.Inspector c.args.inp.now).tokens; place = (held g.I.Input g.E.Error.Error g.E.State.Inspector c.args.inp.now).place; kept = k })
    c.take_kept-older.ensures.kept))

pub returns-in_err-keep_before-in-Ok-clause-ran : goal.returns-in_err-keep_before-in-Ok-clause-ran
returns-in_err-keep_before-in-Ok-clause-ran g c =
    let e : c.from_residual.result ≡ Err (fault.Stop Memory) = search rules in
    let not_past : KeepsPast (held g.I.Input g.E.Error.Error g.E.State.Inspector c.args.inp.now).place
    (held g.I.Input g.E.Error.Error g.E.State.Inspector c.go_check.new.inp).kept
    → ⊥ =
    (λ k. let t = c.keeps_past.ensures.converse (rw (c.place.ensures, c.cursor-start.ensures, c.move_to.ensures) k) in let no : ⊥
    = (let f = c.if-keeps_past.false in cc) in absurd no)
    in
    rw (check_err e)
    (rewind_here_refused (rw (c.take_kept-older.ensures.leaves, check_ok c.in-Ok.is) at c.go_check.ensures.ran)
    not_past refl (rw (c.move_to.ensures, c.cursor-start.ensures, c.take_kept-older.ensures.kept) at c.in_err-keep_before-in-Ok.ensures.keeps))

pub returns-in_ok-keep_before-in-Ok-clause-ran : goal.returns-in_ok-keep_before-in-Ok-clause-ran
returns-in_ok-keep_before-in-Ok-clause-ran g c =
    let not_past : KeepsPast (held g.I.Input g.E.Error.Error g.E.State.Inspector c.args.inp.now).place
    (held g.I.Input g.E.Error.Error g.E.State.Inspector c.go_check.new.inp).kept
    → ⊥ =
    (λ k. let t = c.keeps_past.ensures.converse (rw (c.place.ensures, c.cursor-start.ensures, c.move_to.ensures) k) in let no : ⊥
    = (let f = c.if-keeps_past.false in cc) in absurd no)
    in
    rewind_here (rw (c.take_kept-older.ensures.leaves, check_ok c.in-Ok.is) at c.go_check.ensures.ran) not_past refl (rw (c.move_to.ensures, c.cursor-start.ensures, c.take_kept-older.ensures.kept) at c.in_ok-keep_before-in-Ok.ensures.keeps)

pub returns-in-Err-Fail-clause-ran : goal.returns-in-Err-Fail-clause-ran
returns-in-Err-Fail-clause-ran g c =
    rewind_no (rw (c.take_kept-older.ensures.leaves, c.in-Err-Fail.field-0-is) at c.in-Err-Fail.ensures.ran) (rw c.take_kept-older.ensures.kept at c.fail_as_one.ensures.fails)

pub returns-in-Err-Stop-clause-ran : goal.returns-in-Err-Stop-clause-ran
returns-in-Err-Stop-clause-ran g c =
    rw c.in-Err-Stop.stop-is (rewind_stops (rw (c.take_kept-older.ensures.leaves, c.in-Err-Stop.field-0-is) at c.in-Err-Stop.ensures.ran))
