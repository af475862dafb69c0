use Rattle.std.proofs.Common.{rules, ◌≡◌, Err, refl, ap, ◌∙◌}
use Rattle.chumsky_input.specs.declared.stop.Fault.TheVariants as fault
use Rattle.chumsky_input.specs.declared.stop.Stop.TheVariants.{Memory}
use Rattle.chumsky_input.specs.Held.{held}
use Rattle.chumsky_parser.proofs.ChainedLemmas.{check_ok, check_err}
use Rattle.chumsky_judge.proofs.AndIsLemmas.{and_is_unmarked, and_is_stops, and_is_unrestored, and_is_no, and_is_yes, and_is_missing}
use Rattle.chumsky_judge.proofs.and_is.AndIsParser.go_check.Goals as goal

pub returns-in_err-before-clause-ran : goal.returns-in_err-before-clause-ran
returns-in_err-before-clause-ran g c =
    let e : c.from_residual.result ≡ Err (fault.Stop Memory) = search rules in
    rw (check_err e) (and_is_unmarked refl c.in_err-before.ensures)

pub returns-in_err-go_check-in-Ok-clause-ran : goal.returns-in_err-go_check-in-Ok-clause-ran
returns-in_err-go_check-in-Ok-clause-ran g c =
    let e : c.from_residual-in_err-go_check-in-Ok.result ≡ Err c.in_err-go_check-in-Ok.field-0.0 = search rules in
    let here = ap (λ m. record (held g.I.Input g.E.Error.Error g.E.State.Inspector c.go_check.new.inp) { tokens = m.tokens; place = m.place }) c.in_ok-before.ensures in
    rw (check_err e) (and_is_missing (rw (check_ok c.in-Ok.is) at c.go_check.ensures.ran) here (rw (c.move_to.ensures, check_err c.in_err-go_check-in-Ok.was) at c.go_check-in-Ok.ensures.ran))

pub returns-in-Ok-clause-ran : goal.returns-in-Ok-clause-ran
returns-in-Ok-clause-ran g c =
    let here = ap (λ m. record (held g.I.Input g.E.Error.Error g.E.State.Inspector c.go_check.new.inp) { tokens = m.tokens; place = m.place }) c.in_ok-before.ensures in
    rw (c.move_to-in-Ok.ensures, c.cursor-past.ensures)
    (and_is_yes (rw (check_ok c.in-Ok.is) at c.go_check.ensures.ran) here (rw (c.move_to.ensures, check_ok c.in_ok-go_check-in-Ok.was) at c.go_check-in-Ok.ensures.ran) refl)

pub returns-in_err-rewind-in-Err-Fail-clause-ran : goal.returns-in_err-rewind-in-Err-Fail-clause-ran
returns-in_err-rewind-in-Err-Fail-clause-ran g c =
    let e : c.from_residual-in_err-rewind-in-Err-Fail.result ≡ Err (fault.Stop Memory) = search rules in
    let h = c.in_err-rewind-in-Err-Fail.ensures.back in
    rw (check_err e) (and_is_unrestored (rw (check_err (c.in-Err-Fail.is ∙ ap Err c.in-Err-Fail.field-0-is)) at c.go_check.ensures.ran) h.0 h.1)

pub returns-in-Err-Fail-clause-ran : goal.returns-in-Err-Fail-clause-ran
returns-in-Err-Fail-clause-ran g c =
    and_is_no (rw (check_err (c.in-Err-Fail.is ∙ ap Err c.in-Err-Fail.field-0-is)) at c.go_check.ensures.ran) c.in_ok-before.ensures c.in_ok-rewind-in-Err-Fail.ensures.back

pub returns-clause-ran : goal.returns-clause-ran
returns-clause-ran g c = rw c.in-Err-Stop.stop-is (and_is_stops (rw (check_err (c.in-Err-Stop.is ∙ ap Err c.in-Err-Stop.field-0-is)) at c.go_check.ensures.ran))
