use Rattle.std.proofs.Common.{rules, ◌≡◌, Err, refl}
use Rattle.chumsky_input.specs.declared.stop.Fault.TheVariants as fault
use Rattle.chumsky_input.specs.declared.stop.Stop.TheVariants.{Memory}
use Rattle.chumsky_parser.proofs.ChainedLemmas.{check_ok, check_err}
use Rattle.chumsky_judge.proofs.MapErrLemmas.{map_err_stops, map_err_yes, map_err_yes_refused, map_err_no}
use Rattle.chumsky_judge.proofs.map_err_with_state.MapErrWithStateParser.go_check.Goals as goal

pub returns-in_err-keep_before-in-Ok-clause-ran : goal.returns-in_err-keep_before-in-Ok-clause-ran
returns-in_err-keep_before-in-Ok-clause-ran g c =
    let e : c.from_residual.result ≡ Err (fault.Stop Memory) = search rules in
    rw (check_err e)
    (map_err_yes_refused (rw (c.take_kept-older.ensures.leaves, check_ok c.in-Ok.is) at c.go_check.ensures.ran)
    (rw c.take_kept-older.ensures.kept at c.in_err-keep_before-in-Ok.ensures.keeps))

pub returns-in_ok-keep_before-in-Ok-clause-ran : goal.returns-in_ok-keep_before-in-Ok-clause-ran
returns-in_ok-keep_before-in-Ok-clause-ran g c =
    map_err_yes (rw (c.take_kept-older.ensures.leaves, check_ok c.in-Ok.is) at c.go_check.ensures.ran) (rw c.take_kept-older.ensures.kept at c.in_ok-keep_before-in-Ok.ensures.keeps)

pub returns-in-Err-Fail-clause-ran : goal.returns-in-Err-Fail-clause-ran
returns-in-Err-Fail-clause-ran g c =
    map_err_no (rw (c.take_kept-older.ensures.leaves, c.in-Err-Fail.field-0-is) at c.in-Err-Fail.ensures.ran)
    refl (rw (c.take_kept-older.ensures.kept, c.span-span.ensures, c.cursor-start.ensures, c.cursor.ensures) at c.map_kept_with_state.ensures.maps)

pub returns-in-Err-Stop-clause-ran : goal.returns-in-Err-Stop-clause-ran
returns-in-Err-Stop-clause-ran g c =
    rw c.in-Err-Stop.stop-is (map_err_stops (rw (c.take_kept-older.ensures.leaves, c.in-Err-Stop.field-0-is) at c.in-Err-Stop.ensures.ran))
