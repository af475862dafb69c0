use Rattle.std.proofs.Common.{rules, ◌≡◌, Err}
use Rattle.chumsky_input.specs.declared.stop.Fault.TheVariants as fault
use Rattle.chumsky_input.specs.declared.stop.Stop.TheVariants.{Memory}
use Rattle.chumsky_parser.proofs.ChainedLemmas.{emit_err}
use Rattle.chumsky_label.proofs.LabelledLemmas.{labelled_stops, labelled_yes, labelled_yes_lost, labelled_no, labelled_no_lost}
use Rattle.chumsky_label.proofs.labelled.LabelledParser.go_emit.Goals as goal

pub returns-in_err-keep_labelled-in-Ok-clause-ran : goal.returns-in_err-keep_labelled-in-Ok-clause-ran
returns-in_err-keep_labelled-in-Ok-clause-ran g c =
    let e : c.from_residual.result ≡ Err (fault.Stop Memory) = search rules in
    rw (emit_err e)
    (labelled_yes_lost (rw c.take_kept-older.ensures.leaves at c.in-Ok.ensures.ran)
    (rw (c.place-start.ensures, c.cursor.ensures, c.take_kept-older.ensures.kept) at c.in_err-keep_labelled-in-Ok.ensures.keeps))

pub returns-in_ok-keep_labelled-in-Ok-clause-ran : goal.returns-in_ok-keep_labelled-in-Ok-clause-ran
returns-in_ok-keep_labelled-in-Ok-clause-ran g c =
    labelled_yes (rw c.take_kept-older.ensures.leaves at c.in-Ok.ensures.ran) (rw (c.place-start.ensures, c.cursor.ensures, c.take_kept-older.ensures.kept) at c.in_ok-keep_labelled-in-Ok.ensures.keeps)

pub returns-in_err-keep_labelled-in-Err-Fail-clause-ran : goal.returns-in_err-keep_labelled-in-Err-Fail-clause-ran
returns-in_err-keep_labelled-in-Err-Fail-clause-ran g c =
    let e : c.from_residual-in_err-keep_labelled-in-Err-Fail.result ≡ Err (fault.Stop Memory) = search rules in
    rw (emit_err e)
    (labelled_no_lost
    (rw (c.take_kept-older.ensures.leaves, c.in-Err-Fail.field-0-is) at c.in-Err-Fail.ensures.ran)
    (rw (c.place-start.ensures, c.cursor.ensures, c.take_kept-older.ensures.kept) at c.in_err-keep_labelled-in-Err-Fail.ensures.keeps))

pub returns-in_ok-keep_labelled-in-Err-Fail-clause-ran : goal.returns-in_ok-keep_labelled-in-Err-Fail-clause-ran
returns-in_ok-keep_labelled-in-Err-Fail-clause-ran g c =
    labelled_no (rw (c.take_kept-older.ensures.leaves, c.in-Err-Fail.field-0-is) at c.in-Err-Fail.ensures.ran)
    (rw (c.place-start.ensures, c.cursor.ensures, c.take_kept-older.ensures.kept) at c.in_ok-keep_labelled-in-Err-Fail.ensures.keeps)

pub returns-in-Err-Stop-clause-ran : goal.returns-in-Err-Stop-clause-ran
returns-in-Err-Stop-clause-ran g c =
    rw c.in-Err-Stop.stop-is (labelled_stops (rw (c.take_kept-older.ensures.leaves, c.in-Err-Stop.field-0-is) at c.in-Err-Stop.ensures.ran))
