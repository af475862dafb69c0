use Rattle.chumsky_parser.proofs.ApartLemmas.{apart_yes, apart_clash, apart_no, apart_stop}
use Rattle.chumsky_parser.proofs.input_ref_ext.InputRefInputRefExt.parse.Goals as goal

pub returns-in-Ok-keep_before-clause-ran : goal.returns-in-Ok-keep_before-clause-ran
returns-in-Ok-keep_before-clause-ran g c =
    apart_yes (rw c.take_kept-older.ensures.leaves at c.in-Ok.ensures.ran) (rw c.take_kept-older.ensures.kept at c.in-Ok-keep_before.ensures.keeps)

pub returns-in-Ok-clause-ran : goal.returns-in-Ok-clause-ran
returns-in-Ok-clause-ran g c =
    rw c.stop.ensures.is (apart_clash (rw c.take_kept-older.ensures.leaves at c.in-Ok.ensures.ran) (rw c.take_kept-older.ensures.kept at c.in-Err.ensures.keeps) c.stop.ensures.stops)

pub returns-in-Err-Fail-clause-ran : goal.returns-in-Err-Fail-clause-ran
returns-in-Err-Fail-clause-ran g c =
    apart_no (rw (c.take_kept-older.ensures.leaves, c.in-Err-Fail.field-0-is) at c.in-Err-Fail.ensures.ran) (rw c.take_kept-older.ensures.kept at c.hand_out.ensures.hands)

pub returns-clause-ran : goal.returns-clause-ran
returns-clause-ran g c =
    rw c.stop-in-Err-Stop.ensures.is (apart_stop (rw (c.take_kept-older.ensures.leaves, c.in-Err-Stop.field-0-is) at c.in-Err-Stop.ensures.ran) c.stop-in-Err-Stop.ensures.stops)
