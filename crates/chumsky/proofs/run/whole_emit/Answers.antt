use Rattle.std.proofs.Common.{rules}
use Rattle.chumsky_parser.proofs.ChainedLemmas.{failed, chained, ran-given, ran-asked, emit_err, emit_ok, check_err, check_ok}
use Rattle.chumsky.proofs.run.whole_emit.Goals as goal

pub returns-in_err-value-clause-ran : goal.returns-in_err-value-clause-ran
returns-in_err-value-clause-ran g c = failed c.go_emit.ensures.ran (emit_err c.in_err-value.was) (emit_err (search rules))

pub returns-in_err-go_check-clause-ran : goal.returns-in_err-go_check-clause-ran
returns-in_err-go_check-clause-ran g c =
    chained c.go_emit.ensures.ran (emit_ok c.in_ok-value.was)
    (failed (ran-asked c.go_check.ensures.ran) (check_err c.in_err-go_check.was) (emit_err (search rules)))

pub returns-clause-ran : goal.returns-clause-ran
returns-clause-ran g c = chained c.go_emit.ensures.ran (emit_ok c.in_ok-value.was) (chained (ran-asked c.go_check.ensures.ran) (check_ok c.in_ok-go_check.was) ran-given)
