use Rattle.std.proofs.Common.{rules}
use Rattle.chumsky_parser.proofs.ChainedLemmas.{failed, chained, ran-given, ran-asked, check_err, check_ok}
use Rattle.chumsky.proofs.run.whole_check.Goals as goal

pub returns-in_err-go_check-clause-ran : goal.returns-in_err-go_check-clause-ran
returns-in_err-go_check-clause-ran g c = failed c.go_check.ensures.ran (check_err c.in_err-go_check.was) (check_err (search rules))

pub returns-in_err-go_check-2-clause-ran : goal.returns-in_err-go_check-2-clause-ran
returns-in_err-go_check-2-clause-ran g c =
    chained c.go_check.ensures.ran (check_ok c.in_ok-go_check.was)
    (failed (ran-asked c.go_check-2.ensures.ran) (check_err c.in_err-go_check-2.was) (check_err (search rules)))

pub returns-clause-ran : goal.returns-clause-ran
returns-clause-ran g c = chained c.go_check.ensures.ran (check_ok c.in_ok-go_check.was) (chained (ran-asked c.go_check-2.ensures.ran) (check_ok c.in_ok-go_check-2.was) ran-given)
