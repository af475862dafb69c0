use Rattle.std.proofs.Common.{rules}
use Rattle.chumsky_parser.proofs.ChainedLemmas.{failed, chained, last_check, check_err, check_ok}
use Rattle.chumsky_combinator.proofs.then.ThenParserTuple2.go_check.Goals as goal

pub returns-in_err-go_check-clause-ran : goal.returns-in_err-go_check-clause-ran
returns-in_err-go_check-clause-ran g c = failed c.go_check.ensures.ran (check_err c.in_err-go_check.was) (check_err (search rules))

pub returns-clause-ran : goal.returns-clause-ran
returns-clause-ran g c = chained c.go_check.ensures.ran (check_ok c.in_ok-go_check.was) (last_check _ c.go_check-2.ensures.ran (λ b o h. h))
