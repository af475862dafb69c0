use Rattle.std.proofs.Common.{rules, arith}
use Rattle.chumsky_parser.proofs.ItemsLemmas.{check_fault, check_end, check_item}
use Rattle.chumsky_folds.proofs.EnumeratingLemmas.{enumerates-failed, enumerates-ended, enumerates-item, enumerates-full}
use Rattle.chumsky_folds.proofs.enumerate.EnumerateIterParserTuple2Usize.next_check.Goals as goal

pub returns-in_err-next_check-clause-ran : goal.returns-in_err-next_check-clause-ran
returns-in_err-next_check-clause-ran g c = enumerates-failed c.next_check.ensures.ran (check_fault _ c.in_err-next_check.was) (check_fault _ (search rules))

pub returns-then-number-clause-ran : goal.returns-then-number-clause-ran
returns-then-number-clause-ran g c = enumerates-full c.next_check.ensures.ran (check_item _ c.in_ok-next_check.was c.in-Some.is) (omega (arith, c.if-number.true))

pub returns-in-None-clause-ran : goal.returns-in-None-clause-ran
returns-in-None-clause-ran g c = enumerates-ended c.next_check.ensures.ran (check_end _ c.in_ok-next_check.was c.in-None.is)

pub returns-else-number-clause-ran : goal.returns-else-number-clause-ran
returns-else-number-clause-ran g c = enumerates-item c.next_check.ensures.ran (check_item _ c.in_ok-next_check.was c.in-Some.is) (λ z. omega (arith, c.if-number.false, z)) (omega arith)
