use Rattle.std.proofs.Common.{rules, arith}
use Rattle.chumsky_parser.proofs.ChainedLemmas.{check_err, check_ok}
use Rattle.chumsky_group.proofs.InTurnLemmas.{checks-next, checks-failed, checks-end}
use Rattle.chumsky_group.proofs.arrays.GroupArrayParserArrayVec.go_check.Goals as goal

pub returns-in_err-go_check-clause-ran : goal.returns-in_err-go_check-clause-ran
returns-in_err-go_check-clause-ran g c = checks-failed (omega arith) c.parser-item.is c.loop-parser.invariant.from c.go_check.ensures.ran (check_err c.in_err-go_check.was) (check_err (search rules))

pub loop-parser-preserved : goal.loop-parser-preserved
loop-parser-preserved g c = record {
  from = checks-next (omega arith) c.parser-item.is c.loop-parser.invariant.from c.go_check.ensures.ran (check_ok c.in_ok-go_check.was);
  lent = search rules;
}

pub returns-clause-ran : goal.returns-clause-ran
returns-clause-ran g c = checks-end (omega arith) c.loop-parser.invariant.from
