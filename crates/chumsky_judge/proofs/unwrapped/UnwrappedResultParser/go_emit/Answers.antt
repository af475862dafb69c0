use Rattle.std.proofs.Common.{rules}
use Rattle.chumsky_parser.proofs.ChainedLemmas.{failed, chained, emit_err, emit_ok}
use Rattle.chumsky_combinator.proofs.MappedLemmas.{ran-given_by}
use Rattle.chumsky_judge.proofs.unwrapped.UnwrappedResultParser.go_emit.Goals as goal

pub returns-in_err-answer-clause-ran : goal.returns-in_err-answer-clause-ran
returns-in_err-answer-clause-ran g c = failed c.go_emit.ensures.ran (emit_err c.in_err-answer.was) (emit_err (search rules))

pub returns-clause-ran : goal.returns-clause-ran
returns-clause-ran g c = chained c.go_emit.ensures.ran (emit_ok c.in_ok-answer.was) (ran-given_by c.unwrap.ensures)
