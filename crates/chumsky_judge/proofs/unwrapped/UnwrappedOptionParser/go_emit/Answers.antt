use Rattle.std.proofs.Common.{rules}
use Rattle.chumsky_parser.proofs.ChainedLemmas.{failed, chained, emit_err, emit_ok}
use Rattle.chumsky_combinator.proofs.MappedLemmas.{ran-given_by}
use Rattle.chumsky_judge.proofs.unwrapped.UnwrappedOptionParser.go_emit.Goals as goal

pub returns-in_err-held-clause-ran : goal.returns-in_err-held-clause-ran
returns-in_err-held-clause-ran g c = failed c.go_emit.ensures.ran (emit_err c.in_err-held.was) (emit_err (search rules))

pub returns-clause-ran : goal.returns-clause-ran
returns-clause-ran g c = chained c.go_emit.ensures.ran (emit_ok c.in_ok-held.was) (ran-given_by c.unwrap.ensures)
