use Rattle.std.proofs.Common.{rules}
use Rattle.chumsky_parser.proofs.ChainedLemmas.{failed, chained, ran-given, emit_err, emit_ok}
use Rattle.chumsky_combinator.proofs.then.ThenParserTuple2.go_emit.Goals as goal

pub returns-in_err-a-clause-ran : goal.returns-in_err-a-clause-ran
returns-in_err-a-clause-ran g c = failed c.go_emit.ensures.ran (emit_err c.in_err-a.was) (emit_err (search rules))

pub returns-in_err-b-clause-ran : goal.returns-in_err-b-clause-ran
returns-in_err-b-clause-ran g c = chained c.go_emit.ensures.ran (emit_ok c.in_ok-a.was) (failed c.go_emit-2.ensures.ran (emit_err c.in_err-b.was) (emit_err (search rules)))

pub returns-clause-ran : goal.returns-clause-ran
returns-clause-ran g c = chained c.go_emit.ensures.ran (emit_ok c.in_ok-a.was) (chained c.go_emit-2.ensures.ran (emit_ok c.in_ok-b.was) ran-given)
