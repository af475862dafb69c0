use Rattle.std.proofs.Common.{rules}
use Rattle.chumsky_parser.proofs.ChainedLemmas.{failed, chained, emit_err, emit_ok}
use Rattle.chumsky_combinator.proofs.MappedLemmas.{ran-given_by}
use Rattle.chumsky_combinator.proofs.map.MapParser.go_emit.Goals as goal

pub returns-in_err-value-clause-ran : goal.returns-in_err-value-clause-ran
returns-in_err-value-clause-ran g c = failed c.go_emit.ensures.ran (emit_err c.in_err-value.was) (emit_err (search rules))

pub returns-clause-ran : goal.returns-clause-ran
returns-clause-ran g c = chained c.go_emit.ensures.ran (emit_ok c.in_ok-value.was) (ran-given_by c.apply.ensures)
