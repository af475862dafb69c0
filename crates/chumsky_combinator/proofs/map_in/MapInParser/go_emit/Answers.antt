use Rattle.std.proofs.Common.{rules}
use Rattle.chumsky_parser.proofs.ChainedLemmas.{failed, chained, emit_err, emit_ok}
use Rattle.chumsky_combinator.proofs.MappedInLemmas.{ran-given_in, ran-lacks_in}
use Rattle.chumsky_combinator.proofs.map_in.MapInParser.go_emit.Goals as goal

pub returns-in_err-value-clause-ran : goal.returns-in_err-value-clause-ran
returns-in_err-value-clause-ran g c = failed c.go_emit.ensures.ran (emit_err c.in_err-value.was) (emit_err (search rules))

pub returns-in_err-output-clause-ran : goal.returns-in_err-output-clause-ran
returns-in_err-output-clause-ran g c = chained c.go_emit.ensures.ran (emit_ok c.in_ok-value.was) (ran-lacks_in c.apply_in.ensures c.in_err-output.was (emit_err (search rules)))

pub returns-clause-ran : goal.returns-clause-ran
returns-clause-ran g c = chained c.go_emit.ensures.ran (emit_ok c.in_ok-value.was) (ran-given_in c.apply_in.ensures c.in_ok-output.was)
