use Rattle.std.proofs.Common.{rules}
use Rattle.chumsky_parser.proofs.ChainedLemmas.{failed, chained, ran-given, emit_err, emit_ok}
use Rattle.chumsky_context.proofs.ignore_with_ctx_items.IgnoreWithCtxIterParser.make_iter.Goals as goal

pub returns-in_err-value-clause-ran : goal.returns-in_err-value-clause-ran
returns-in_err-value-clause-ran g c = failed c.go_emit.ensures.ran (emit_err c.in_err-value.was) (emit_err (search rules))

pub returns-in_err-items-clause-ran : goal.returns-in_err-items-clause-ran
returns-in_err-items-clause-ran g c = chained c.go_emit.ensures.ran (emit_ok c.in_ok-value.was) (failed c.make_iter_under.ensures.ran (emit_err c.in_err-items.was) (emit_err (search rules)))

pub returns-clause-ran : goal.returns-clause-ran
returns-clause-ran g c = chained c.go_emit.ensures.ran (emit_ok c.in_ok-value.was) (chained c.make_iter_under.ensures.ran (emit_ok c.in_ok-items.was) ran-given)
