use Rattle.std.proofs.Common.{rules}
use Rattle.chumsky_parser.proofs.ChainedLemmas.{emit_err, emit_ok}
use Rattle.chumsky_context.proofs.CoveredLemmas.{spanned-given, spanned-failed}
use Rattle.chumsky_context.proofs.spanned.SpannedParserSpannedOutputSpan.go_emit.Goals as goal

pub returns-in_err-inner-clause-ran : goal.returns-in_err-inner-clause-ran
returns-in_err-inner-clause-ran g c = spanned-failed c.go_emit.ensures.ran (emit_err c.in_err-inner.was) (emit_err (search rules))

pub returns-clause-ran : goal.returns-clause-ran
returns-clause-ran g c = spanned-given c.go_emit.ensures.ran (emit_ok c.in_ok-inner.was) (search rules)
