use Rattle.chumsky_context.proofs.CoveredLemmas.{spanned-check}
use Rattle.chumsky_context.proofs.spanned.SpannedParserSpannedOutputSpan.go_check.Goals as goal

pub returns-clause-ran : goal.returns-clause-ran
returns-clause-ran g c = spanned-check _ c.go_check.ensures.ran
