use Rattle.std.proofs.Common.{rules}
use Rattle.chumsky_parser.proofs.ChainedLemmas.{ran-given, chained, failed}
use Rattle.chumsky_set.proofs.PartLemmas.{shown_ok, shown_err}
use Rattle.chumsky_set.proofs.row.PartAndPartsRowTuple2Tuple2OptionTuple2.last.Goals as goal

pub returns-in_err-value-clause-ran : goal.returns-in_err-value-clause-ran
returns-in_err-value-clause-ran g c = failed c.complete.ensures.ran (shown_err _ c.in_err-value.was) (shown_err _ (search rules))

pub returns-in_err-values-clause-ran : goal.returns-in_err-values-clause-ran
returns-in_err-values-clause-ran g c = chained c.complete.ensures.ran (shown_ok _ c.in_ok-value.was) (failed c.last.ensures.ran (shown_err _ c.in_err-values.was) (shown_err _ (search rules)))

pub returns-clause-ran : goal.returns-clause-ran
returns-clause-ran g c = chained c.complete.ensures.ran (shown_ok _ c.in_ok-value.was) (chained c.last.ensures.ran (shown_ok _ c.in_ok-values.was) ran-given)
