use Rattle.std.proofs.Common.{rules}
use Rattle.chumsky_parser.proofs.ChainedLemmas.{ran-given, chained, failed, emit_err}
use Rattle.chumsky_set.proofs.PartLemmas.{shown_ok, shown_err}
use Rattle.chumsky_set.proofs.set.SetTuple3ParserTuple3.go_emit.Goals as goal

pub returns-in_err-a-clause-ran : goal.returns-in_err-a-clause-ran
returns-in_err-a-clause-ran g c = failed c.in_any_order.ensures.ran (shown_err _ c.in_err-a.was) (emit_err (search rules))

pub returns-clause-ran : goal.returns-clause-ran
returns-clause-ran g c = chained c.in_any_order.ensures.ran (shown_ok _ c.in_ok-a.was) ran-given
