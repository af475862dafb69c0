use Rattle.std.proofs.Common.{rules}
use Rattle.chumsky_parser.proofs.ChainedLemmas.{ran-given, chained, failed, check_err}
use Rattle.chumsky_set.proofs.PartLemmas.{shown_ok, shown_err}
use Rattle.chumsky_set.proofs.set.SetTuple2ParserTuple2.go_check.Goals as goal

pub returns-in_err-_done-clause-ran : goal.returns-in_err-_done-clause-ran
returns-in_err-_done-clause-ran g c = failed c.in_any_order.ensures.ran (shown_err _ c.in_err-_done.was) (check_err (search rules))

pub returns-clause-ran : goal.returns-clause-ran
returns-clause-ran g c = chained c.in_any_order.ensures.ran (shown_ok _ c.in_ok-_done.was) ran-given
