use Rattle.std.proofs.Common.{rules}
use Rattle.chumsky_parser.proofs.ChainedLemmas.{failed, chained, emit_err, emit_ok}
use Rattle.chumsky_flatten.proofs.IntoItemsLemmas.{ran-iterator}
use Rattle.chumsky_flatten.proofs.into_iter.IntoIterIterParserItem.make_iter.Goals as goal

pub returns-in_err-output-clause-ran : goal.returns-in_err-output-clause-ran
returns-in_err-output-clause-ran g c = failed c.go_emit.ensures.ran (emit_err c.in_err-output.was) (emit_err (search rules))

pub returns-clause-ran : goal.returns-clause-ran
returns-clause-ran g c = chained c.go_emit.ensures.ran (emit_ok c.in_ok-output.was) (ran-iterator g.O.IntoIterator.into_iter_gives c.into_iter.ensures.into_iter_gives)
