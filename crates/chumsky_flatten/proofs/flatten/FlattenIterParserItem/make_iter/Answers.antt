use Rattle.std.proofs.Common.{rules}
use Rattle.chumsky_parser.proofs.ChainedLemmas.{failed, chained, emit_err, emit_ok, ran-given}
use Rattle.chumsky_flatten.proofs.flatten.FlattenIterParserItem.make_iter.Goals as goal

pub returns-in_err-inner-clause-ran : goal.returns-in_err-inner-clause-ran
returns-in_err-inner-clause-ran g c = failed c.make_iter.ensures.ran (emit_err c.in_err-inner.was) (emit_err (search rules))

pub returns-clause-ran : goal.returns-clause-ran
returns-clause-ran g c = chained c.make_iter.ensures.ran (emit_ok c.in_ok-inner.was) ran-given
