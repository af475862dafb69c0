use Rattle.std.proofs.Common.{rules}
use Rattle.chumsky_parser.proofs.ChainedLemmas.{failed, chained, ran-asked, emit_err, emit_ok}
use Rattle.chumsky_parse_iter.proofs.PartsLemmas.{next_err}
use Rattle.chumsky_parse_iter.proofs.step.run_first.Goals as goal

pub returns-in_err-iteration-clause-ran : goal.returns-in_err-iteration-clause-ran
returns-in_err-iteration-clause-ran g c = failed (ran-asked c.make_iter.ensures.ran) (emit_err c.in_err-iteration.was) (next_err (search rules))

pub returns-clause-ran : goal.returns-clause-ran
returns-clause-ran g c = chained (ran-asked c.make_iter.ensures.ran) (emit_ok c.in_ok-iteration.was) c.run_next.ensures.ran
