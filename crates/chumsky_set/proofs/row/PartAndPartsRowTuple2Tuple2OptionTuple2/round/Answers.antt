use Rattle.std.proofs.Common.{rules}
use Rattle.chumsky_parser.proofs.ChainedLemmas.{ran-given, chained, failed}
use Rattle.chumsky_set.proofs.PartLemmas.{taken_ok, taken_err}
use Rattle.chumsky_set.proofs.RoundsLemmas.{lessens_both}
use Rattle.chumsky_set.proofs.row.PartAndPartsRowTuple2Tuple2OptionTuple2.round.Goals as goal

pub returns-in_err-here-clause-ran : goal.returns-in_err-here-clause-ran
returns-in_err-here-clause-ran g c = failed c.offer.ensures.ran (taken_err _ c.in_err-here.was) (taken_err _ (search rules))

pub returns-in_err-there-clause-ran : goal.returns-in_err-there-clause-ran
returns-in_err-there-clause-ran g c = chained c.offer.ensures.ran (taken_ok _ c.in_ok-here.was) (failed c.round.ensures.ran (taken_err _ c.in_err-there.was) (taken_err _ (search rules)))

pub returns-clause-ran : goal.returns-clause-ran
returns-clause-ran g c = chained c.offer.ensures.ran (taken_ok _ c.in_ok-here.was) (chained c.round.ensures.ran (taken_ok _ c.in_ok-there.was) ran-given)

pub returns-clause-lessens : goal.returns-clause-lessens
returns-clause-lessens g c =
    let here = c.in_ok-here.ensures.lessens in
    let there = c.in_ok-there.ensures.lessens in
    lessens_both _ _ _ _ _ _ here there
