use Rattle.chumsky_parser.proofs.ShowingLemmas.{ran-not_shown}
use Rattle.chumsky_pratt.proofs.way.WithoutValueWayUnitUnit.fold.Goals as goal

pub returns-clause-ran : goal.returns-clause-ran
returns-clause-ran g c = ran-not_shown _
