use Rattle.chumsky_parser.proofs.ChainedLemmas.{ran-given}
use Rattle.chumsky_set.proofs.row.NoPartPartsRowUnitUnitUnit.last.Goals as goal

pub returns-clause-ran : goal.returns-clause-ran
returns-clause-ran g c = ran-given
