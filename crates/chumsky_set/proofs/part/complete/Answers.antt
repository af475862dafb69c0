use Rattle.chumsky_parser.proofs.ChainedLemmas.{ran-given}
use Rattle.chumsky_set.proofs.part.complete.Goals as goal

pub returns-in-Some-clause-ran : goal.returns-in-Some-clause-ran
returns-in-Some-clause-ran g c = rw c.in-Some.is ran-given
