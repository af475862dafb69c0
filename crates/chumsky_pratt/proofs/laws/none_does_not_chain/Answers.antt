use Rattle.chumsky_pratt.specs.PrecedenceLaws.{none_stays_out}
use Rattle.chumsky_pratt.proofs.laws.none_does_not_chain.Goals as goal

pub returns : goal.returns
returns g = none_stays_out _ _ g.requires
