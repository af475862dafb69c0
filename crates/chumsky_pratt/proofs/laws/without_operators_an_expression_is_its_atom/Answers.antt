use Rattle.chumsky_pratt.specs.AloneLaws.{alone_is_atom}
use Rattle.chumsky_pratt.proofs.laws.without_operators_an_expression_is_its_atom.Goals as goal

pub returns : goal.returns
returns g c = alone_is_atom _ 0
