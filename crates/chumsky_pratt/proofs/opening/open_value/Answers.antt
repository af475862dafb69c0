use Rattle.chumsky_pratt.proofs.opening.open_value.Goals as goal

pub returns-clause-may : goal.returns-clause-may
returns-clause-may g c = rw c.holding.ensures at c.requires.may
