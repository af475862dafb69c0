use Rattle.chumsky_pratt.proofs.opening.open_begin.Goals as goal

pub returns-clause-may : goal.returns-clause-may
returns-clause-may g c = rw c.beginning.ensures at c.requires.may
