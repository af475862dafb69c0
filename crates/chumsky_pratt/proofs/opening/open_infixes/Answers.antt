use Rattle.chumsky_pratt.proofs.opening.open_infixes.Goals as goal

pub returns-clause-may : goal.returns-clause-may
returns-clause-may g c = rw c.chaining.ensures at c.requires.may
