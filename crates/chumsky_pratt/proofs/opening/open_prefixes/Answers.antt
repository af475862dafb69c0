use Rattle.chumsky_pratt.proofs.opening.open_prefixes.Goals as goal

pub returns-clause-may : goal.returns-clause-may
returns-clause-may g c = rw c.heading.ensures at c.requires.may
