use Rattle.chumsky_pratt.proofs.opening.open_answer.Goals as goal

pub returns-clause-may : goal.returns-clause-may
returns-clause-may g c = rw c.answered.ensures at c.requires.may
