use Rattle.chumsky_choice.proofs.among.expect_nothing.Goals as goal

pub returns-clause-fails : goal.returns-clause-fails
returns-clause-fails g c = rw c.cursor-here.ensures at c.expected.ensures.fails
