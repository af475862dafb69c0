use Rattle.chumsky_parse_iter.proofs.step.run_step.Goals as goal

pub returns-in-None-clause-ran : goal.returns-in-None-clause-ran
returns-in-None-clause-ran g c = rw c.in-None.is c.run_first.ensures.ran
