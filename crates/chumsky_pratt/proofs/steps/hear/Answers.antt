use Rattle.chumsky_pratt.proofs.AnswerLemmas.{pushed}
use Rattle.chumsky_pratt.proofs.WeightLemmas.{lightened}
use Rattle.chumsky_pratt.proofs.steps.hear.Goals as goal

pub returns-in-Some-Prefix-clause-goes : goal.returns-in-Some-Prefix-clause-goes
returns-in-Some-Prefix-clause-goes g c = rw (pushed _ _ _ c.take_prefix-p.ensures.is) c.hear_prefix.ensures.goes

pub returns-in-Some-Prefix-clause-lighter : goal.returns-in-Some-Prefix-clause-lighter
returns-in-Some-Prefix-clause-lighter g c = lightened _ _ g.I.Input _ _ _ _ c.take_prefix-p.ensures.is c.hear_prefix.ensures.lighter

pub returns-in-Some-Infix-clause-goes : goal.returns-in-Some-Infix-clause-goes
returns-in-Some-Infix-clause-goes g c = rw (pushed _ _ _ c.take_infix-p.ensures.is) c.hear_infix.ensures.goes

pub returns-in-Some-Infix-clause-lighter : goal.returns-in-Some-Infix-clause-lighter
returns-in-Some-Infix-clause-lighter g c = lightened _ _ g.I.Input _ _ _ _ c.take_infix-p.ensures.is c.hear_infix.ensures.lighter
