use Rattle.chumsky_pratt.proofs.steps.step.Goals as goal

pub returns-in-Begin-clause-goes : goal.returns-in-Begin-clause-goes
returns-in-Begin-clause-goes g c = rw c.open_begin-least.ensures.is c.begin.ensures.goes

pub returns-in-Begin-clause-lighter : goal.returns-in-Begin-clause-lighter
returns-in-Begin-clause-lighter g c = rw c.open_begin-least.ensures.is c.begin.ensures.lighter

pub returns-in-Prefixes-clause-goes : goal.returns-in-Prefixes-clause-goes
returns-in-Prefixes-clause-goes g c = rw c.open_prefixes-head.ensures.is c.try_prefixes.ensures.goes

pub returns-in-Prefixes-clause-lighter : goal.returns-in-Prefixes-clause-lighter
returns-in-Prefixes-clause-lighter g c = rw c.open_prefixes-head.ensures.is c.try_prefixes.ensures.lighter

pub returns-in-Value-clause-goes : goal.returns-in-Value-clause-goes
returns-in-Value-clause-goes g c = rw c.open_value-p.ensures.is c.after_value.ensures.goes

pub returns-in-Value-clause-lighter : goal.returns-in-Value-clause-lighter
returns-in-Value-clause-lighter g c = rw c.open_value-p.ensures.is c.after_value.ensures.lighter

pub returns-in-Postfixes-clause-goes : goal.returns-in-Postfixes-clause-goes
returns-in-Postfixes-clause-goes g c = rw c.open_postfixes-turn.ensures.is c.try_postfixes.ensures.goes

pub returns-in-Postfixes-clause-lighter : goal.returns-in-Postfixes-clause-lighter
returns-in-Postfixes-clause-lighter g c = rw c.open_postfixes-turn.ensures.is c.try_postfixes.ensures.lighter

pub returns-in-Infixes-clause-goes : goal.returns-in-Infixes-clause-goes
returns-in-Infixes-clause-goes g c = rw c.open_infixes-turn.ensures.is c.try_infixes.ensures.goes

pub returns-in-Infixes-clause-lighter : goal.returns-in-Infixes-clause-lighter
returns-in-Infixes-clause-lighter g c = rw c.open_infixes-turn.ensures.is c.try_infixes.ensures.lighter

pub returns-in-Answer-clause-goes : goal.returns-in-Answer-clause-goes
returns-in-Answer-clause-goes g c = rw c.open_answer-answer.ensures.is c.hear.ensures.goes

pub returns-in-Answer-clause-lighter : goal.returns-in-Answer-clause-lighter
returns-in-Answer-clause-lighter g c = rw c.open_answer-answer.ensures.is c.hear.ensures.lighter

pub returns-in-Answer-clause-ends : goal.returns-in-Answer-clause-ends
returns-in-Answer-clause-ends g c = rw c.open_answer-answer.ensures.is c.hear.ensures.ends
