use Rattle.chumsky_judge.proofs.validate.call_with_emitter.Goals as goal

pub returns-clause-validates : goal.returns-clause-validates
returns-clause-validates g c = rw (c.cursor-to.ensures, c.ctx-context.ensures) at c.validate_shown.ensures
