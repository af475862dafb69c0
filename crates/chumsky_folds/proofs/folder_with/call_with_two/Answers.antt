use Rattle.chumsky_folds.proofs.folder_with.call_with_two.Goals as goal

pub returns-clause-answers : goal.returns-clause-answers
returns-clause-answers g c = rw (c.cursor-to.ensures, c.ctx-context.ensures) at c.show_two.ensures
