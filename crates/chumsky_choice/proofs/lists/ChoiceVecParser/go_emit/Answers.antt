use Rattle.chumsky_choice.proofs.lists.ChoiceVecParser.go_emit.Goals as goal

pub returns-clause-ran : goal.returns-clause-ran
returns-clause-ran g c = rw c.as_slice.ensures.value at c.emit_among.ensures.ran
