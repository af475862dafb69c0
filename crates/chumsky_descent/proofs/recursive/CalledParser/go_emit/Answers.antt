use Rattle.chumsky_descent.proofs.recursive.CalledParser.go_emit.Goals as goal

pub returns-in-Ok-Some-clause-ran : goal.returns-in-Ok-Some-clause-ran
returns-in-Ok-Some-clause-ran g c = rw c.in-Ok-Some.field-0-is at c.in-Ok-Some.ensures.ran
