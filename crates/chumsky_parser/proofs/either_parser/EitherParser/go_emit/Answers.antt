use Rattle.chumsky_parser.proofs.either_parser.EitherParser.go_emit.Goals as goal

pub returns-in-Left-clause-ran : goal.returns-in-Left-clause-ran
returns-in-Left-clause-ran g c = rw c.in-Left.is c.go_emit.ensures.ran

pub returns-in-Right-clause-ran : goal.returns-in-Right-clause-ran
returns-in-Right-clause-ran g c = rw c.in-Right.is c.go_emit-in-Right.ensures.ran
