use Rattle.chumsky_group.proofs.NextLemmas.{ran-after}
use Rattle.chumsky_group.proofs.tuples.GroupTuple2ParserTuple2.go_emit.Goals as goal

pub returns-clause-ran : goal.returns-clause-ran
returns-clause-ran g c = ran-after _ _ c.go_emit-one.ensures.ran c.emit_after.ensures.ran
