use Rattle.chumsky_group.proofs.NextLemmas.{checked-after}
use Rattle.chumsky_group.proofs.tuples.GroupTuple2ParserTuple2.go_check.Goals as goal

pub returns-clause-ran : goal.returns-clause-ran
returns-clause-ran g c = checked-after _ _ c.go_check-one.ensures.ran c.check_after.ensures.ran
