use Rattle.chumsky_exact.proofs.NestedLemmas.{ran-checked}
use Rattle.chumsky_exact.proofs.nested.CountedParser.go_check.Goals as goal

pub returns-clause-ran : goal.returns-clause-ran
returns-clause-ran g c = ran-checked _ c.go_check.result c.go_check.ensures.ran
