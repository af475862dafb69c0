use Rattle.chumsky_combinator.proofs.PartLemmas.{ran-none}
use Rattle.chumsky_descent.proofs.exact_part.OfExactPartParser.go_check.Goals as goal

pub returns-clause-ran : goal.returns-clause-ran
returns-clause-ran g c = ran-none _ _ c.in_ok-_none.ensures.as_wanted c.in_ok-_none.ensures.ran
