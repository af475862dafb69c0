use Rattle.chumsky_folds.proofs.AcceptingLemmas.{accepting-alike}
use Rattle.chumsky_folds.proofs.laws.try_foldl_that_never_refuses_is_foldl_with.Goals as goal

pub returns : goal.returns
returns g c never = accepting-alike _ _ _ _ _ never _
