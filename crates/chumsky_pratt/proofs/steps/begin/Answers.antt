use Rattle.std.proofs.Common.{refl}
use Rattle.chumsky_pratt.proofs.ClimbLemmas.{begins, begin_lacks}
use Rattle.chumsky_pratt.proofs.WeightLemmas.{beside, begin_less, begin_some}
use Rattle.chumsky_pratt.proofs.steps.begin.Goals as goal

pub returns-in-Ok-clause-goes : goal.returns-in-Ok-clause-goes
returns-in-Ok-clause-goes g c = rw c.cursor-start.ensures (λ to w. (_, record { least = refl; place = refl; tokens = refl }, begins _ _ _ _ _ _ c.in-Ok.ensures, w))

pub returns-in-Err-clause-goes : goal.returns-in-Err-clause-goes
returns-in-Err-clause-goes g c = λ to w. (_, begin_lacks _ _ _ _ _ c.in-Err.ensures, w)

pub returns-in-Ok-clause-lighter : goal.returns-in-Ok-clause-lighter
returns-in-Ok-clause-lighter g c = rw c.cursor-start.ensures (beside _ _ _ (begin_less _ _ _))

pub returns-in-Err-clause-lighter : goal.returns-in-Err-clause-lighter
returns-in-Err-clause-lighter g c = beside _ _ _ (begin_some _ _ _)
