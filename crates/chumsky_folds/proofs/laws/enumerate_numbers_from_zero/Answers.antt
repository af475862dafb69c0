use Rattle.chumsky_folds.proofs.NumberingLemmas.{enumerated-numbers}
use Rattle.chumsky_folds.proofs.laws.enumerate_numbers_from_zero.Goals as goal

pub returns : goal.returns
returns g c = enumerated-numbers _ _ _ _ (λ v. v.items) (λ xs v h. h)
