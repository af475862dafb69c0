use Rattle.std.proofs.Common.{sym, ◌∙◌}
use Rattle.chumsky_folds.proofs.ComparedLemmas.{foldr-collected}
use Rattle.chumsky_folds.proofs.laws.foldr_is_the_fold_of_the_reverse.Goals as goal

pub returns : goal.returns
returns g c = foldr-collected _ _ _ (λ xs ys v e d. sym e ∙ d) _ _ _
