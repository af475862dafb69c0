use Rattle.std.proofs.Common.{sym, ◌∙◌}
use Rattle.chumsky_folds.proofs.ComparedLemmas.{foldl-collected}
use Rattle.chumsky_folds.proofs.laws.foldl_is_the_fold_of_what_collect_gives.Goals as goal

pub returns : goal.returns
returns g c = foldl-collected _ _ _ (λ xs ys v e d. sym e ∙ d) _ _ _
