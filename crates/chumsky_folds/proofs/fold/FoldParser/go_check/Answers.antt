use Rattle.chumsky_folds.proofs.FoldingLemmas.{folds_copy-passed}
use Rattle.chumsky_folds.proofs.fold.FoldParser.go_check.Goals as goal

pub returns-clause-ran : goal.returns-clause-ran
returns-clause-ran g c = folds_copy-passed _ _ _ _ c.pass_all.ensures.ran
