use Rattle.std.proofs.Common.{rules}
use Rattle.chumsky_parser.proofs.ChainedLemmas.{check_err, check_ok}
use Rattle.chumsky_folds.proofs.FoldingShownLemmas.{folds_shown-failed, folds_shown-folded, shown-passed}
use Rattle.chumsky_folds.proofs.foldl_with.FoldlWithParser.go_check.Goals as goal

pub returns-in_err-go_check-clause-ran : goal.returns-in_err-go_check-clause-ran
returns-in_err-go_check-clause-ran g c = folds_shown-failed c.go_check.ensures.ran (check_err c.in_err-go_check.was) (check_err (search rules))

pub returns-clause-ran : goal.returns-clause-ran
returns-clause-ran g c = folds_shown-folded c.go_check.ensures.ran (check_ok c.in_ok-go_check.was) (shown-passed _ _ _ c.pass_all.ensures.ran)
