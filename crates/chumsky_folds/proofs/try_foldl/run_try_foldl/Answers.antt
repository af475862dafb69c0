use Rattle.std.proofs.Common.{rules}
use Rattle.chumsky_parser.proofs.ChainedLemmas.{emit_err, emit_ok}
use Rattle.chumsky_folds.proofs.FoldingTriedLemmas.{folds_tried-failed, folds_tried-folded}
use Rattle.chumsky_folds.proofs.try_foldl.run_try_foldl.Goals as goal

pub returns-in_err-first-clause-ran : goal.returns-in_err-first-clause-ran
returns-in_err-first-clause-ran g c w = folds_tried-failed c.go_emit.ensures.ran w (emit_err c.in_err-first.was) (search rules)

pub returns-clause-ran : goal.returns-clause-ran
returns-clause-ran g c w = folds_tried-folded c.go_emit.ensures.ran w _ (emit_ok c.in_ok-first.was) (rw c.cursor-before.ensures at c.try_fold_with.ensures.ran)
