use Rattle.std.proofs.Common.{rules}
use Rattle.chumsky_parser.proofs.ChainedLemmas.{emit_err, emit_ok}
use Rattle.chumsky_folds.proofs.FoldingShownLemmas.{folds_shown-failed, folds_shown-folded}
use Rattle.chumsky_folds.proofs.foldl_with.FoldlWithParser.go_emit.Goals as goal

pub returns-in_err-first-clause-ran : goal.returns-in_err-first-clause-ran
returns-in_err-first-clause-ran g c = folds_shown-failed c.go_emit.ensures.ran (emit_err c.in_err-first.was) (emit_err (search rules))

pub returns-clause-ran : goal.returns-clause-ran
returns-clause-ran g c = folds_shown-folded c.go_emit.ensures.ran (emit_ok c.in_ok-first.was) (rw c.cursor-before.ensures at c.fold_with.ensures.ran)
