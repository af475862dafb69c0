use Rattle.std.proofs.Common.{rules, refl}
use Rattle.chumsky_parser.proofs.ChainedLemmas.{failed, chained, emit_err, emit_ok}
use Rattle.chumsky_folds.proofs.FoldingBackShownLemmas.{ran-folded_back_shown}
use Rattle.chumsky_folds.proofs.foldr_with.FoldrWithParser.go_emit.Goals as goal

pub returns-in_err-items-clause-ran : goal.returns-in_err-items-clause-ran
returns-in_err-items-clause-ran g c = failed c.collect_placed.ensures.ran (emit_err c.in_err-items.was) (emit_err (search rules))

pub returns-in_err-last-clause-ran : goal.returns-in_err-last-clause-ran
returns-in_err-last-clause-ran g c = chained c.collect_placed.ensures.ran (emit_ok c.in_ok-items.was) (failed c.go_emit.ensures.ran (emit_err c.in_err-last.was) (emit_err (search rules)))

pub returns-clause-ran : goal.returns-clause-ran
returns-clause-ran g c =
    chained c.collect_placed.ensures.ran (emit_ok c.in_ok-items.was)
    (chained c.go_emit.ensures.ran (emit_ok c.in_ok-last.was)
    (ran-folded_back_shown _ refl c.fold_back_with.ensures.folds c.fold_back_with.ensures.moves))
