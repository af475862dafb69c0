use Rattle.std.proofs.Common.{rules}
use Rattle.chumsky_parser.proofs.ChainedLemmas.{failed, chained, last_check, check_err, check_ok}
use Rattle.chumsky_folds.specs.Placed.{HoldsPlaced}
use Rattle.chumsky_folds.proofs.FoldingBackShownLemmas.{placed-passed}
use Rattle.chumsky_folds.proofs.foldr_with.FoldrWithParser.go_check.Goals as goal

pub returns-in_err-pass_all-clause-ran : goal.returns-in_err-pass_all-clause-ran
returns-in_err-pass_all-clause-ran g c = failed (placed-passed (HoldsPlaced g.I.Input) _ c.pass_all.ensures.ran) (check_err c.in_err-pass_all.was) (check_err (search rules))

pub returns-clause-ran : goal.returns-clause-ran
returns-clause-ran g c =
    chained (placed-passed (HoldsPlaced g.I.Input) _ c.pass_all.ensures.ran) (check_ok c.in_ok-pass_all.was)
    (last_check _ c.go_check.ensures.ran (λ b o h. record { by_value = h }))
