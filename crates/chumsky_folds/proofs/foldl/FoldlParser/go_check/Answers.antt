use Rattle.std.proofs.Common.{rules, None}
use Rattle.chumsky_parser.proofs.ChainedLemmas.{failed, chained, check_err, check_ok}
use Rattle.chumsky_folds.proofs.FoldingLemmas.{folds-passed}
use Rattle.chumsky_folds.proofs.foldl.FoldlParser.go_check.Goals as goal

pub returns-in_err-go_check-clause-ran : goal.returns-in_err-go_check-clause-ran
returns-in_err-go_check-clause-ran g c = failed c.go_check.ensures.ran (check_err c.in_err-go_check.was) (check_err (search rules))

pub returns-clause-ran : goal.returns-clause-ran
returns-clause-ran g c = chained c.go_check.ensures.ran (check_ok c.in_ok-go_check.was) (folds-passed (g.F.Folder.gives c.args.self.now.folder) None _ c.pass_all.ensures.ran)
