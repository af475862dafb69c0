use Rattle.std.proofs.Common.{true}
use Rattle.chumsky_folds.proofs.FoldingTriedLemmas.{asked_emits}
use Rattle.chumsky_folds.proofs.try_foldl.TryFoldlParser.go_emit.Goals as goal

pub returns-clause-ran : goal.returns-clause-ran
returns-clause-ran g c = asked_emits c.run_try_foldl.result (c.run_try_foldl.ensures.ran true)
