use Rattle.std.proofs.Common.{true}
use Rattle.chumsky_judge.proofs.JudgeLemmas.{asked_emits}
use Rattle.chumsky_judge.proofs.filter.FilterParser.go_emit.Goals as goal

pub returns-clause-ran : goal.returns-clause-ran
returns-clause-ran g c = asked_emits c.sift.result (c.sift.ensures.ran true)
