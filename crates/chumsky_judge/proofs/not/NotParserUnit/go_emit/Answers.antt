use Rattle.std.proofs.Common.{true}
use Rattle.chumsky_judge.proofs.JudgeLemmas.{asked_emits}
use Rattle.chumsky_judge.proofs.not.NotParserUnit.go_emit.Goals as goal

pub returns-clause-ran : goal.returns-clause-ran
returns-clause-ran g c = asked_emits c.deny.result (c.deny.ensures.ran true)
