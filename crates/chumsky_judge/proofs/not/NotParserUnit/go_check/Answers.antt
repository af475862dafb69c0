use Rattle.std.proofs.Common.{false}
use Rattle.chumsky_judge.proofs.JudgeLemmas.{asked_checks}
use Rattle.chumsky_judge.proofs.not.NotParserUnit.go_check.Goals as goal

pub returns-clause-ran : goal.returns-clause-ran
returns-clause-ran g c = asked_checks c.deny.result (c.deny.ensures.ran false)
