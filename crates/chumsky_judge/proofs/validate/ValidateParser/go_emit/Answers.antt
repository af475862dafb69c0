use Rattle.std.proofs.Common.{true}
use Rattle.chumsky_judge.proofs.JudgeLemmas.{asked_emits}
use Rattle.chumsky_judge.proofs.validate.ValidateParser.go_emit.Goals as goal

pub returns-clause-ran : goal.returns-clause-ran
returns-clause-ran g c = asked_emits c.run_validator.result (c.run_validator.ensures.ran true)
