use Rattle.std.proofs.Common.{true}
use Rattle.chumsky_judge.proofs.JudgeLemmas.{asked_emits}
use Rattle.chumsky_judge.proofs.try_map_with.TryMapWithParser.go_emit.Goals as goal

pub returns-clause-ran : goal.returns-clause-ran
returns-clause-ran g c = asked_emits c.attempt_with.result (c.attempt_with.ensures.ran true)
