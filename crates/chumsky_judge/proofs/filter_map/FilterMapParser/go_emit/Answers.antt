use Rattle.std.proofs.Common.{true}
use Rattle.chumsky_judge.proofs.JudgeLemmas.{asked_emits}
use Rattle.chumsky_judge.proofs.filter_map.FilterMapParser.go_emit.Goals as goal

pub returns-clause-ran : goal.returns-clause-ran
returns-clause-ran g c = asked_emits c.pick_output.result (c.pick_output.ensures.ran true)
