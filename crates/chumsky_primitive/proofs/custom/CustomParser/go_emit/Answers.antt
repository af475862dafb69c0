use Rattle.std.proofs.Common.{true}
use Rattle.chumsky_primitive.proofs.CustomLemmas.{custom_emits}
use Rattle.chumsky_primitive.proofs.custom.CustomParser.go_emit.Goals as goal

pub returns-clause-ran : goal.returns-clause-ran
returns-clause-ran g c = custom_emits c.call.result (c.call.ensures.ran true)
