use Rattle.std.proofs.Common.{true}
use Rattle.chumsky_primitive.proofs.SelectLemmas.{asked_value}
use Rattle.chumsky_primitive.proofs.select.SelectParser.go_emit.Goals as goal

pub returns-clause-ran : goal.returns-clause-ran
returns-clause-ran g c = rw (asked_value c.pick.result) at (c.pick.ensures.ran true)
