use Rattle.std.proofs.Common.{true}
use Rattle.chumsky_primitive.proofs.SelectLemmas.{asked_value}
use Rattle.chumsky_primitive.proofs.select_ref.SelectRefParser.go_emit.Goals as goal

pub returns-clause-ran : goal.returns-clause-ran
returns-clause-ran g c = rw (asked_value c.pick_ref.result) at (c.pick_ref.ensures.ran true)
