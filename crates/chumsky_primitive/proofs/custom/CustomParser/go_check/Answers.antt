use Rattle.std.proofs.Common.{false}
use Rattle.chumsky_primitive.proofs.custom.CustomParser.go_check.Goals as goal

pub returns-clause-ran : goal.returns-clause-ran
returns-clause-ran g c = rw c.in_ok-value.was at (c.call.ensures.ran false)
