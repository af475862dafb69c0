use Rattle.std.proofs.Common.{refl}
use Rattle.s_expression.proofs.exact_reader.expression_of.Goals as goal

pub returns : goal.returns
returns g c = record { list = refl; quote = refl }
