use Rattle.std.proofs.Common.{refl}
use Rattle.s_expression.proofs.exact_reader.quote_of.Goals as goal

pub returns : goal.returns
returns g c = record { quote = c.just.ensures; item = refl; at_least = refl; at_most = refl }
