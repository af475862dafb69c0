use Rattle.std.proofs.Common.{refl}
use Rattle.exact.proofs.json.value_of.Goals as goal

pub returns : goal.returns
returns g c = record { scalar = refl; array = refl; object = refl }
