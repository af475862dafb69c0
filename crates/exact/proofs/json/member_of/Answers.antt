use Rattle.std.proofs.Common.{refl}
use Rattle.exact.proofs.json.member_of.Goals as goal

pub returns : goal.returns
returns g c = record { name = refl; colon = c.mark.ensures; value = refl }
