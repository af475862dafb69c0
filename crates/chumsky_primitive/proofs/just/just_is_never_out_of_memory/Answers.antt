use Rattle.chumsky_primitive.specs.PrimitivesSpare.{just-spares}
use Rattle.chumsky_primitive.proofs.just.just_is_never_out_of_memory.Goals as goal

pub returns : goal.returns
returns g c x q s = just-spares _ _ _ q s _ _ _ x _
