use Rattle.chumsky_primitive.specs.PrimitivesSpare.{any-spares}
use Rattle.chumsky_primitive.proofs.any.any_is_never_out_of_memory.Goals as goal

pub returns : goal.returns
returns g c free q = any-spares _ _ _ q _ _ free
