use Rattle.chumsky_primitive.specs.PrimitivesSpare.{tested-spares}
use Rattle.chumsky_primitive.proofs.one_of.one_of_is_never_out_of_memory.Goals as goal

pub returns-clause-one_of : goal.returns-clause-one_of
returns-clause-one_of g c free q s = tested-spares _ _ _ q s _ _ free _ _

pub returns-clause-none_of : goal.returns-clause-none_of
returns-clause-none_of g c free q s = tested-spares _ _ _ q s _ _ free _ _
