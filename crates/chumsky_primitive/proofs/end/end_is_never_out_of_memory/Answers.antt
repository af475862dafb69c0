use Rattle.chumsky_primitive.specs.PrimitivesSpare.{empty-spares}
use Rattle.chumsky_primitive.specs.EndLanguage.{end-spares}
use Rattle.chumsky_primitive.proofs.end.end_is_never_out_of_memory.Goals as goal

pub returns-clause-end : goal.returns-clause-end
returns-clause-end g c q s = end-spares _ _ _ q s

pub returns-clause-empty : goal.returns-clause-empty
returns-clause-empty g c = empty-spares
