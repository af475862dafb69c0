use Rattle.std.proofs.Common.{refl}
use Rattle.arithmetic.proofs.exact_sum.PiecesValuesSimpleSpanEmptyErr.option.Goals as goal

pub returns-in-None : goal.returns-in-None
returns-in-None c = rw c.in-None.is (c.new.result, refl, c.new.ensures.items)
