use Rattle.std.proofs.Common.{refl}
use Rattle.grammars.proofs.trees.TreesValuesSimpleSpanEmptyErr.list.Goals as goal

pub returns : goal.returns
returns c = (c.args.items, refl, refl)
