use Rattle.std.proofs.Common.{refl}
use Rattle.exact.proofs.json.true_word.Goals as goal

pub returns : goal.returns
returns c = record { word = rw c.map_by.ensures.parser c.just.ensures; value = rw c.map_by.ensures.mapper refl }
