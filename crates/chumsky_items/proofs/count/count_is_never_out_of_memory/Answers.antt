use Rattle.chumsky_items.specs.ItemsSpare.{counts-spare}
use Rattle.chumsky_items.proofs.count.count_is_never_out_of_memory.Goals as goal

pub returns : goal.returns
returns g c h = counts-spare _ _ h
