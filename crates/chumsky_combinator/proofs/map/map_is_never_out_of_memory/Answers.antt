use Rattle.chumsky_combinator.specs.MappedLaws.{mapped-spares}
use Rattle.chumsky_combinator.proofs.map.map_is_never_out_of_memory.Goals as goal

pub returns : goal.returns
returns g c h = mapped-spares _ _ h.0
