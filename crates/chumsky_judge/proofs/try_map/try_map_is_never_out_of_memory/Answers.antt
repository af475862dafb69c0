use Rattle.chumsky_judge.specs.JudgedSpares.{vetted-spares}
use Rattle.chumsky_judge.proofs.try_map.try_map_is_never_out_of_memory.Goals as goal

pub returns : goal.returns
returns g c h = vetted-spares _ _ _ _ tt h.0
