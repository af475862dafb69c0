use Rattle.chumsky_judge.specs.JudgedSpares.{vetted-spares}
use Rattle.chumsky_judge.proofs.filter_map.filter_map_is_never_out_of_memory.Goals as goal

pub returns : goal.returns
returns g c q h = vetted-spares _ _ _ _ q h.0
