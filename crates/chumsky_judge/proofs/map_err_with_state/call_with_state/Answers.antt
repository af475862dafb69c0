use Rattle.std.proofs.Common.{refl}
use Rattle.chumsky_judge.proofs.map_err_with_state.call_with_state.Goals as goal

pub returns-clause-maps : goal.returns-clause-maps
returns-clause-maps g c = record { error = _; result = _; lent = _; left = _; counts = refl; result_counts = refl; met = c.mapper.ensures; shows = refl; leaves = refl }
