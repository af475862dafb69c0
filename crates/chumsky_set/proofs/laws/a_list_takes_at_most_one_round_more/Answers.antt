use Rattle.chumsky_set.specs.ListsLaws.{set_each-rounds, set_stored-rounds}
use Rattle.chumsky_set.proofs.laws.a_list_takes_at_most_one_round_more.Goals as goal

pub returns-clause-vec : goal.returns-clause-vec
returns-clause-vec g c = set_each-rounds _ _ _ _ _ _

pub returns-clause-array : goal.returns-clause-array
returns-clause-array g c = set_stored-rounds _ _ _ _ _ _
