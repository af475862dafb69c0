use Rattle.chumsky_combinator.proofs.BlindLemmas.{mapped-blindly}
use Rattle.chumsky_combinator.proofs.laws.map_with_by_a_blind_mapper_is_map.Goals as goal

pub returns : goal.returns
returns g c blind = mapped-blindly _ _ blind _
