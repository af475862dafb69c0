use Rattle.chumsky_judge.specs.ComparedLaws.{and_is-ends_as}
use Rattle.chumsky_judge.proofs.laws.and_is_ends_where_its_first_part_ends.Goals as goal

pub returns : goal.returns
returns g c = and_is-ends_as _ _ _ _ _
