use Rattle.chumsky_set.specs.AnyOrderLaws.{any_order-within}
use Rattle.chumsky_set.proofs.laws.a_set_takes_at_most_one_round_more.Goals as goal

pub returns-clause-one : goal.returns-clause-one
returns-clause-one g c = any_order-within _ _ _

pub returns-clause-two : goal.returns-clause-two
returns-clause-two g c = any_order-within _ _ _

pub returns-clause-three : goal.returns-clause-three
returns-clause-three g c = any_order-within _ _ _

pub returns-clause-four : goal.returns-clause-four
returns-clause-four g c = any_order-within _ _ _
