use Rattle.chumsky_combinator.specs.SequenceLaws.{sequence-regrouped, sequence-ungrouped}
use Rattle.chumsky_combinator.proofs.laws.then_is_associative.Goals as goal

pub returns-clause-right : goal.returns-clause-right
returns-clause-right g c = sequence-regrouped _ _ _

pub returns-clause-left : goal.returns-clause-left
returns-clause-left g c = sequence-ungrouped _ _ _
