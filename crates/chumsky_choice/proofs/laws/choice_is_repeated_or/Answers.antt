use Rattle.chumsky_choice.specs.OrLaws.{choice-in-or, or-in-choice}
use Rattle.chumsky_choice.proofs.laws.choice_is_repeated_or.Goals as goal

pub returns-clause-in_or : goal.returns-clause-in_or
returns-clause-in_or g c = choice-in-or _ _ _ _ _ _

pub returns-clause-in_choice : goal.returns-clause-in_choice
returns-clause-in_choice g c = or-in-choice _ _ _ _ _ _
