use Rattle.chumsky_judge.specs.ErrorLaws.{validate-just_as}
use Rattle.chumsky_judge.proofs.laws.validate_that_emits_nothing_answers_as_its_part.Goals as goal

pub returns : goal.returns
returns g c h = validate-just_as _ h _
