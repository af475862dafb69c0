use Rattle.chumsky_judge.specs.ErrorLaws.{map_err-succeeds, map_err-itself, alone-itself}
use Rattle.chumsky_judge.proofs.laws.map_err_succeeds_as_its_part.Goals as goal

pub returns-clause-succeeds : goal.returns-clause-succeeds
returns-clause-succeeds g c = map_err-succeeds _ _ _

pub returns-clause-itself : goal.returns-clause-itself
returns-clause-itself g c h = map_err-itself _ _ _ (alone-itself h)
