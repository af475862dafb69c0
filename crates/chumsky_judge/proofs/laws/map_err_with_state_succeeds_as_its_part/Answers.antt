use Rattle.chumsky_judge.specs.ErrorLaws.{map_err-succeeds, map_err-itself, spanned-itself}
use Rattle.chumsky_judge.proofs.laws.map_err_with_state_succeeds_as_its_part.Goals as goal

pub returns-clause-succeeds : goal.returns-clause-succeeds
returns-clause-succeeds g c = map_err-succeeds _ _ _

pub returns-clause-itself : goal.returns-clause-itself
returns-clause-itself g c h = map_err-itself _ _ _ (spanned-itself g.I.Input.span_between h)
