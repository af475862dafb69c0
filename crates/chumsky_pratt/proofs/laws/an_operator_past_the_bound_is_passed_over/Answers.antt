use Rattle.std.proofs.Common.{◌∙◌}
use Rattle.chumsky_pratt.specs.PrecedenceLaws.{stands_by, bounded_passed}
use Rattle.chumsky_pratt.proofs.laws.an_operator_past_the_bound_is_passed_over.Goals as goal

pub returns : goal.returns
returns g c = λ i below a e l. bounded_passed _ below i _ _ _ (e ∙ (stands_by a).1) l
