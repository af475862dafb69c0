use Rattle.std.proofs.Common.{◌∙◌, ap, map}
use Rattle.chumsky_input.specs.Wanted.{Token}
use Rattle.chumsky_input.specs.ExpectsLaws.{drained_view}
use Rattle.chumsky_primitive.proofs.one_of.expect_members.Goals as goal

pub returns-clause-fails : goal.returns-clause-fails
returns-clause-fails g c = rw c.cursor-here.ensures at (c.expected_each.ensures.fails _ (λ xs d. drained_view _ _ xs _ d ∙ ap (map Token) c.of.ensures))
