use Rattle.chumsky_flatten.proofs.ComparedLemmas.{output-collected}
use Rattle.chumsky_flatten.proofs.laws.into_iter_gives_the_items_of_the_output.Goals as goal

pub returns : goal.returns
returns g c = output-collected _ _ _ _ _
