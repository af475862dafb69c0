use Rattle.std.proofs.Common.{sym, ◌∙◌}
use Rattle.chumsky_flatten.proofs.TogetherLemmas.{flattened-collected}
use Rattle.chumsky_flatten.proofs.laws.flatten_gives_the_items_of_each_collection.Goals as goal

pub returns : goal.returns
returns g c = flattened-collected _ _ _ _ _ _ _ _ _ _ _ (λ xs ys v e d. sym e ∙ d)
