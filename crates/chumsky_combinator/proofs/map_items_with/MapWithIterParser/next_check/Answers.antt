use Rattle.chumsky_combinator.proofs.MappedItemsLemmas.{maps_with-check}
use Rattle.chumsky_combinator.proofs.map_items_with.MapWithIterParser.next_check.Goals as goal

pub returns-clause-ran : goal.returns-clause-ran
returns-clause-ran g c = maps_with-check _ _ c.next_check.ensures.ran
