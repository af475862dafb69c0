use Rattle.chumsky_combinator.proofs.MappedItemsLemmas.{maps-check}
use Rattle.chumsky_combinator.proofs.map_items.MapIterParser.next_check.Goals as goal

pub returns-clause-ran : goal.returns-clause-ran
returns-clause-ran g c = maps-check _ _ c.next_check.ensures.ran
