use Rattle.chumsky_flatten.proofs.FlatteningLemmas.{flattens-emit}
use Rattle.chumsky_flatten.proofs.flatten.FlattenIterParserItem.next_emit.Goals as goal

pub returns-clause-ran : goal.returns-clause-ran
returns-clause-ran g c = flattens-emit _ _ c.next_item.ensures.ran
