use Rattle.chumsky_flatten.proofs.IntoItemsLemmas.{next-emit}
use Rattle.chumsky_flatten.proofs.into_iter.IntoIterIterParserItem.next_emit.Goals as goal

pub returns-clause-ran : goal.returns-clause-ran
returns-clause-ran g c = next-emit _ _ _ c.next.ensures.steps
