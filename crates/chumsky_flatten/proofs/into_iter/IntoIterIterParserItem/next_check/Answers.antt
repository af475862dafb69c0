use Rattle.chumsky_flatten.proofs.IntoItemsLemmas.{next-passed, next-ended}
use Rattle.chumsky_flatten.proofs.into_iter.IntoIterIterParserItem.next_check.Goals as goal

pub returns-in-None-clause-ran : goal.returns-in-None-clause-ran
returns-in-None-clause-ran g c = next-ended _ _ c.in-None.is c.next.ensures.steps

pub returns-in-Some-clause-ran : goal.returns-in-Some-clause-ran
returns-in-Some-clause-ran g c = next-passed _ _ c.in-Some.is c.next.ensures.steps
