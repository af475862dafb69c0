use Rattle.chumsky_pratt.proofs.ClimbedLemmas.{last_infix_tokens, last_infix_since, last_infix_order}
use Rattle.chumsky_pratt.proofs.opening.take_infix.Goals as goal

pub returns-clause-tokens : goal.returns-clause-tokens
returns-clause-tokens g c = last_infix_tokens _ _ _ _ _ _ _ c.requires.may.0 _ _ _ _ _ c.pop_infix.ensures c.requires.may.1

pub returns-clause-since : goal.returns-clause-since
returns-clause-since g c = last_infix_since _ _ _ _ _ _ _ c.requires.may.0 _ _ _ _ _ c.pop_infix.ensures c.requires.may.1

pub returns-clause-order : goal.returns-clause-order
returns-clause-order g c = last_infix_order _ _ _ _ _ _ _ c.requires.may.0 _ _ _ _ _ c.pop_infix.ensures c.requires.may.1
