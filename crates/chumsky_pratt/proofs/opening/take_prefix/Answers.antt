use Rattle.std.proofs.Common.{rules}
use Rattle.chumsky_pratt.proofs.ClimbedLemmas.{last_prefix_tokens, last_prefix_since, last_prefix_order}
use Rattle.chumsky_pratt.proofs.opening.take_prefix.Goals as goal

pub returns-clause-tokens : goal.returns-clause-tokens
returns-clause-tokens g c = last_prefix_tokens _ _ _ _ _ _ _ c.requires.may.0 _ _ _ _ _ c.pop_prefix.ensures c.requires.may.1

pub returns-clause-since : goal.returns-clause-since
returns-clause-since g c = last_prefix_since _ _ _ _ _ _ _ c.requires.may.0 _ _ _ _ _ c.pop_prefix.ensures c.requires.may.1

pub returns-clause-order : goal.returns-clause-order
returns-clause-order g c =
    last_prefix_order _ _ _ _ _ _ _ ((g.met.P.Parser c.lifetimes (search rules)).ends_after_start _)
    ((g.met.R.Operators c.lifetimes (search rules)).ends_after_start _) c.requires.may.0 _ _ _ _ _
    c.pop_prefix.ensures c.requires.may.1
