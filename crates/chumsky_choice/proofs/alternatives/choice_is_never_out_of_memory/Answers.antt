use Rattle.std.proofs.Common.{rules}
use Rattle.chumsky_choice.specs.ChoicesSpare.{in_order-spares}
use Rattle.chumsky_choice.proofs.alternatives.choice_is_never_out_of_memory.Goals as goal

pub returns-clause-one : goal.returns-clause-one
returns-clause-one g c h = h.0

pub returns-clause-several : goal.returns-clause-several
returns-clause-several g c s = in_order-spares _ _ s (g.T.Parser.meaning c.args.several.now) _ ((g.met.T.Alternatives c.lifetimes (search rules)).tries_in_order c.args.several.now)
