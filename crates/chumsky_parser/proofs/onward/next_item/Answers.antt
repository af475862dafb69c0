use Rattle.std.proofs.Common.{rules}
use Rattle.chumsky_parser.proofs.OnwardLemmas.{item-onward}
use Rattle.chumsky_parser.proofs.onward.next_item.Goals as goal

pub returns-clause-onward : goal.returns-clause-onward
returns-clause-onward g c = item-onward _ (((g.met.A.IterParser c.lifetimes (search rules)).ends_after_start c.args.parser.now c.args.debug).step _) _ _ c.next_emit.ensures.ran
