use Rattle.std.proofs.Common.{rules}
use Rattle.chumsky_combinator.specs.StandingLaws.{or_else-both}
use Rattle.chumsky_combinator.proofs.laws.or_agrees_by_one_alternative.Goals as goal

pub returns : goal.returns
returns g c s t =
    or_else-both _ _ _ (g.A.Parser.same c.args.first.now) (g.B.Parser.same c.args.second.now) _ _
    ((g.met.A.Parser c.lifetimes (search rules)).agrees c.args.first.now s) ((g.met.B.Parser c.lifetimes (search rules)).agrees c.args.second.now t)
