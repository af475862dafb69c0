use Rattle.std.proofs.Common.{rules}
use Rattle.chumsky_choice.specs.AlternativesLaws.{in_order-stands}
use Rattle.chumsky_choice.proofs.laws.one_alternative_stands.Goals as goal

pub returns : goal.returns
returns g c =
    in_order-stands g.E.Error.Error g.E.State.Inspector (g.T.Parser.meaning c.args.choice.now)
    (g.T.Alternatives.each_does c.args.choice.now)
    ((g.met.T.Alternatives c.lifetimes (search rules)).tries_in_order c.args.choice.now)
