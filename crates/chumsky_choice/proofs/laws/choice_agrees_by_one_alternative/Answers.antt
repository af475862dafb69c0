use Rattle.std.proofs.Common.{rules}
use Rattle.chumsky_choice.proofs.laws.choice_agrees_by_one_alternative.Goals as goal

pub returns : goal.returns
returns g c = (g.met.T.Alternatives c.lifetimes (search rules)).agrees_by_one c.args.choice.now
