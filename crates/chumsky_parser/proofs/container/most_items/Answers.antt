use Rattle.std.proofs.Common.{arith}
use Rattle.std.proofs.lemmas.List.{length-drop}
use Rattle.chumsky_parser.proofs.container.most_items.Goals as goal

pub returns : goal.returns
returns g c = λ at. let part = length-drop at c.args.items.now in omega (arith, part)
