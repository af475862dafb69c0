use Rattle.chumsky_descent.specs.Kept.{call-spares}
use Rattle.chumsky_descent.proofs.laws.recursive_is_never_out_of_memory.Goals as goal

pub returns : goal.returns
returns g c keeps = call-spares (g.R.Recursion.says _ _) keeps c.args.called.now.depth
