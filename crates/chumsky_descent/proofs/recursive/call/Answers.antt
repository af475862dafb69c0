use Rattle.std.proofs.Common.{arith}
use Rattle.chumsky_descent.proofs.CallLemmas.{ran-too_deep, ran-call}
use Rattle.chumsky_descent.proofs.recursive.call.Goals as goal

pub returns-then-called-eq0-clause-ran : goal.returns-then-called-eq0-clause-ran
returns-then-called-eq0-clause-ran g c = ran-too_deep (g.R.Recursion.says _ _) {depth = c.args.called.now.depth} (omega arith) _

pub returns-clause-ran : goal.returns-clause-ran
returns-clause-ran g c = ran-call (g.R.Recursion.says _ _) _ {depth = c.args.called.now.depth} (omega arith) (c.requires.runs _ _ _ _ _ c.function.ensures).ran
