use Rattle.arithmetic.proofs.operators.+sum.Given as goal

abbrev pub decreases-sum : goal.decreases-sum
decreases-sum l = l.depth
