use Rattle.guide.proofs.calculator.+sums.Given as goal

abbrev pub decreases-atom : goal.decreases-atom
decreases-atom l = l.depth

abbrev pub decreases-product : goal.decreases-product
decreases-product l = l.depth

abbrev pub decreases-sum : goal.decreases-sum
decreases-sum l = l.depth
