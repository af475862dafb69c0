use Rattle.exact.proofs.nested.+pair.Given as goal

abbrev pub decreases-pair : goal.decreases-pair
decreases-pair l = l.depth
