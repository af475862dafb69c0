use Rattle.exact.proofs.trees.+any_tree.Given as goal

abbrev pub decreases-any_tree : goal.decreases-any_tree
decreases-any_tree l = l.depth
