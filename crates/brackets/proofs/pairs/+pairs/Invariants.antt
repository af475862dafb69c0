use Rattle.brackets.proofs.pairs.+pairs.Given as goal

abbrev pub decreases-pairs : goal.decreases-pairs
decreases-pairs l = l.depth
