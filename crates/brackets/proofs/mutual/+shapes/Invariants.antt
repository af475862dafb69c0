use Rattle.brackets.proofs.mutual.+shapes.Given as goal

abbrev pub decreases-round : goal.decreases-round
decreases-round l = l.depth

abbrev pub decreases-square : goal.decreases-square
decreases-square l = l.depth
