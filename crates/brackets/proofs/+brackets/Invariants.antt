use Rattle.brackets.proofs.+brackets.Given as goal

abbrev pub decreases-brackets : goal.decreases-brackets
decreases-brackets l = l.depth
