use Rattle.s_expression.proofs.+lisp.Given as goal

abbrev pub decreases-list : goal.decreases-list
decreases-list l = l.depth

abbrev pub decreases-nested : goal.decreases-nested
decreases-nested l = l.depth

abbrev pub decreases-quote : goal.decreases-quote
decreases-quote l = l.depth
