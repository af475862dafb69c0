use Rattle.front.proofs.parser.+program.Given as goal

abbrev pub decreases-arguments : goal.decreases-arguments
decreases-arguments l = l.depth

abbrev pub decreases-atom : goal.decreases-atom
decreases-atom l = l.depth

abbrev pub decreases-call : goal.decreases-call
decreases-call l = l.depth

abbrev pub decreases-expression : goal.decreases-expression
decreases-expression l = l.depth

abbrev pub decreases-item : goal.decreases-item
decreases-item l = l.depth

abbrev pub decreases-items : goal.decreases-items
decreases-items l = l.depth
