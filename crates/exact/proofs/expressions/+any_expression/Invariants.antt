use Rattle.exact.proofs.expressions.+any_expression.Given as goal

abbrev pub decreases-any_expression : goal.decreases-any_expression
decreases-any_expression l = l.depth
