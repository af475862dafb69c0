use Rattle.s_expression.proofs.exact_reader.+any_expression.Given as goal

abbrev pub decreases-any_expression : goal.decreases-any_expression
decreases-any_expression l = l.depth
