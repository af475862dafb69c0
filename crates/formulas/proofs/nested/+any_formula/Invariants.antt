use Rattle.formulas.proofs.nested.+any_formula.Given as goal

abbrev pub decreases-any_formula : goal.decreases-any_formula
decreases-any_formula l = l.depth
