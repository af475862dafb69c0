use Rattle.exact.proofs.json.+any_value.Given as goal

abbrev pub decreases-any_value : goal.decreases-any_value
decreases-any_value l = l.depth
