use Rattle.json_tree.proofs.+json.Given as goal

abbrev pub decreases-list : goal.decreases-list
decreases-list l = l.depth

abbrev pub decreases-object : goal.decreases-object
decreases-object l = l.depth

abbrev pub decreases-value : goal.decreases-value
decreases-value l = l.depth
