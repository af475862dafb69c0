-- A group made of the parts of a sequence.
use Rattle.chumsky_combinator.specs.declared.then.Then.{Then}
use Rattle.chumsky_group.specs.declared.group.Group.{Group}

-- `group((a, b, c))`, of the parts of `a.then(b).then(c)`
abbrev pub group_of : {A B C O U V : Type 0} → Then (Then A B O U) C (O × U) V → Group (A × B × C)
group_of thens = record { parsers = (thens.first.first, thens.first.second, thens.second) }
