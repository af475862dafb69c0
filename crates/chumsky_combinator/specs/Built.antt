-- Parsers made of their parts, as the builders make them.
use Rattle.chumsky_combinator.specs.declared.ignore_then.IgnoreThen.{IgnoreThen}
use Rattle.chumsky_combinator.specs.declared.map.Map.{Map}
use Rattle.chumsky_combinator.specs.declared.or.Or.{Or}
use Rattle.chumsky_combinator.specs.declared.then.Then.{Then}

-- `first.then(second)`
abbrev pub then_of : {A B O U : Type 0} → A → B → Then A B O U
then_of first second = record { first = first; second = second; of = record {} }

-- `first.ignore_then(second)`
abbrev pub ignore_then_of : {A B O : Type 0} → A → B → IgnoreThen A B O
ignore_then_of first second = record { first = first; second = second; of = record {} }

-- `first.or(second)`
abbrev pub or_of : {A B : Type 0} → A → B → Or A B
or_of first second = record { first = first; second = second }

-- `parser.map_by(mapper)`
abbrev pub map_of : {A O F U : Type 0} → A → F → Map A O F U
map_of parser mapper = record { parser = parser; mapper = mapper; of = record {} }
