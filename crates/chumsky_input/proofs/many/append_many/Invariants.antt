use Rattle.std.proofs.Common.{◌≡◌}
use Rattle.chumsky_input.specs.Rich.{add_new, pattern_same}
use Rattle.chumsky_input.specs.Keys.{HasKeys}
use Rattle.chumsky_input.proofs.many.append_many.Given as goal

-- the patterns with those still to come are as at first, and their keys are known
abbrev pub invariant-loop-pattern : goal.invariant-loop-pattern
invariant-loop-pattern g l =
    (add_new (pattern_same g.T.PartialEq.eq) l.patterns.items l.pattern-iterator.rest.items ≡ add_new (pattern_same g.T.PartialEq.eq) l.initial.patterns.items l.initial.pattern-iterator.rest.items)
    × HasKeys g.T.SameClone.bucket_of l.places l.patterns.items
