use Rattle.std.proofs.Common.{◌≡◌}
use Rattle.chumsky_input.specs.Rich.{AreMarked, add_new, pattern_same}
use Rattle.chumsky_input.proofs.rich.append_new.Given as goal

-- the patterns with those still to come are as at first, and the buckets of the patterns are marked
abbrev pub invariant-loop-pattern : goal.invariant-loop-pattern
invariant-loop-pattern g l =
    (add_new (pattern_same g.T.PartialEq.eq) l.patterns.items l.pattern-iterator.rest.items ≡ add_new (pattern_same g.T.PartialEq.eq) l.initial.patterns.items l.initial.pattern-iterator.rest.items)
    × AreMarked g.T.SameClone.bucket_of l.marks l.patterns.items
