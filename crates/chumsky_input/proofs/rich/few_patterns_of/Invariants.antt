use Rattle.std.proofs.Common.{◌≡◌, map, []}
use Rattle.std.specs.List.{filter_map}
use Rattle.chumsky_input.specs.Rich.{AreMarked, add_new, pattern_seen, wanted_pattern}
use Rattle.chumsky_input.specs.Wanted.{wanted_same}
use Rattle.chumsky_input.proofs.rich.few_patterns_of.Given as goal

-- the patterns so far, and that the bits of their buckets are set
abbrev pub invariant-loop-item : goal.invariant-loop-item
invariant-loop-item g l =
    (map (pattern_seen g.T.SameClone.seen) l.patterns.items ≡ add_new (wanted_same g.T.SameClone.same) []
    (filter_map (wanted_pattern g.T.SameClone.seen) (map g.X.Item.Expectation.expectation l.yielded)))
    × AreMarked g.T.SameClone.bucket_of l.marks l.patterns.items
