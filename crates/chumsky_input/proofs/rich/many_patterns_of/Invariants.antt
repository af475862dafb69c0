use Rattle.std.proofs.Common.{◌≡◌, map, []}
use Rattle.std.specs.List.{filter_map}
use Rattle.chumsky_input.specs.Keys.{HasKeys}
use Rattle.chumsky_input.specs.Rich.{add_new, pattern_seen, wanted_pattern}
use Rattle.chumsky_input.specs.Wanted.{wanted_same}
use Rattle.chumsky_input.proofs.rich.many_patterns_of.Given as goal

-- the patterns so far, and that their keys are known
abbrev pub invariant-loop-item : goal.invariant-loop-item
invariant-loop-item g l =
    (map (pattern_seen g.T.SameClone.seen) l.patterns.items ≡ add_new (wanted_same g.T.SameClone.same) []
    (filter_map (wanted_pattern g.T.SameClone.seen) (map g.X.Item.Expectation.expectation l.yielded)))
    × HasKeys g.T.SameClone.bucket_of l.places l.patterns.items
