use Rattle.std.proofs.Common.{take}
use Rattle.chumsky_input.specs.Rich.{AreMarked}
use Rattle.chumsky_input.proofs.rich.marks_of.Given as goal

-- the buckets of the patterns so far are marked
abbrev pub invariant-loop-pattern : goal.invariant-loop-pattern
invariant-loop-pattern g l = AreMarked g.T.SameClone.bucket_of l.marks (take l.pattern-index l.patterns)
