use Rattle.std.proofs.Common.{take}
use Rattle.chumsky_input.specs.Keys.{AreKeyed}
use Rattle.chumsky_input.proofs.many.places_of.Given as goal

-- the keys of the patterns so far are there
abbrev pub invariant-loop-place : goal.invariant-loop-place
invariant-loop-place g l = AreKeyed g.T.SameClone.bucket_of l.places (take l.place l.patterns)
