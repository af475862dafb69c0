use Rattle.std.proofs.Common.{◌≡◌, min, take}
use Rattle.std.specs.List.{sum_by}
use Rattle.chumsky_debug.specs.Lines.{count_of}
use Rattle.chumsky_debug.proofs.lines.among.Given as goal

abbrev pub invariant-loop-part : goal.invariant-loop-part
invariant-loop-part l = l.found ≡ min 2 (sum_by (count_of l.node) (take l.part-index l.parts))
