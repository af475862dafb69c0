use Rattle.std.proofs.Common.{◌≡◌, ◌≤◌, take}
use Rattle.chumsky_report.specs.Line.{characters}
use Rattle.chumsky_report.proofs.line.characters.Given as goal

abbrev pub invariant-loop-byte : goal.invariant-loop-byte
invariant-loop-byte l = (l.count ≡ characters (take l.byte-index l.bytes)) × (l.count ≤ l.byte-index)
