use Rattle.std.proofs.Common.{◌≡◌, ◌≤◌, ◌+◌, length, take}
use Rattle.std.specs.List.{suffix_len}
use Rattle.std.specs.Str.{IsCharBoundary}
use Rattle.chumsky_report.specs.Line.{is_break}
use Rattle.chumsky_report.proofs.line.text_end.Given as goal

-- from `end` on the text has breaks alone
abbrev pub invariant-loop-end : goal.invariant-loop-end
invariant-loop-end l = (l.end + suffix_len is_break l.bytes ≡ length l.bytes + suffix_len is_break (take l.end l.bytes)) × (l.end ≤ length l.bytes) × IsCharBoundary l.bytes l.end

abbrev pub decreases-loop-end : goal.decreases-loop-end
decreases-loop-end l = l.end
