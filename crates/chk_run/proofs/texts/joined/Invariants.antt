use Rattle.std.proofs.Common.{◌≡◌, ◌++◌}
use Rattle.chk_run.proofs.texts.joined.Given as goal

abbrev pub invariant-loop-last : goal.invariant-loop-last
invariant-loop-last l = l.first.items ++ l.second.items ≡ l.fn.first.items ++ l.fn.second.items

abbrev pub decreases-loop-last : goal.decreases-loop-last
decreases-loop-last l = l.first.len
