use Rattle.std.proofs.Common.{◌≡◌, ◌+◌, length}
use Rattle.front.proofs.read.merged.Given as goal

abbrev pub invariant-loop-error : goal.invariant-loop-error
invariant-loop-error l = length l.all.items ≡ length l.fn.lexed.items + l.error-index
