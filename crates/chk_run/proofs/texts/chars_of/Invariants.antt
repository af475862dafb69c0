use Rattle.std.proofs.Common.{◌≡◌}
use Rattle.chk_run.proofs.texts.chars_of.Given as goal

abbrev pub invariant-loop-symbol : goal.invariant-loop-symbol
invariant-loop-symbol l = l.all.items ≡ l.yielded
