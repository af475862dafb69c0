use Rattle.std.proofs.Common.{◌+◌, ◌*◌}
use Rattle.chumsky_debug.proofs.lines.+named.Given as goal

abbrev pub decreases-is_named : goal.decreases-is_named
decreases-is_named l = 2 * l.bound

abbrev pub decreases-is_called : goal.decreases-is_called
decreases-is_called l = 2 * l.bound + 1
