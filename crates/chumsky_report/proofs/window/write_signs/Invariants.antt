use Rattle.std.specs.Fmt.{HasWritten, IsPlainFormatter}
use Rattle.chumsky_report.specs.Window.{signs}
use Rattle.chumsky_report.proofs.window.write_signs.Given as goal

abbrev pub invariant-loop-character : goal.invariant-loop-character
invariant-loop-character g l = IsPlainFormatter l.fn.f → HasWritten g.W.Write.write_str_gives l.fn.f (signs l.yielded) l.f
