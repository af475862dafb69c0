use Rattle.std.proofs.Common.{replicate}
use Rattle.std.specs.Fmt.{HasWritten, IsPlainFormatter}
use Rattle.chumsky_report.proofs.report.CaretsDisplay.fmt.Given as goal

abbrev pub invariant-loop-caret : goal.invariant-loop-caret
invariant-loop-caret g l = IsPlainFormatter l.initial.f → HasWritten g.W.Write.write_str_gives l.initial.f (replicate l._caret 94) l.f
