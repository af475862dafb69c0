use Rattle.std.proofs.Common.{take}
use Rattle.std.specs.Io.KnownBytes.{Appends}
use Rattle.chk_run.specs.Lines.{error_lines}
use Rattle.chk_run.proofs.run.report.Given as goal

abbrev pub invariant-loop-error : goal.invariant-loop-error
invariant-loop-error g l = Appends (g.W.Write.contents l.fn.out) (g.W.Write.contents l.out) (error_lines (take l.error-index l.errors))
