use Rattle.std.proofs.Common.{◌≤◌, length}
use denote.Text.{Utf8}
use denote.Shadow.{shadow}
use Rattle.std.specs.Str.{chars}
use Rattle.chumsky_report.specs.Cut.{CutsAhead}
use Rattle.chumsky_report.specs.Window.{of_line}
use Rattle.chumsky_report.proofs.window.cut_ahead.Given as goal

abbrev pub invariant-loop-count : goal.invariant-loop-count
invariant-loop-count l = shadow (Utf8 l.left) × CutsAhead l.text l.count l.left × (l.count ≤ length (of_line (chars l.text)))
