use Rattle.std.proofs.Common.{◌≡◌, false, take}
use Rattle.std.specs.List.{list_any}
use Rattle.chumsky_report.specs.Message.{is_label}
use Rattle.chumsky_report.proofs.message.has_label.Given as goal

abbrev pub invariant-loop-pattern : goal.invariant-loop-pattern
invariant-loop-pattern g l = list_any (is_label g.T.Symbol.number g.T.Symbol.text g.T.Symbol.word l.word) (take l.pattern-index l.patterns) ≡ false
