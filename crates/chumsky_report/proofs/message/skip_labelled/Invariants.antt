use Rattle.std.proofs.Common.{◌≡◌, ◌≤◌, length}
use Rattle.chumsky_report.specs.Message.{items}
use Rattle.chumsky_report.proofs.message.skip_labelled.Given as goal

abbrev pub invariant-loop-item : goal.invariant-loop-item
invariant-loop-item g l =
    (items g.T.Symbol.number g.T.Symbol.text g.T.Symbol.word l.patterns 0 l.rest ≡ items g.T.Symbol.number
    g.T.Symbol.text g.T.Symbol.word l.patterns 0 l.fn.rest)
    × (length l.rest ≤ length l.fn.rest)

abbrev pub decreases-loop-item : goal.decreases-loop-item
decreases-loop-item g l = length l.rest
