use Rattle.std.proofs.Common.{◌≡◌, ◌+◌, drop}
use Rattle.chumsky_report.specs.Message.{following}
use Rattle.chumsky_report.proofs.message.following.Given as goal

abbrev pub invariant-loop-other : goal.invariant-loop-other
invariant-loop-other g l = (l.count ≡ l.other-index)
    × (l.count + following g.T.Symbol.number g.T.Symbol.text g.T.Symbol.word l.last (drop l.other-index l.others) ≡ following g.T.Symbol.number g.T.Symbol.text g.T.Symbol.word l.first l.others)
