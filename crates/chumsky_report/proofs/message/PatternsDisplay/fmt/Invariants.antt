use Rattle.std.proofs.Common.{◌≡◌, false, length, take}
use Rattle.std.specs.Fmt.{HasWritten, IsPlainFormatter}
use Rattle.std.specs.declared.fmt.Formatter.{Formatter}
use Rattle.chumsky_report.specs.Message.{item_length, is_labelled, items, listed, others_text}
use Rattle.chumsky_report.proofs.message.PatternsDisplay.fmt.Given as goal

-- the first item of the rest is one to be said, and once the rest is written too, all is
abbrev pub invariant-loop-rest : goal.invariant-loop-rest
invariant-loop-rest g l = (is_labelled g.T.Symbol.number g.T.Symbol.text g.T.Symbol.word l.self.0.now (take (item_length g.T.Symbol.number g.T.Symbol.text g.T.Symbol.word l.rest) l.rest) ≡ false)
    × (IsPlainFormatter l.fn.f → (h : Formatter g.row.W.Denot)
    → (IsPlainFormatter l.f → HasWritten g.W.Write.write_str_gives l.f (others_text (items g.T.Symbol.number g.T.Symbol.text g.T.Symbol.word l.self.0.now 0 l.rest)) h)
    → HasWritten g.W.Write.write_str_gives l.fn.f (listed (items g.T.Symbol.number g.T.Symbol.text g.T.Symbol.word l.self.0.now 0 l.self.0.now)) h)

abbrev pub decreases-loop-rest : goal.decreases-loop-rest
decreases-loop-rest g l = length l.rest
