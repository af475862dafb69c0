use Rattle.std.proofs.Common.{length}
use Rattle.std.specs.Fmt.{HasWritten, IsPlainFormatter}
use Rattle.std.specs.Option.{IfSome}
use Rattle.std.specs.declared.fmt.Formatter.{Formatter}
use Rattle.chumsky_input.specs.Display.{patterns_text, others_text}
use Rattle.chumsky_input.proofs.display.PatternsDisplay.fmt.Given as goal

-- once the rest is written too, all is
abbrev pub invariant-loop-rest : goal.invariant-loop-rest
invariant-loop-rest g l =
    IsPlainFormatter l.fn.f → (h : Formatter g.row.W.Denot)
    → (IsPlainFormatter l.f → IfSome (others_text g.T.Display.output l.rest) (λ bs. HasWritten g.W.Write.write_str_gives l.f bs h))
    → IfSome (patterns_text g.T.Display.output l.self.0.now) (λ bs. HasWritten g.W.Write.write_str_gives l.fn.f bs h)

abbrev pub decreases-loop-rest : goal.decreases-loop-rest
decreases-loop-rest g l = length l.rest
