use Rattle.std.proofs.Common.{◌∷◌, get_or, take}
use Rattle.std.specs.Fmt.{HasWritten, IsPlainFormatter}
use Rattle.chk_run.specs.Show.{patterns_text}
use Rattle.chumsky_input.specs.declared.rich.RichPattern.TheVariants.{Any}
use Rattle.chk_run.proofs.show.PatternsDisplay.fmt.Given as goal

abbrev pub invariant-loop-other : goal.invariant-loop-other
invariant-loop-other g l =
    IsPlainFormatter l.fn.f → HasWritten g.W.Write.write_str_gives l.fn.f (patterns_text (get_or l.self.0.now 0 Any ∷ take l.other-index l.others)) l.f
