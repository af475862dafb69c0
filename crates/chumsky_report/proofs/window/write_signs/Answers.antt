use Rattle.std.proofs.Common.{sym, subst, ◌∙◌, map-id}
use Rattle.std.specs.Fmt.{HasWritten}
use Rattle.std.proofs.lemmas.Iterator.{YieldsList-from_chars}
use Rattle.std.proofs.lemmas.Iterator.Consumers.{YieldsList-end}
use Rattle.chumsky_report.specs.Window.{signs}
use Rattle.chumsky_report.proofs.window.write_signs.Goals as goal

pub returns : goal.returns
returns g c plain ok =
    let end = YieldsList-end (YieldsList-from_chars c.args.text.now c.utf8.text cc) c.loop-character.yielded _ c.loop-character.yielded_by _ _ c.in-None.is c.next.ensures.steps in
    subst (λ cs. HasWritten g.W.Write.write_str_gives c.args.f.now (signs cs) c.loop-character.f) (sym (map-id c.loop-character.yielded) ∙ end.0) (c.loop-character.invariant plain)
