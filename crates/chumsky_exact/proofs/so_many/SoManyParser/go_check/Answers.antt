use Rattle.std.proofs.Common.{◌∙◌, ap}
use Rattle.chumsky_context.proofs.ConfiguredLemmas.{ran-configured}
use Rattle.chumsky_exact.proofs.so_many.SoManyParser.go_check.Goals as goal

pub returns : goal.returns
returns g c =
    let l = c.just_so_many-items.ensures in
    let r = rw (l.item, l.at_least, l.at_most) at c.go_check.ensures.ran in
    record { ran = ran-configured c.how_many-count.result (c.how_many-count.ensures ∙ ap g.E.Context.HowMany.number c.ctx.ensures) r; lent = c.go_check.ensures.lent }
