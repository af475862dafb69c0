use Rattle.std.proofs.Common.{refl}
use Rattle.chumsky_input.specs.Held.{held, marks}
use Rattle.chumsky_input.proofs.Events.{cut}
use Rattle.chumsky_input.proofs.input_ref.InputRef.rewind.Goals as goal

pub returns-clause-back : goal.returns-clause-back
returns-clause-back g c =
    cut g.E.Error.Error.seen g.E.State.Inspector.back
    (held g.I.Input g.E.Error.Error g.E.State.Inspector c.args.self.now)
    (marks g.I.Input g.E.State.Inspector c.args.to.now) _ refl c.requires c.in_ok-on_rewind.ensures.goes
    c.truncate.ensures.items
