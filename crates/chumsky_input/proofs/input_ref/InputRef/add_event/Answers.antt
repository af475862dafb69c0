use Rattle.std.proofs.Common.{rules, refl}
use Rattle.chumsky_input.specs.Held.{held}
use Rattle.chumsky_input.proofs.Events.{adds_first, adds_further, adds_nearer, adds_here}
use Rattle.chumsky_input.proofs.input_ref.InputRef.add_event.Goals as goal

pub returns-in-None-clause-adds : goal.returns-in-None-clause-adds
returns-in-None-clause-adds g c = adds_first _ g.E.Error.Error.seen (held g.I.Input g.E.Error.Error g.E.State.Inspector c.args.self.now) _ refl c.in-None.ensures.value

pub returns-then-kept-place-clause-adds : goal.returns-then-kept-place-clause-adds
returns-then-kept-place-clause-adds g c = adds_further _ g.E.Error.Error.seen (held g.I.Input g.E.Error.Error g.E.State.Inspector c.args.self.now) _ refl c.in-Some.ensures.value (search rules)

pub returns-then-place-kept-clause-adds : goal.returns-then-place-kept-clause-adds
returns-then-place-kept-clause-adds g c = adds_nearer _ g.E.Error.Error.seen (held g.I.Input g.E.Error.Error g.E.State.Inspector c.args.self.now) _ refl c.in-Some.ensures.value (search rules)

pub returns-in-Ok-clause-adds : goal.returns-in-Ok-clause-adds
returns-in-Ok-clause-adds g c =
    adds_here _ g.E.Error.Error.seen (held g.I.Input g.E.Error.Error g.E.State.Inspector c.args.self.now) _
    refl c.in-Some.ensures.value (search rules) c.in-Ok.ensures.error
