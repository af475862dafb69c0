use Rattle.std.proofs.Common.{option_map, refl}
use Rattle.chumsky_input.specs.Held.{held, located}
use Rattle.chumsky_input.proofs.AsideLemmas.{keeps_older, clashes_older}
use Rattle.chumsky_input.proofs.input_ref.InputRef.keep_before.Goals as goal

pub returns-in-None-clause-keeps : goal.returns-in-None-clause-keeps
returns-in-None-clause-keeps g c =
    keeps_older g.E.Error.Error.merged g.E.Error.Error.seen
    (held g.I.Input g.E.Error.Error g.E.State.Inspector c.args.self.now)
    (option_map (located g.E.Error.Error.seen) c.args.older) refl c.in-None.ensures.value

pub returns-in-Stop-clause-keeps : goal.returns-in-Stop-clause-keeps
returns-in-Stop-clause-keeps g c =
    clashes_older g.E.Error.Error.merged g.E.Error.Error.takes_no_memory g.E.Error.Error.seen
    (held g.I.Input g.E.Error.Error g.E.State.Inspector c.args.self.now)
    (option_map (located g.E.Error.Error.seen) c.args.older) refl c.in-Some.ensures.value c.in-Stop.ensures.adds
