use Rattle.std.proofs.Common.{inl, refl, sym, ap, option_map}
use Rattle.chumsky_input.specs.Held.{held}
use Rattle.chumsky_input.specs.Wanted.{plain_wanted}
use Rattle.chumsky_input.specs.Maybe.{maybe_value}
use Rattle.chumsky_input.proofs.Events.{adds_nothing}
use Rattle.chumsky_input.proofs.KeepingLemmas.{fails_at}
use Rattle.chumsky_input.proofs.input_ref.InputRef.expected.Goals as goal

pub returns-then-keeps_past-clause-fails : goal.returns-then-keeps_past-clause-fails
returns-then-keeps_past-clause-fails g c =
    inl
    (adds_nothing _ (held g.I.Input g.E.Error.Error g.E.State.Inspector c.args.self.now) _
    (rw (sym c.place-place.ensures) (c.if-keeps_past.ensures.past refl)))

pub returns-clause-fails : goal.returns-clause-fails
returns-clause-fails g c =
    fails_at g.E.Error.Error.merged g.E.Error.Error.takes_no_memory
    (held g.I.Input g.E.Error.Error g.E.State.Inspector c.args.self.now)
    (held g.I.Input g.E.Error.Error g.E.State.Inspector c.keep_expected.new.self)
    c.keep_expected.result c.place-place.ensures (ap (g.E.Error.Error.expectation (plain_wanted c.args.what) (option_map maybe_value c.args.found)) c.span-span.ensures) c.keep_expected.ensures.fails
