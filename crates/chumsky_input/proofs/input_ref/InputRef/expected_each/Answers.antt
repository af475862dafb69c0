use Rattle.std.proofs.Common.{inl, refl, ◌∙◌, sym, ap, option_map}
use Rattle.chumsky_input.specs.Held.{held}
use Rattle.chumsky_input.specs.Maybe.{maybe_value}
use Rattle.chumsky_input.proofs.Events.{adds_nothing, adds_at}
use Rattle.chumsky_input.proofs.input_ref.InputRef.expected_each.Goals as goal

pub returns-then-keeps_past-clause-fails : goal.returns-then-keeps_past-clause-fails
returns-then-keeps_past-clause-fails g c =
    λ es s. inl
    (adds_nothing _ (held g.I.Input g.E.Error.Error g.E.State.Inspector c.args.self.now) _
    (rw (sym c.place-place.ensures) (c.if-keeps_past.ensures.past refl)))

pub returns-in-Ok-clause-fails : goal.returns-in-Ok-clause-fails
returns-in-Ok-clause-fails g c =
    let h = c.in-Ok.ensures.error in
    λ es s. inl
    (adds_at g.E.Error.Error.merged g.E.Error.Error.takes_no_memory (held g.I.Input g.E.Error.Error g.E.State.Inspector c.args.self.now) (held g.I.Input g.E.Error.Error g.E.State.Inspector c.add_event.new.self)
    c.add_event.result c.place-place.ensures
    (h.2 ∙ ap (λ xs. g.E.Error.Error.expectation xs (option_map maybe_value c.args.found) c.span-span.result)
    (s h.0 h.1) ∙ ap (g.E.Error.Error.expectation es (option_map maybe_value c.args.found)) c.span-span.ensures)
    c.add_event.ensures.adds)
