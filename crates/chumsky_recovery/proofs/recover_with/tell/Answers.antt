use Rattle.std.proofs.Common.{◌∙◌, ap, sym, [], None, option_map}
use Rattle.chumsky_input.specs.Held.{located}
use Rattle.chumsky_input.specs.Run.{final_error}
use Rattle.chumsky_input.specs.ExpectsLaws.{drained_view}
use Rattle.chumsky_recovery.proofs.RecoveredLemmas.{emits_as}
use Rattle.chumsky_recovery.proofs.recover_with.tell.Goals as goal

pub returns-in_ok-error-in-None-clause-tells : goal.returns-in_ok-error-in-None-clause-tells
returns-in_ok-error-in-None-clause-tells g c =
    let e = g.E.Error.Error in
    let h = c.in_ok-error-in-None.ensures.error in
    emits_as c.emit-in-None.result _ _ _ _
    (h.2 ∙ ap (λ xs. e.expectation xs None c.span-span.result) (drained_view _ _ h.0 _ h.1) ∙ ap (e.expectation [] None) c.span-span.ensures
    ∙ sym (ap (λ k. final_error e.expectation g.I.Input.span_between (option_map (located e.seen) k) (g.I.Input.cursor_tokens c.args.failed.end) (g.I.Input.place c.args.failed.end)) c.in-None.is))
    c.emit-in-None.ensures.emits
