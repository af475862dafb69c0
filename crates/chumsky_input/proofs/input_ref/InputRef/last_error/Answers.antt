use Rattle.std.proofs.Common.{◌∙◌, ap, [], None, option_map}
use Rattle.std.proofs.lemmas.Result.{IfOk-weaker}
use Rattle.chumsky_input.specs.Held.{located}
use Rattle.chumsky_input.specs.Run.{final_error}
use Rattle.chumsky_input.specs.ExpectsLaws.{drained_view}
use Rattle.chumsky_input.proofs.input_ref.InputRef.last_error.Goals as goal

pub returns-in-None-clause-error : goal.returns-in-None-clause-error
returns-in-None-clause-error g c =
    let e = g.E.Error.Error in
    let inp = c.args.self.now in
    IfOk-weaker c.expected_found.result _ _
    (λ x h. h.2 ∙ ap (λ xs. e.expectation xs None c.span-span.result) (drained_view _ _ h.0 _ h.1) ∙ ap (e.expectation [] None) c.span-span.ensures
    ∙ ap (λ k. final_error e.expectation g.I.Input.span_between (option_map (located e.seen) k) (g.I.Input.cursor_tokens inp.cursor) (g.I.Input.place inp.cursor)) c.in-None.ensures.value)
    c.expected_found.ensures.error
