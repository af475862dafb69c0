use Rattle.std.proofs.Common.{[], ◌∷◌, ◌∙◌, ap, option_map}
use Rattle.std.proofs.lemmas.Result.{IfOk-weaker}
use Rattle.chumsky_input.specs.ExpectsLaws.{drained_view}
use Rattle.chumsky_input.specs.Maybe.{maybe_value}
use Rattle.chumsky_input.specs.Rich.{rich_found}
use Rattle.chumsky_input.specs.Wanted.{Label}
use Rattle.chumsky_label.proofs.label_error.RichLabelErrorRefStr.label_with.Goals as goal

pub returns-clause-error : goal.returns-clause-error
returns-clause-error g c =
    IfOk-weaker c.expected_found.result _ _
    (λ e h.
    let l = drained_view _ _ h.0 _ h.1 ∙ c.label_alone.ensures in
    h.2
    ∙ ap (λ xs. g.bound-3.expectation xs (option_map maybe_value c.found_there-found.result) c.span.result.now) l
    ∙ ap (λ found. g.bound-3.expectation (Label c.args.label.now.now ∷ []) found c.span.result.now) c.found_there-found.ensures
    ∙ ap (g.bound-3.expectation (Label c.args.label.now.now ∷ []) (rich_found c.args.self)) c.span.ensures)
    c.expected_found.ensures.error
