use Rattle.std.proofs.Common.{rules, ◌≡◌, ◌∙◌, ap, option_map}
use Rattle.std.specs.Prelude.{option_copied}
use Rattle.chumsky_input.specs.ExpectsLaws.{drained_view}
use Rattle.chumsky_input.specs.Maybe.{maybe_value}
use Rattle.chumsky_input.specs.Wanted.{sole_wanted}
use Rattle.chumsky_input.proofs.KeepingLemmas.{keeps_first, keeps_further, keeps_here}
use Rattle.chumsky_input.proofs.error.Error.keep_expected.Goals as goal

pub returns-in-None : goal.returns-in-None
returns-in-None g c =
    let h = c.in_ok-error.ensures.error in
    let shows : g.Self.Error.seen c.in_ok-error.error ≡ g.Self.Error.expectation (sole_wanted c.args.expected.now) (option_copied c.args.found) c.args.span =
    h.2
    ∙ ap (λ xs. g.Self.Error.expectation xs (option_map maybe_value c.lent.result) c.args.span) (drained_view _ _ h.0 _ h.1 ∙ c.as_expected.ensures)
    ∙ ap (λ f. g.Self.Error.expectation (sole_wanted c.args.expected.now) f c.args.span) c.lent.ensures in
    record { keeps = keeps_first g.Self.Error.merged g.Self.Error.seen c.in-None.ensures.value shows }

pub returns-then-older-place : goal.returns-then-older-place
returns-then-older-place g c =
    let h = c.in_ok-error.ensures.error in
    let shows : g.Self.Error.seen c.in_ok-error.error ≡ g.Self.Error.expectation (sole_wanted c.args.expected.now) (option_copied c.args.found) c.args.span =
    h.2
    ∙ ap (λ xs. g.Self.Error.expectation xs (option_map maybe_value c.lent.result) c.args.span) (drained_view _ _ h.0 _ h.1 ∙ c.as_expected.ensures)
    ∙ ap (λ f. g.Self.Error.expectation (sole_wanted c.args.expected.now) f c.args.span) c.lent.ensures in
    record { keeps = keeps_further g.Self.Error.merged g.Self.Error.seen c.in-Some.ensures.value (search rules) shows }

pub returns-in_ok-error-in-Some : goal.returns-in_ok-error-in-Some
returns-in_ok-error-in-Some g c =
    let h = c.in_ok-error.ensures.error in
    let shows : g.Self.Error.seen c.in_ok-error.error ≡ g.Self.Error.expectation (sole_wanted c.args.expected.now) (option_copied c.args.found) c.args.span =
    h.2
    ∙ ap (λ xs. g.Self.Error.expectation xs (option_map maybe_value c.lent.result) c.args.span) (drained_view _ _ h.0 _ h.1 ∙ c.as_expected.ensures)
    ∙ ap (λ f. g.Self.Error.expectation (sole_wanted c.args.expected.now) f c.args.span) c.lent.ensures in
    record {
      keeps = keeps_here g.Self.Error.merged g.Self.Error.seen c.in-Some.ensures.value c.requires.near
          (search rules)
          (c.in_ok-error-in-Some.ensures.error ∙ ap (g.Self.Error.merged (g.Self.Error.seen c.in-Some.older.error)) shows);
    }
