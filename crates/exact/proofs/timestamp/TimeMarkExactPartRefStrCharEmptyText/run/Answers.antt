use Rattle.std.proofs.Common.{◌≡◌, ◌∙◌}
use Rattle.chumsky_exact.specs.Builders.{or_is, just_is}
use Rattle.exact.proofs.timestamp.TimeMarkExactPartRefStrCharEmptyText.run.Goals as goal

pub returns : goal.returns
returns c =
    let whole : c.or.result ≡ _ = or_is (c.or.ensures.first ∙ just_is c.just.ensures) (c.or.ensures.second ∙ just_is c.just-2.ensures) in
    let ran = rw whole at c.run_part.ensures.ran in
    record { ran = ran; as_wanted = c.run_part.ensures.as_wanted; lent = c.run_part.ensures.lent }
