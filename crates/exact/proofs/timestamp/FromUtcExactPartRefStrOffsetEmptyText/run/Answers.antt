use Rattle.std.proofs.Common.{◌≡◌, ◌∙◌}
use Rattle.chumsky_exact.specs.Builders.{or_is, to_is, just_is}
use Rattle.exact.proofs.timestamp.FromUtcExactPartRefStrOffsetEmptyText.run.Goals as goal

pub returns : goal.returns
returns c =
    let utc : c.to-utc.result ≡ _ = to_is (c.to-utc.ensures.parser ∙ or_is (c.or.ensures.first ∙ just_is c.just.ensures) (c.or.ensures.second ∙ just_is c.just-2.ensures)) c.to-utc.ensures.value in
    let ahead : c.or-2.result ≡ _ = or_is (c.or-2.ensures.first ∙ utc) (c.or-2.ensures.second ∙ c.signed.ensures) in
    let whole : c.or-offset.result ≡ _ = or_is (c.or-offset.ensures.first ∙ ahead) (c.or-offset.ensures.second ∙ c.signed-2.ensures) in
    let ran = rw whole at c.run_part.ensures.ran in
    record { ran = ran; as_wanted = c.run_part.ensures.as_wanted; lent = c.run_part.ensures.lent }
