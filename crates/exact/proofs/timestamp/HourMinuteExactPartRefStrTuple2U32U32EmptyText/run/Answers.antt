use Rattle.std.proofs.Common.{◌≡◌, ◌∙◌}
use Rattle.chumsky_exact.specs.Builders.{then_is, then_ignore_is, pick_by_is, digits_is, just_is}
use Rattle.exact.specs.ThreeFields.{field_of}
use Rattle.exact.specs.Timestamp.{hours, minutes}
use Rattle.exact.proofs.timestamp.HourMinuteExactPartRefStrTuple2U32U32EmptyText.run.Goals as goal

pub returns : goal.returns
returns c =
    let hour : c.pick_by-hours.result ≡ field_of hours = pick_by_is (c.pick_by-hours.ensures.parser ∙ digits_is c.digits.ensures) c.pick_by-hours.ensures.picker in
    let minute : c.pick_by-minutes.result ≡ field_of minutes = pick_by_is (c.pick_by-minutes.ensures.parser ∙ digits_is c.digits-2.ensures) c.pick_by-minutes.ensures.picker in
    let before : c.then_ignore.result ≡ _ = then_ignore_is (c.then_ignore.ensures.first ∙ hour) (c.then_ignore.ensures.second ∙ just_is c.just.ensures) in
    let whole : c.then.result ≡ _ = then_is (c.then.ensures.first ∙ before) (c.then.ensures.second ∙ minute) in
    let ran = rw whole at c.run_part.ensures.ran in
    record { ran = ran; as_wanted = c.run_part.ensures.as_wanted; lent = c.run_part.ensures.lent }
