use Rattle.exact.proofs.timestamp.TimeOfDayExactPartRefStrClockEmptyText.run.Goals as goal

pub returns : goal.returns
returns c =
    let ran = rw (c.map_by-clock.ensures.parser, c.fields.ensures) at c.run_part.ensures.ran in
    record { ran = ran; as_wanted = c.run_part.ensures.as_wanted; lent = c.run_part.ensures.lent }
