use Rattle.exact.proofs.date.FullDateExactPartRefStrDateEmptyText.run.Goals as goal

pub returns : goal.returns
returns c =
    let ran = rw (c.map_by-date.ensures.parser, c.fields.ensures) at c.run_part.ensures.ran in
    record { ran = ran; as_wanted = c.run_part.ensures.as_wanted; lent = c.run_part.ensures.lent }
