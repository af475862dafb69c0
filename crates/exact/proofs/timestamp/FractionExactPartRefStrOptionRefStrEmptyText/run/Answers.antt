use Rattle.exact.proofs.timestamp.FractionExactPartRefStrOptionRefStrEmptyText.run.Goals as goal

pub returns : goal.returns
returns c =
    let parts = rw (c.or_not.ensures.parser, c.ignore_then.ensures.first, c.ignore_then.ensures.second) at c.run_part.ensures.ran in
    let ran = rw (c.just.ensures, c.digits-digits.ensures) at parts in
    record { ran = ran; as_wanted = c.run_part.ensures.as_wanted; lent = c.run_part.ensures.lent }
