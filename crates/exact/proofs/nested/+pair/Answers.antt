use Rattle.exact.proofs.nested.+pair.Goals as goal

pub returns : goal.returns
returns t c =
    let parts = rw (c.ignored-pair.ensures.parser, c.delimited_by.ensures.parser, c.or_not-inside.ensures.parser) at c.run_part.ensures.ran in
    let ran = rw (c.delimited_by.ensures.opening, c.delimited_by.ensures.closing, c.just.ensures, c.just-2.ensures, c.recursive_as.ensures.depth) at parts in
    record { ran = ran; as_wanted = c.run_part.ensures.as_wanted; lent = c.run_part.ensures.lent }
