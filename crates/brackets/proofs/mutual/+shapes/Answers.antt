use Rattle.brackets.proofs.mutual.+shapes.Goals as goal

pub round-returns : goal.round-returns
round-returns t c = record { ran = rw (c.just.ensures, c.just-2.ensures, c.recursive_as.ensures.depth) at c.run_part.ensures.ran; as_wanted = c.run_part.ensures.as_wanted; lent = c.run_part.ensures.lent }

pub square-returns : goal.square-returns
square-returns t c = record { ran = rw (c.just.ensures, c.just-2.ensures, c.recursive_as.ensures.depth) at c.run_part.ensures.ran; as_wanted = c.run_part.ensures.as_wanted; lent = c.run_part.ensures.lent }
