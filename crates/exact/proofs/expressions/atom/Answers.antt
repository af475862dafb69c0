use Rattle.exact.proofs.expressions.atom.Goals as goal

pub returns : goal.returns
returns c = rw (c.or.ensures.second, c.map_by.ensures.parser) c.int.ensures
