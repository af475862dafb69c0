use Rattle.chumsky_set.proofs.each.EachForValuePartsRowForValueVecOptionVec.last.Goals as goal

pub returns-clause-ran : goal.returns-clause-ran
returns-clause-ran g c = rw c.as_mut_slice.ensures.value at c.last_values.ensures.ran
