use Rattle.chumsky_set.proofs.each.EachWithoutValuePartsRowWithoutValueVecOptionUnitUnit.last.Goals as goal

pub returns-clause-ran : goal.returns-clause-ran
returns-clause-ran g c = rw c.as_slice.ensures.value at c.last_checks.ensures.ran
