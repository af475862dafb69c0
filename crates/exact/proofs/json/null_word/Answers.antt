use Rattle.exact.proofs.json.null_word.Goals as goal

pub returns : goal.returns
returns c = rw c.map_by.ensures.parser c.just.ensures
