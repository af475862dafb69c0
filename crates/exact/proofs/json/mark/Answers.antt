use Rattle.exact.proofs.json.mark.Goals as goal

pub returns : goal.returns
returns c = rw c.ignore_then.ensures.second c.just.ensures
