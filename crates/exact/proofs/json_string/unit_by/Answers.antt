use Rattle.exact.proofs.json_string.unit_by.Goals as goal

pub returns : goal.returns
returns g c = record { beginning = rw c.ignore_then.ensures.first c.just.ensures; picker = rw c.ignore_then.ensures.second c.pick_by.ensures.picker }
