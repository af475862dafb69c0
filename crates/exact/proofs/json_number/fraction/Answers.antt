use Rattle.exact.proofs.json_number.fraction.Goals as goal

pub returns : goal.returns
returns c =
    let i = c.ignore_then.ensures in
    record { point = rw i.first c.just.ensures; radix = rw i.second c.digits.ensures }
