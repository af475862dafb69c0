use Rattle.exact.proofs.json_number.exponent.Goals as goal

pub returns : goal.returns
returns c =
    let i = c.ignore_then.ensures in
    let j = c.ignore_then-2.ensures in
    record {
      letter = rw (j.first, i.first) c.one_of-2.ensures;
      sign = rw (j.first, i.second, c.or_not-sign.ensures.parser) c.one_of.ensures;
      radix = rw j.second c.digits.ensures;
    }
