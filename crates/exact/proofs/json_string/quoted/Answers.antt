use Rattle.std.proofs.Common.{refl}
use Rattle.exact.proofs.json_string.quoted.Goals as goal

pub returns : goal.returns
returns g c =
    let d = c.delimited_by.ensures in
    let k = c.collect-string.ensures.parser in
    record {
      piece = rw (d.parser, k) refl;
      at_least = rw (d.parser, k) refl;
      at_most = rw (d.parser, k) refl;
      opening = rw d.opening c.just.ensures;
      closing = rw d.closing c.just-2.ensures;
    }
