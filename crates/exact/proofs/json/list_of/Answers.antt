use Rattle.std.proofs.Common.{refl}
use Rattle.exact.proofs.json.list_of.Goals as goal

pub returns : goal.returns
returns g c =
    let d = c.delimited_by.ensures in
    let k = c.collect-items.ensures.parser in
    record {
      item = rw (d.parser, k) refl;
      comma = rw (d.parser, k) c.mark.ensures;
      at_least = rw (d.parser, k) refl;
      at_most = rw (d.parser, k) refl;
      leading = rw (d.parser, k) refl;
      trailing = rw (d.parser, k) refl;
      opening = rw d.opening c.just.ensures;
      closing = rw d.closing c.mark-2.ensures;
    }
