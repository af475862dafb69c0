use Rattle.exact.proofs.json_number.number_parser.Goals as goal

pub returns : goal.returns
returns c =
    let s = c.to_slice.ensures.parser in
    let n = c.then_ignore-number.ensures in
    let w = c.ignore_then-whole.ensures in
    let m = c.or_not-3.ensures.parser in
    let o = c.or-more.ensures in
    let p = c.then_ignore-pointed.ensures in
    let q = c.or_not-2.ensures.parser in
    record {
      minus = rw (s, n.first, w.first, c.or_not.ensures.parser) c.just.ensures;
      radix = rw (s, n.first, w.second) c.int.ensures;
      point = rw (s, n.second, m, o.first, p.first) c.fraction.ensures.point;
      fraction = rw (s, n.second, m, o.first, p.first) c.fraction.ensures.radix;
      letter = rw (s, n.second, m, o.first, p.second, q) c.exponent.ensures.letter;
      sign = rw (s, n.second, m, o.first, p.second, q) c.exponent.ensures.sign;
      exponent = rw (s, n.second, m, o.first, p.second, q) c.exponent.ensures.radix;
      letter_alone = rw (s, n.second, m, o.second) c.exponent-2.ensures.letter;
      sign_alone = rw (s, n.second, m, o.second) c.exponent-2.ensures.sign;
      exponent_alone = rw (s, n.second, m, o.second) c.exponent-2.ensures.radix;
    }
