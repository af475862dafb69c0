use Rattle.exact.proofs.csv.quoted_parser.Goals as goal

pub returns : goal.returns
returns c =
    let d = c.delimited_by.ensures in
    let k = c.collect.ensures.parser in
    let r = c.repeated-pieces.ensures in
    let o = c.or.ensures in
    let q = c.ignore_then-quote.ensures in
    let e = c.then_ignore-closing.ensures in
    record {
      other = rw (d.parser, k, r.parser, o.first) c.none_of.ensures;
      first_quote = rw (d.parser, k, r.parser, o.second, q.first) c.just.ensures;
      second_quote = rw (d.parser, k, r.parser, o.second, q.second) c.just-2.ensures;
      at_least = rw (d.parser, k) r.at_least;
      at_most = rw (d.parser, k) r.at_most;
      opening = rw d.opening c.just-4.ensures;
      closing = rw (d.closing, e.first) c.just-3.ensures;
      end = rw (d.closing, e.second, c.not.ensures.parser) c.none_of-2.ensures;
    }
