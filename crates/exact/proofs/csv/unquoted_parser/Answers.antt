use Rattle.exact.proofs.csv.unquoted_parser.Goals as goal

pub returns : goal.returns
returns c =
    let t = c.then_ignore.ensures in
    let k = c.collect.ensures.parser in
    let r = c.repeated-text_data.ensures in
    record {
      text_data = rw (t.first, k, r.parser) c.none_of.ensures;
      at_least = rw (t.first, k) r.at_least;
      at_most = rw (t.first, k) r.at_most;
      end = rw (t.second, c.not.ensures.parser) c.none_of-2.ensures;
    }
