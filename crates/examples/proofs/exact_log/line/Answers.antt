use Rattle.examples.proofs.exact_log.line.Goals as goal

pub returns : goal.returns
returns c =
    let m = c.map_by.ensures.parser in
    let t = c.then-4.ensures in
    let l = c.then-3.ensures in
    let e = c.then_ignore-time.ensures in
    let d = c.then-2.ensures in
    let b = c.then_ignore-minute.ensures in
    let a = c.then.ensures in
    let h = c.then_ignore-hour.ensures in
    let x = c.field.ensures in
    let y = c.field-2.ensures in
    let z = c.field-3.ensures in
    record {
      hour = rw (m, t.first, l.first, e.first, d.first, b.first, a.first, h.first) x.radix;
      hour_from = rw (m, t.first, l.first, e.first, d.first, b.first, a.first, h.first) x.least;
      hour_to = rw (m, t.first, l.first, e.first, d.first, b.first, a.first, h.first) x.most;
      colon = rw (m, t.first, l.first, e.first, d.first, b.first, a.first, h.second) c.just.ensures;
      minute = rw (m, t.first, l.first, e.first, d.first, b.first, a.second) y.radix;
      minute_from = rw (m, t.first, l.first, e.first, d.first, b.first, a.second) y.least;
      minute_to = rw (m, t.first, l.first, e.first, d.first, b.first, a.second) y.most;
      other_colon = rw (m, t.first, l.first, e.first, d.first, b.second) c.just-2.ensures;
      second = rw (m, t.first, l.first, e.first, d.second) z.radix;
      second_from = rw (m, t.first, l.first, e.first, d.second) z.least;
      second_to = rw (m, t.first, l.first, e.first, d.second) z.most;
      space = rw (m, t.first, l.first, e.second) c.just-3.ensures;
      other_space = rw (m, t.second) c.message.ensures;
    }
