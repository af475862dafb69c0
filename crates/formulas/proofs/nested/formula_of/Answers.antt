use Rattle.formulas.proofs.nested.formula_of.Goals as goal

pub returns : goal.returns
returns g c =
    let p = c.pratt.ensures in
    let t = c.or-truth.ensures in
    let o = c.or.ensures in
    let d = c.delimited_by.ensures in
    record {
      holds = rw (p.atom, o.first, t.first, c.to.ensures.parser) c.just.ensures;
      held = rw (p.atom, o.first, t.first) c.to.ensures.value;
      fails = rw (p.atom, o.first, t.second, c.to-2.ensures.parser) c.just-2.ensures;
      failed = rw (p.atom, o.first, t.second) c.to-2.ensures.value;
      inner = rw (p.atom, o.second) d.parser;
      opening = rw (p.atom, o.second, d.opening) c.just-3.ensures;
      closing = rw (p.atom, o.second, d.closing) c.just-4.ensures;
      opposite = rw (p.operators, c.prefix_by.ensures.parser) c.just-5.ensures;
      power = rw p.operators c.prefix_by.ensures.power;
      both = rw (p.operators, c.infix_by.ensures.parser) c.just-6.ensures;
      both_stand = rw (p.operators, c.infix_by.ensures.associativity) c.left.ensures;
      one = rw (p.operators, c.infix_by-2.ensures.parser) c.just-7.ensures;
      one_stands = rw (p.operators, c.infix_by-2.ensures.associativity) c.left-2.ensures;
    }
