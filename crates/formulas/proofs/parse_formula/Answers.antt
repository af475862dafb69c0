use Rattle.std.proofs.Common.{refl}
use Rattle.chumsky_pratt.specs.PrecedenceLanguageLaws.{precedence-said}
use Rattle.formulas.specs.FormulaLaws.{formula-exactly}
use Rattle.formulas.proofs.parse_formula.Goals as goal

pub returns : goal.returns
returns c =
    let p = c.pratt-formula.result in
    let e = c.pratt-formula.ensures in
    let t = c.or-truth.ensures in
    let n = c.prefix_by.ensures in
    let a = c.infix_by.ensures in
    let o = c.infix_by-2.ensures in
    let r = p.operators.others in
    formula-exactly (record {
      atoms = record { t = p.atom.first.parser.seq; f = p.atom.second.parser.seq; holds = p.atom.first.value; fails = p.atom.second.value };
      opposite = p.operators.operator.parser.seq;
      both = r.operator.parser.seq;
      one = r.others.operator.parser.seq;
      power = p.operators.operator.power;
      both_stand = r.operator.associativity;
      one_stands = r.others.operator.associativity;
    })
    (rw (
      e.atom,
      t.first,
      t.second,
      c.to.ensures.parser,
      c.to.ensures.value,
      c.just.ensures,
      c.to-2.ensures.parser,
      c.to-2.ensures.value,
      c.just-2.ensures,
      e.operators,
      n.power,
      n.parser,
      c.just-3.ensures,
      a.associativity,
      c.left.ensures,
      a.parser,
      c.just-4.ensures,
      o.associativity,
      c.left-2.ensures,
      o.parser,
      c.just-5.ensures,
    ) refl)
    (c.parse.ensures.3.reads (precedence-said _ _ _ _ refl refl refl))
