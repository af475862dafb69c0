use Rattle.std.proofs.Common.{refl}
use Rattle.chumsky_pratt.specs.PrecedenceLanguageLaws.{precedence-said}
use Rattle.formulas.specs.PrimedLaws.{primed-exactly}
use Rattle.formulas.proofs.primed.parse_primed_formula.Goals as goal

pub returns : goal.returns
returns c =
    let p = c.pratt-formula.result in
    let e = c.pratt-formula.ensures in
    let t = c.or-truth.ensures in
    let n = c.postfix_by.ensures in
    let a = c.infix_by.ensures in
    primed-exactly (record {
      atoms = record { t = p.atom.first.parser.seq; f = p.atom.second.parser.seq; holds = p.atom.first.value; fails = p.atom.second.value };
      prime = p.operators.operator.parser.seq;
      both = p.operators.others.operator.parser.seq;
      power = p.operators.operator.power;
      both_stand = p.operators.others.operator.associativity;
    })
    (rw (
      e.atom,
      t.first,
      t.second,
      c.to.ensures.parser,
      c.to.ensures.value,
      c.just.ensures,
      c.to-2.ensures.parser,
      c.to-2.ensures.value,
      c.just-2.ensures,
      e.operators,
      n.power,
      n.parser,
      c.just-3.ensures,
      a.associativity,
      c.left.ensures,
      a.parser,
      c.just-4.ensures,
    ) refl)
    (c.parse.ensures.3.reads (precedence-said _ _ _ _ refl refl refl))
