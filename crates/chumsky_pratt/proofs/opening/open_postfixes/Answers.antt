use Rattle.std.proofs.Common.{sym, ◌∙◌, arith}
use Rattle.chumsky_pratt.proofs.opening.open_postfixes.Goals as goal

pub returns-clause-may : goal.returns-clause-may
returns-clause-may g c = rw c.turning.ensures at c.requires.may

pub returns-clause-since : goal.returns-clause-since
returns-clause-since g c = (let w = rw c.turning.ensures at c.requires.may.1 in w.1.tokens ∙ sym w.2.tokens)

pub returns-clause-order : goal.returns-clause-order
returns-clause-order g c = (let w = rw c.turning.ensures at c.requires.may.1 in omega (arith, w.1.place, w.2.order, w.2.at))
