use Rattle.chumsky_debug.proofs.ebnf.write_rule.Goals as goal

pub returns : goal.returns
returns g c = rw c.body_of-body.ensures at c.write_body.ensures
