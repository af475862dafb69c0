use Rattle.formulas.proofs.nested.+any_formula.Goals as goal

pub returns : goal.returns
returns t c =
    let f = c.formula_of-formula.ensures in
    let fixed = rw (f.holds, f.held, f.fails, f.failed, f.opening, f.closing, f.opposite, f.power, f.both, f.both_stand, f.one, f.one_stands) at c.run_part.ensures.ran in
    record { ran = rw (f.inner, c.recursive_as.ensures.depth) at fixed; as_wanted = c.run_part.ensures.as_wanted; lent = c.run_part.ensures.lent }
