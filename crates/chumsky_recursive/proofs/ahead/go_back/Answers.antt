use Rattle.std.proofs.Common.{rules}
use Rattle.chumsky_recursive.proofs.ahead.go_back.Goals as goal

pub returns-in-Err-clause-returns : goal.returns-in-Err-clause-returns
returns-in-Err-clause-returns g c =
    let k = rw c.move_to.ensures at c.in-Err.ensures.keeps in
    search (rules, k)
