use Rattle.std.proofs.Common.{◌≡◌, suc, ◌-◌, arith}
use Rattle.chumsky_parser.proofs.ChainedLemmas.{last_check}
use Rattle.chumsky_pratt.proofs.row.OperatorAndOperators.read_check.Goals as goal

pub returns-then-index-eq0-clause-ran : goal.returns-then-index-eq0-clause-ran
returns-then-index-eq0-clause-ran g c = rw c.if-index-eq0.true (last_check _ c.read_check.ensures.ran (λ b o k. k))

pub returns-else-index-eq0-clause-ran : goal.returns-else-index-eq0-clause-ran
returns-else-index-eq0-clause-ran g c =
    let e : c.args.index ≡ suc (c.args.index - 1) = omega (arith, c.if-index-eq0.false) in
    rw e (last_check _ c.read_check-else-index-eq0.ensures.ran (λ b o k. k))
