use Rattle.std.proofs.Common.{rules, ◌≡◌, Err, false}
use Rattle.chumsky_parser.proofs.ChainedLemmas.{check_err}
use Rattle.chumsky_judge.proofs.filter.FilterParser.go_check.Goals as goal

pub returns-in_err-value-clause-ran : goal.returns-in_err-value-clause-ran
returns-in_err-value-clause-ran g c =
    let e : c.from_residual.result ≡ Err c.in_err-value.field-0.0 = search rules in
    rw (check_err e) (rw c.in_err-value.was at (c.sift.ensures.ran false))

pub returns-clause-ran : goal.returns-clause-ran
returns-clause-ran g c = rw c.in_ok-value.was at (c.sift.ensures.ran false)
