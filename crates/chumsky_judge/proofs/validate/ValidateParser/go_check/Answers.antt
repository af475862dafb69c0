use Rattle.std.proofs.Common.{rules, ◌≡◌, Err, false}
use Rattle.chumsky_parser.proofs.ChainedLemmas.{check_err}
use Rattle.chumsky_judge.proofs.validate.ValidateParser.go_check.Goals as goal

pub returns-in_err-output-clause-ran : goal.returns-in_err-output-clause-ran
returns-in_err-output-clause-ran g c =
    let e : c.from_residual.result ≡ Err c.in_err-output.field-0.0 = search rules in
    rw (check_err e) (rw c.in_err-output.was at (c.run_validator.ensures.ran false))

pub returns-clause-ran : goal.returns-clause-ran
returns-clause-ran g c = rw c.in_ok-output.was at (c.run_validator.ensures.ran false)
