use Rattle.std.proofs.Common.{rules, false}
use Rattle.chumsky_primitive.proofs.SelectLemmas.{asked_ok, asked_err}
use Rattle.chumsky_primitive.proofs.select_ref.SelectRefParser.go_check.Goals as goal

pub returns-in_err-output-clause-ran : goal.returns-in_err-output-clause-ran
returns-in_err-output-clause-ran g c = rw (asked_err {y = c.from_residual.result} c.in_err-output.was (search rules)) at (c.pick_ref.ensures.ran false)

pub returns-clause-ran : goal.returns-clause-ran
returns-clause-ran g c = rw (asked_ok c.in_ok-output.was) at (c.pick_ref.ensures.ran false)
