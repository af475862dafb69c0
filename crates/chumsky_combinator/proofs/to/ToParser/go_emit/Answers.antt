use Rattle.std.proofs.Common.{rules, ◌≡◌, Err}
use Rattle.chumsky_input.specs.declared.stop.Fault.TheVariants as fault
use Rattle.chumsky_input.specs.declared.stop.Stop.TheVariants.{Memory}
use Rattle.chumsky_parser.proofs.ChainedLemmas.{failed, chained, ran-asked, emit_err, check_err, check_ok}
use Rattle.chumsky_parser.proofs.IgnoringLemmas.{ran-copied, ran-lacks_copy}
use Rattle.chumsky_combinator.proofs.to.ToParser.go_emit.Goals as goal

pub returns-in_err-go_check-clause-ran : goal.returns-in_err-go_check-clause-ran
returns-in_err-go_check-clause-ran g c = failed (ran-asked c.go_check.ensures.ran) (check_err c.in_err-go_check.was) (emit_err (search rules))

pub returns-in_err-value-clause-ran : goal.returns-in_err-value-clause-ran
returns-in_err-value-clause-ran g c =
    let e : c.from_residual-in_err-value.result ≡ Err (fault.Stop Memory) = search rules in
    rw (emit_err e) (chained (ran-asked c.go_check.ensures.ran) (check_ok c.in_ok-go_check.was) (ran-lacks_copy c.in_err-value.ensures.cases))

pub returns-clause-ran : goal.returns-clause-ran
returns-clause-ran g c = chained (ran-asked c.go_check.ensures.ran) (check_ok c.in_ok-go_check.was) (ran-copied c.in_ok-value.ensures.cases)
