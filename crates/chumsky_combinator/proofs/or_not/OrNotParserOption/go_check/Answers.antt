use Rattle.std.proofs.Common.{rules, Err, ap, ◌∙◌, refl}
use Rattle.chumsky_parser.proofs.ChainedLemmas.{failed, chained, ran-given, check_err, check_ok}
use Rattle.chumsky_parser.proofs.ChoiceLemmas.{stood, gone_on, unmarked, unrestored}
use Rattle.chumsky_parser.proofs.IgnoringLemmas.{ran-gives}
use Rattle.chumsky_combinator.proofs.or_not.OrNotParserOption.go_check.Goals as goal

pub returns-in_err-before-clause-ran : goal.returns-in_err-before-clause-ran
returns-in_err-before-clause-ran g c = unmarked (check_err (search rules)) c.in_err-before.ensures

pub returns-in-Ok-clause-ran : goal.returns-in-Ok-clause-ran
returns-in-Ok-clause-ran g c = stood (chained c.go_check.ensures.ran (check_ok c.in-Ok.is) ran-given) refl (λ q. cc)

pub returns-in-Err-Stop-clause-ran : goal.returns-in-Err-Stop-clause-ran
returns-in-Err-Stop-clause-ran g c =
    stood (failed c.go_check.ensures.ran (check_err (c.in-Err-Stop.is ∙ ap Err c.in-Err-Stop.field-0-is)) refl) refl (λ q. cc)

pub returns-in_err-rewind-in-Err-Fail-clause-ran : goal.returns-in_err-rewind-in-Err-Fail-clause-ran
returns-in_err-rewind-in-Err-Fail-clause-ran g c =
    unrestored (failed c.go_check.ensures.ran (check_err (c.in-Err-Fail.is ∙ ap Err c.in-Err-Fail.field-0-is)) refl) refl
    c.in_err-rewind-in-Err-Fail.ensures.back (check_err (search rules))

pub returns-clause-ran : goal.returns-clause-ran
returns-clause-ran g c =
    gone_on (failed c.go_check.ensures.ran (check_err (c.in-Err-Fail.is ∙ ap Err c.in-Err-Fail.field-0-is)) refl) refl
    c.in_ok-before.ensures c.in_ok-rewind-in-Err-Fail.ensures.back ran-gives
