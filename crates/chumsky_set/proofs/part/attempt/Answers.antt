use Rattle.std.proofs.Common.{rules, Err, ap, ◌∙◌}
use Rattle.chumsky_parser.proofs.ChainedLemmas.{ran-given}
use Rattle.chumsky_parser.proofs.ChoiceLemmas.{stood, gone_on, unmarked, unrestored}
use Rattle.chumsky_set.proofs.PartLemmas.{shown_ok, shown_err}
use Rattle.chumsky_set.proofs.part.attempt.Goals as goal

pub returns-in_err-before-clause-ran : goal.returns-in_err-before-clause-ran
returns-in_err-before-clause-ran g c = unmarked (shown_err _ (search rules)) c.in_err-before.ensures

pub returns-in-Ok-clause-ran : goal.returns-in-Ok-clause-ran
returns-in-Ok-clause-ran g c = stood c.moving.ensures.ran (shown_ok _ c.in-Ok.is) (λ q. cc)

pub returns-in-Err-Stop-clause-ran : goal.returns-in-Err-Stop-clause-ran
returns-in-Err-Stop-clause-ran g c =
    stood c.moving.ensures.ran (shown_err _ (c.in-Err-Stop.is ∙ ap Err c.in-Err-Stop.field-0-is)) (λ q. cc)

pub returns-in_err-rewind-in-Err-Fail-clause-ran : goal.returns-in_err-rewind-in-Err-Fail-clause-ran
returns-in_err-rewind-in-Err-Fail-clause-ran g c =
    unrestored c.moving.ensures.ran (shown_err _ (c.in-Err-Fail.is ∙ ap Err c.in-Err-Fail.field-0-is))
    c.in_err-rewind-in-Err-Fail.ensures.back (shown_err _ (search rules))

pub returns-clause-ran : goal.returns-clause-ran
returns-clause-ran g c =
    gone_on c.moving.ensures.ran (shown_err _ (c.in-Err-Fail.is ∙ ap Err c.in-Err-Fail.field-0-is))
    c.in_ok-before.ensures c.in_ok-rewind-in-Err-Fail.ensures.back ran-given
