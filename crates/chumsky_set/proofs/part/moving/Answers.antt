use Rattle.std.proofs.Common.{rules}
use Rattle.chumsky_set.proofs.PartLemmas.{shown_ok, shown_err, moved, stayed, unmoved}
use Rattle.chumsky_set.proofs.part.moving.Goals as goal

pub returns-in_err-value-clause-ran : goal.returns-in_err-value-clause-ran
returns-in_err-value-clause-ran g c = unmoved c.go.ensures.ran (shown_err _ c.in_err-value.was) (shown_err _ (search rules))

pub returns-then-start-place-clause-ran : goal.returns-then-start-place-clause-ran
returns-then-start-place-clause-ran g c = moved c.go.ensures.ran (shown_ok _ c.in_ok-value.was) (search rules)

pub returns-else-start-place-clause-ran : goal.returns-else-start-place-clause-ran
returns-else-start-place-clause-ran g c = stayed c.go.ensures.ran (shown_ok _ c.in_ok-value.was) (search rules)
