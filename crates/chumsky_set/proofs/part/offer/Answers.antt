use Rattle.std.proofs.Common.{rules}
use Rattle.chumsky_set.proofs.PartLemmas.{shown_ok, shown_err, taken_err, taken_before, turned, turn_failed, lessened}
use Rattle.chumsky_set.proofs.part.offer.Goals as goal

pub returns-then-is_some-clause-ran : goal.returns-then-is_some-clause-ran
returns-then-is_some-clause-ran g c = taken_before _ _ _ _ g.D.Runs.shown c.args.slot.now (search rules)

pub returns-in_err-taken-clause-ran : goal.returns-in_err-taken-clause-ran
returns-in_err-taken-clause-ran g c =
    turn_failed g.D.Runs.shown c.args.slot.now (search rules) c.attempt.ensures.ran (shown_err _ c.in_err-taken.was) (taken_err _ (search rules))

pub returns-clause-ran : goal.returns-clause-ran
returns-clause-ran g c = turned g.D.Runs.shown c.args.slot.now (search rules) (rw (shown_ok _ c.in_ok-taken.was) at c.attempt.ensures.ran)

pub returns-clause-lessens : goal.returns-clause-lessens
returns-clause-lessens g c = rw c.is_some-more.ensures (lessened g.D.Runs.shown c.args.slot.now c.in_ok-taken.taken (search rules))
