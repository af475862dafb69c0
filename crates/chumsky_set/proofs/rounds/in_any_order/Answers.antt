use Rattle.std.proofs.Common.{rules, ◌∙◌}
use Rattle.chumsky_set.proofs.PartLemmas.{taken_ok, taken_err, shown_err}
use Rattle.chumsky_set.proofs.RoundsLemmas.{rounds_go_on, rounds_end, round_failed}
use Rattle.chumsky_set.proofs.rounds.in_any_order.Goals as goal

pub returns-in_err-more-clause-ran : goal.returns-in_err-more-clause-ran
returns-in_err-more-clause-ran g c = round_failed _ c.rounds.invariant.resumes c.round.ensures.ran (taken_err _ c.in_err-more.was) (shown_err _ (search rules))

pub rounds-preserved : goal.rounds-preserved
rounds-preserved g c =
    record {
      resumes = rounds_go_on _ c.rounds.invariant.resumes c.round.ensures.ran (taken_ok _ c.in_ok-more.was) (rw c.if-not-more.false at c.in_ok-more.ensures.lessens);
      fits = c.round.ensures.fits;
      lent = c.round.ensures.lent ∙ c.rounds.invariant.lent;
    }

pub returns-clause-ran : goal.returns-clause-ran
returns-clause-ran g c =
    rounds_end _ c.rounds.invariant.resumes c.round.ensures.ran (taken_ok _ c.in_ok-more.was) (rw c.if-not-more.true at c.in_ok-more.ensures.lessens) c.last.ensures.ran
