use Rattle.std.proofs.Common.{Some, None, ap, ◌∙◌}
use Rattle.chumsky_input.proofs.RichLemmas.{patterns-more}
use Rattle.chumsky_input.proofs.rich.few_patterns_of.Goals as goal
use Rattle.chumsky_input.proofs.rich.few_patterns_of.Goals.{in-Some-2+in_ok-push_pattern, in_default}

pub loop-item-preserved : goal.loop-item-preserved
loop-item-preserved g c =
    let more =
    patterns-more g.T.PartialEq.eq g.T.SameClone.same g.T.SameClone.seen g.met.T.SameClone.eq_same
    g.X.Item.Expectation.expectation _ c.match-branch-3.patterns.items c.loop-item.yielded c.in-Some.item in
    elim c.match-branch-3.branch [
      | in-Some-2+in_ok-push_pattern w
          ↦ (
            more (Some w.in-Some-2.pattern) c.loop-item.invariant.0 (rw w.in-Some-2.is at c.in_ok-pattern.ensures) (ap (λ v. v.items) w.patterns-is ∙ w.in_ok-push_pattern.ensures.items),
            rw (w.patterns-is, w.marks-is) w.in_ok-push_pattern.ensures.marked,
          )
      | in_default w ↦ (more None c.loop-item.invariant.0 (rw w.in_default.is at c.in_ok-pattern.ensures) (ap (λ v. v.items) w.patterns-is), rw (w.patterns-is, w.marks-is) c.loop-item.invariant.1)
    ]
