use Rattle.std.proofs.Common.{rules, ◌≡◌, ◌∙◌, sym, subst, drop, ◌+◌, Err, IfErr, w64, to_z, of_z}
use Rattle.std.proofs.lemmas.Result.{OkIff-at_ok}
use Rattle.arithmetic.specs.Steps.{StopsAt}
use Rattle.arithmetic.proofs.StepsLemmas.{Left, step_taken, other_skipped, stops_here}
use Rattle.arithmetic.proofs.total.Goals.{in-Step+in_ok-total, in_default}
use Rattle.arithmetic.proofs.total.Goals as goal

pub returns-in_err-total-clause-at_its_sign : goal.returns-in_err-total-clause-at_its_sign
returns-in_err-total-clause-at_its_sign c =
    let e : c.from_residual.result ≡ Err c.in_err-total.field-0.0 = search rules in
    let whole : to_z w64 (of_z w64 c.args.first) ≡ c.args.first = search rules in
    let here = stops_here (to_z w64 c.loop-value.total-bits) c.args.steps.now c.loop-value.value-index c.value-item.result c.in-Step.step c.in_err-total.field-0.0.span c.loop-value-test.true c.value-item.is c.in-Step.is c.in_err-total.ensures.number c.in_err-total.ensures.at_its_sign in
    subst (λ r. IfErr r (λ wrong. StopsAt c.args.first c.args.steps.now wrong.span)) (sym e)
    (subst (λ n. StopsAt n c.args.steps.now c.in_err-total.field-0.0.span) whole (c.loop-value.invariant.stops c.in_err-total.field-0.0.span here))

pub loop-value-preserved : goal.loop-value-preserved
loop-value-preserved c =
    let n = to_z w64 c.loop-value.total-bits in
    let m = to_z w64 c.match-value.total-bits in
    let steps = c.args.steps.now in
    let i = c.loop-value.value-index in
    let l : Left n (drop i steps) m (drop (i + 1) steps) = elim c.match-value.branch [
      | in-Step+in_ok-total w ↦
          let k = OkIff-at_ok _ _ _ _ w.applied.ensures.number w.in_ok-total.was in
          step_taken n m steps i c.value-item.result w.in-Step.step c.loop-value-test.true c.value-item.is w.in-Step.is k.0 (search (rules, k.1))
      | in_default w ↦ other_skipped n m steps i c.value-item.result c.loop-value-test.true c.value-item.is w.in_default.not-Step w.total-is
    ] in
    let inv = c.loop-value.invariant in
    record {
      made = l.made ∙ inv.made;
      can = λ h. inv.can (l.can h);
      needs = λ h. l.needs (inv.needs h);
      stops = λ span h. inv.stops span (l.stops span h);
    }
