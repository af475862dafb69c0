use Rattle.std.proofs.Common.{◌≡◌, ◌∙◌, refl}
use Rattle.chumsky_input.specs.Held.{held}
use Rattle.chumsky_pratt.proofs.ClimbedLemmas.{climbs_tokens, climbed, answered}
use Rattle.chumsky_pratt.proofs.machine.climb.Goals as goal

pub steps-init : goal.steps-init
steps-init g c =
    record {
      climbs = rw c.new-stack.ensures.items refl;
      may = (record { least = 0; held = held g.I.Input g.E.Error.Error g.E.State.Inspector c.args.inp.now }, rw c.new-stack.ensures.items refl);
      lent = refl;
    }

pub steps-preserved : goal.steps-preserved
steps-preserved g c =
    record {
      climbs = c.in-Ok.ensures.goes _ c.steps.invariant.climbs;
      may = (_, c.in-Ok.ensures.goes _ c.steps.invariant.climbs);
      lent = c.step.ensures.lent ∙ c.steps.invariant.lent;
    }

pub steps-smaller : goal.steps-smaller
steps-smaller g c =
    let e : g.I.Input.cursor_tokens c.steps.inp.cursor ≡ g.I.Input.cursor_tokens c.args.inp.now.cursor = climbs_tokens _ _ _ _ _ _ _ _ _ _ _ c.steps.invariant.climbs in
    rw e at c.in-Ok.ensures.lighter

pub returns-in-Err-clause-ran : goal.returns-in-Err-clause-ran
returns-in-Err-clause-ran g c =
    let e = c.in-Err.ensures.ends in
    rw e.2 (climbed _ _ _ _ _ _ _ _ 0 _ _ _ e.1 (rw (answered _ _ e.0) at c.steps.invariant.climbs))
