use Rattle.std.proofs.Common.{rules, ◌+◌, ◌*◌, ◌≤◌, length, ◌∙◌}
use Rattle.chumsky_recursive.proofs.Waiting.{answers}
use Rattle.guide.proofs.stepping.run_watched.Goals as goal

-- where no node waits any more, the answer is the node's
pub returns-in-Err-clause-ran : goal.returns-in-Err-clause-ran
returns-in-Err-clause-ran g c = rw c.in-Err.ensures.ends.2 (answers _ _ _ _ _ _ _ c.in-Err.ensures.ends.1 c.in-Err.ensures.ends.0 c.steps.invariant.left).0

pub steps-preserved : goal.steps-preserved
steps-preserved g c =
    let after = c.in-Ok.ensures.room _ c.steps.invariant.room in
    let few : length c.step.new.stack.frames ≤ 1 + c.args.limit * length c.args.rules.now.nodes = after.few in
    record {
      left = c.in-Ok.ensures.left _ c.steps.invariant.left;
      known = rw c.step.ensures.tokens c.step.ensures.known;
      there = c.in-Ok.ensures.there;
      flat = c.step.ensures.flat;
      room = after;
      few = search (rules, few, c.steps.invariant.few);
      lent = c.step.ensures.lent ∙ c.steps.invariant.lent;
    }
