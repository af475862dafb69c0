use Rattle.std.proofs.Common.{ap, ◌∙◌}
use Rattle.examples.proofs.exact_log.message.Goals as goal

pub returns : goal.returns
returns c = ap (λ q. q.seq) c.ignore_then.ensures.first ∙ c.just.ensures
