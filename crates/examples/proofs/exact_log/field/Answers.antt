use Rattle.std.proofs.Common.{ap, ◌∙◌}
use Rattle.examples.proofs.exact_log.field.Goals as goal

pub returns : goal.returns
returns c =
    let p = c.pick_by.ensures in
    record { radix = ap (λ q. q.kind.radix) p.parser ∙ c.digits.ensures; least = ap (λ q. q.least) p.picker; most = ap (λ q. q.most) p.picker }
