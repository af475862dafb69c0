use Rattle.std.proofs.Common.{rules}
use Rattle.guide.proofs.parts.switch_is_steady.Goals as goal

pub returns : goal.returns
returns c = c.part_is_steady.ensures.steady (search rules) (λ b o m. m) (λ v w h. h)
