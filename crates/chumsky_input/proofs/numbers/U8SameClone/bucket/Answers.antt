use Rattle.chumsky_input.specs.Same.{own_bucket}
use Rattle.chumsky_input.proofs.numbers.U8SameClone.bucket.Goals as goal

pub returns : goal.returns
returns c = own_bucket c.args.self.now
