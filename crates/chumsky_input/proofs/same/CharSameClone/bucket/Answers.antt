use Rattle.chumsky_input.specs.Same.{own_bucket}
use Rattle.chumsky_input.proofs.same.CharSameClone.bucket.Goals as goal

pub returns : goal.returns
returns c = own_bucket c.args.self.now
