use Rattle.chumsky_input.proofs.MarkLemmas.{bucket-marks, all-marks}
use Rattle.chumsky_input.proofs.rich.token_mark.Goals as goal

pub returns-in-Some : goal.returns-in-Some
returns-in-Some g c = bucket-marks c.in-Some.ensures c.bucket_bit.ensures

pub returns-in-None : goal.returns-in-None
returns-in-None g c = all-marks c.args.token.now
