use Rattle.std.proofs.Common.{refl}
use Rattle.std.proofs.lemmas.Option.{slice_get_read}
use Rattle.chumsky_pratt.proofs.list.fixity_at.Goals as goal

pub returns : goal.returns
returns g c = rw (slice_get_read c.args.operators.now _ c.args.index c.index-operators-index.result refl c.requires c.index-operators-index.is) c.fixity.ensures
