use Rattle.std.proofs.Common.{refl}
use Rattle.std.proofs.lemmas.Option.{slice_get_read}
use Rattle.chumsky_parser.proofs.ChainedLemmas.{last_check}
use Rattle.chumsky_pratt.proofs.list.check_at.Goals as goal

pub returns-clause-ran : goal.returns-clause-ran
returns-clause-ran g c =
    rw (slice_get_read c.args.operators.now _ c.args.index c.index-operators-index.result refl c.requires.there c.index-operators-index.is) (last_check _ c.read_check.ensures.ran (λ b o k. k))
