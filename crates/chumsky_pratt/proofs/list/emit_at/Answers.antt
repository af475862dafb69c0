use Rattle.std.proofs.Common.{rules, refl}
use Rattle.std.proofs.lemmas.Option.{slice_get_read}
use Rattle.chumsky_parser.proofs.ChainedLemmas.{ran-given, chained, failed, emit_ok, emit_err}
use Rattle.chumsky_pratt.proofs.list.emit_at.Goals as goal

pub returns-in_err-found-clause-ran : goal.returns-in_err-found-clause-ran
returns-in_err-found-clause-ran g c =
    rw (slice_get_read c.args.operators.now _ c.args.index c.index-operators-index.result refl c.requires.there c.index-operators-index.is)
    (failed c.read_emit.ensures.ran (emit_err c.in_err-found.was) (emit_err (search rules)))

pub returns-clause-ran : goal.returns-clause-ran
returns-clause-ran g c =
    rw (slice_get_read c.args.operators.now _ c.args.index c.index-operators-index.result refl c.requires.there c.index-operators-index.is)
    (chained c.read_emit.ensures.ran (emit_ok c.in_ok-found.was) ran-given)
