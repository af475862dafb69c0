use Rattle.std.proofs.Common.{refl, rules}
use Rattle.chumsky_parser.proofs.ChainedLemmas.{emit_err, emit_ok}
use Rattle.chumsky_exact.proofs.NestedLemmas.{ran-counted, ran-failed}
use Rattle.chumsky_exact.proofs.nested.CountedParser.go_emit.Goals as goal

pub returns-in_err-input-clause-ran : goal.returns-in_err-input-clause-ran
returns-in_err-input-clause-ran g c = ran-failed _ c.go_emit.ensures.ran (emit_err c.in_err-input.was) (emit_err (search rules))

pub returns-clause-ran : goal.returns-clause-ran
returns-clause-ran g c = ran-counted _ c.go_emit.ensures.ran (emit_ok c.in_ok-input.was) refl c.begin-begun.ensures.count
