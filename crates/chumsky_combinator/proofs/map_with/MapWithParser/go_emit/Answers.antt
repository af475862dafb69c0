use Rattle.std.proofs.Common.{rules}
use Rattle.chumsky_parser.proofs.ChainedLemmas.{emit_err, emit_ok}
use Rattle.chumsky_combinator.proofs.MappedWithLemmas.{mapped_with-failed, mapped_with-given}
use Rattle.chumsky_combinator.proofs.map_with.MapWithParser.go_emit.Goals as goal

pub returns-in_err-value-clause-ran : goal.returns-in_err-value-clause-ran
returns-in_err-value-clause-ran g c = mapped_with-failed c.go_emit.ensures.ran (emit_err c.in_err-value.was) (emit_err (search rules))

pub returns-clause-ran : goal.returns-clause-ran
returns-clause-ran g c = mapped_with-given c.go_emit.ensures.ran (emit_ok c.in_ok-value.was) c.apply_with.ensures.moves (rw c.cursor-before.ensures at c.apply_with.ensures.gives)
