use Rattle.std.proofs.Common.{rules}
use Rattle.chumsky_parser.proofs.ChainedLemmas.{failed, chained, ran-given, emit_err, emit_ok}
use Rattle.chumsky_group.proofs.NextLemmas.{ran-after}
use Rattle.chumsky_group.proofs.tuples.GroupTuple6ParserTuple6.go_emit.Goals as goal

pub returns-in_err-a-clause-ran : goal.returns-in_err-a-clause-ran
returns-in_err-a-clause-ran g c =
    failed
    (ran-after _ _
    (ran-after _ _
    (ran-after _ _
    (ran-after _ _ (ran-after _ _ c.go_emit-one.ensures.ran c.emit_after-two.ensures.ran) c.emit_after-three.ensures.ran)
    c.emit_after-four.ensures.ran)
    c.emit_after-five.ensures.ran)
    c.emit_after.ensures.ran)
    (emit_err c.in_err-a.was) (emit_err (search rules))

pub returns-clause-ran : goal.returns-clause-ran
returns-clause-ran g c =
    chained
    (ran-after _ _
    (ran-after _ _
    (ran-after _ _
    (ran-after _ _ (ran-after _ _ c.go_emit-one.ensures.ran c.emit_after-two.ensures.ran) c.emit_after-three.ensures.ran)
    c.emit_after-four.ensures.ran)
    c.emit_after-five.ensures.ran)
    c.emit_after.ensures.ran)
    (emit_ok c.in_ok-a.was) ran-given
