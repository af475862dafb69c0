use Rattle.std.proofs.Common.{◌≡◌, Err, rules}
use Rattle.chumsky_input.specs.declared.stop.Fault.TheVariants as fault
use Rattle.chumsky_input.specs.declared.stop.Stop.TheVariants.{Memory}
use Rattle.chumsky_parser.proofs.ChainedLemmas.{failed, chained, emit_err, emit_ok}
use Rattle.exact.proofs.OwnedLemmas.{ran-own, ran-lacks_own}
use Rattle.exact.proofs.one_or_more.OneOrMoreParserRefStrVecEmptyText.go_emit.Goals as goal

pub returns-in_err-parts-clause-ran : goal.returns-in_err-parts-clause-ran
returns-in_err-parts-clause-ran g c =
    let q = c.first_and_rest.ensures in
    let ran = rw (q.first, q.separator, q.item, q.at_least, q.at_most) at c.go_emit.ensures.ran in
    failed ran (emit_err c.in_err-parts.was) (emit_err (search rules))

pub returns-in_err-list-clause-ran : goal.returns-in_err-list-clause-ran
returns-in_err-list-clause-ran g c =
    let q = c.first_and_rest.ensures in
    let ran = rw (q.first, q.separator, q.item, q.at_least, q.at_most) at c.go_emit.ensures.ran in
    let e : c.from_residual-in_err-list.result ≡ Err (fault.Stop Memory) = search rules in
    rw (emit_err e) (chained ran (emit_ok c.in_ok-parts.was) ran-lacks_own)

pub returns-clause-ran : goal.returns-clause-ran
returns-clause-ran g c =
    let q = c.first_and_rest.ensures in
    let ran = rw (q.first, q.separator, q.item, q.at_least, q.at_most) at c.go_emit.ensures.ran in
    chained ran (emit_ok c.in_ok-parts.was) (ran-own c.in_ok-list.ensures)
