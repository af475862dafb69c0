use Rattle.std.proofs.Common.{rules, ◌≡◌, ◌∙◌, ap, refl, Err}
use Rattle.chumsky_input.specs.declared.stop.Fault.TheVariants as fault
use Rattle.chumsky_input.specs.declared.stop.Stop.TheVariants.{Memory}
use Rattle.chumsky_parser.proofs.ChainedLemmas.{emit_ok, emit_err}
use Rattle.chumsky_combinator.proofs.AtMostOneLemmas.{item_err, one-tried, one-unmarked, one-given, one-stopped, one-unrestored, one-absent}
use Rattle.chumsky_combinator.proofs.or_not_items.OrNotIterParser.next_emit.Goals as goal

pub returns-then-state-clause-ran : goal.returns-then-state-clause-ran
returns-then-state-clause-ran g c = one-tried g.E.State.Inspector.mark g.E.State.Inspector.back g.E.State.Inspector.takes_no_memory c.if-state.true

pub returns-in_err-before-clause-ran : goal.returns-in_err-before-clause-ran
returns-in_err-before-clause-ran g c =
    let e : c.from_residual.result ≡ Err (fault.Stop Memory) = search rules in
    one-unmarked g.E.State.Inspector.mark g.E.State.Inspector.back g.E.State.Inspector.takes_no_memory c.if-state.false c.in_err-before.ensures (item_err _ e)

pub returns-in-Ok-clause-ran : goal.returns-in-Ok-clause-ran
returns-in-Ok-clause-ran g c = one-given g.E.State.Inspector.mark g.E.State.Inspector.back g.E.State.Inspector.takes_no_memory c.if-state.false c.go_emit.ensures.ran (emit_ok c.in-Ok.is)

pub returns-in-Err-Stop-clause-ran : goal.returns-in-Err-Stop-clause-ran
returns-in-Err-Stop-clause-ran g c =
    one-stopped g.E.State.Inspector.mark g.E.State.Inspector.back g.E.State.Inspector.takes_no_memory c.if-state.false
    c.go_emit.ensures.ran (emit_err (c.in-Err-Stop.is ∙ ap Err c.in-Err-Stop.field-0-is)) (λ z. cc) refl

pub returns-in_err-rewind-in-Err-Fail-clause-ran : goal.returns-in_err-rewind-in-Err-Fail-clause-ran
returns-in_err-rewind-in-Err-Fail-clause-ran g c =
    let e : c.from_residual-in_err-rewind-in-Err-Fail.result ≡ Err (fault.Stop Memory) = search rules in
    let h = c.in_err-rewind-in-Err-Fail.ensures.back in
    one-unrestored g.E.State.Inspector.mark g.E.State.Inspector.back g.E.State.Inspector.takes_no_memory
    c.if-state.false c.go_emit.ensures.ran (emit_err (c.in-Err-Fail.is ∙ ap Err c.in-Err-Fail.field-0-is)) h.0 h.1
    (item_err _ e)

pub returns-clause-ran : goal.returns-clause-ran
returns-clause-ran g c =
    one-absent g.E.State.Inspector.mark g.E.State.Inspector.back g.E.State.Inspector.takes_no_memory c.if-state.false
    c.go_emit.ensures.ran (emit_err (c.in-Err-Fail.is ∙ ap Err c.in-Err-Fail.field-0-is)) c.in_ok-before.ensures
    c.in_ok-rewind-in-Err-Fail.ensures.back
