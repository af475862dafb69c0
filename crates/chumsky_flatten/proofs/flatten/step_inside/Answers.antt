use Rattle.std.proofs.Common.{rules, ◌≡◌, ◌∙◌, ap, refl, Err}
use Rattle.chumsky_input.specs.declared.stop.Fault.TheVariants as fault
use Rattle.chumsky_input.specs.declared.stop.Stop.TheVariants.{Memory}
use Rattle.chumsky_parser.proofs.ItemsLemmas.{emit_fault}
use Rattle.chumsky_flatten.proofs.FlatteningLemmas.{inside-unmarked, inside-given, inside-stopped, inside-unrestored, inside-no}
use Rattle.chumsky_flatten.proofs.flatten.step_inside.Goals as goal

pub returns-in_err-before-clause-ran : goal.returns-in_err-before-clause-ran
returns-in_err-before-clause-ran g c =
    let e : c.from_residual.result ≡ Err (fault.Stop Memory) = search rules in
    inside-unmarked g.E.State.Inspector.mark g.E.State.Inspector.back g.E.State.Inspector.takes_no_memory c.in_err-before.ensures (emit_fault _ e)

pub returns-in-Ok-clause-ran : goal.returns-in-Ok-clause-ran
returns-in-Ok-clause-ran g c = inside-given g.E.State.Inspector.mark g.E.State.Inspector.back g.E.State.Inspector.takes_no_memory _ _ c.next_emit.ensures.ran c.in-Ok.is

pub returns-in-Err-Stop-clause-ran : goal.returns-in-Err-Stop-clause-ran
returns-in-Err-Stop-clause-ran g c =
    inside-stopped g.E.State.Inspector.mark g.E.State.Inspector.back g.E.State.Inspector.takes_no_memory
    c.next_emit.ensures.ran (emit_fault _ (c.in-Err-Stop.is ∙ ap Err c.in-Err-Stop.field-0-is)) (λ z. cc) refl

pub returns-in_err-rewind-in-Err-Fail-clause-ran : goal.returns-in_err-rewind-in-Err-Fail-clause-ran
returns-in_err-rewind-in-Err-Fail-clause-ran g c =
    let e : c.from_residual-in_err-rewind-in-Err-Fail.result ≡ Err (fault.Stop Memory) = search rules in
    let h = c.in_err-rewind-in-Err-Fail.ensures.back in
    inside-unrestored g.E.State.Inspector.mark g.E.State.Inspector.back g.E.State.Inspector.takes_no_memory
    c.next_emit.ensures.ran (emit_fault _ (c.in-Err-Fail.is ∙ ap Err c.in-Err-Fail.field-0-is)) h.0 h.1
    (emit_fault _ e)

pub returns-clause-ran : goal.returns-clause-ran
returns-clause-ran g c =
    inside-no g.E.State.Inspector.mark g.E.State.Inspector.back g.E.State.Inspector.takes_no_memory
    c.next_emit.ensures.ran (emit_fault _ (c.in-Err-Fail.is ∙ ap Err c.in-Err-Fail.field-0-is))
    c.in_ok-before.ensures c.in_ok-rewind-in-Err-Fail.ensures.back refl
