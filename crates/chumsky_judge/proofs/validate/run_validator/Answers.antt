use Rattle.std.proofs.Common.{rules, refl}
use Rattle.chumsky_input.specs.Held.{held}
use Rattle.chumsky_parser.proofs.ChainedLemmas.{emit_ok}
use Rattle.chumsky_judge.proofs.ValidatedLemmas.{validate_fails, validate_yes, validate_refused}
use Rattle.chumsky_judge.proofs.validate.run_validator.Goals as goal

pub returns-in_err-value-clause-ran : goal.returns-in_err-value-clause-ran
returns-in_err-value-clause-ran g c w =
    validate_fails c.go_emit.ensures.ran c.in_err-value.was (search rules)

pub returns-in_err-emit_all-clause-ran : goal.returns-in_err-emit_all-clause-ran
returns-in_err-emit_all-clause-ran g c w =
    validate_refused (rw (emit_ok c.in_ok-value.was) at c.go_emit.ensures.ran) _
    (held g.I.Input g.E.Error.Error g.E.State.Inspector c.call_with_emitter-output.new.inp)
    c.call_with_emitter-output.ensures.moves _
    (record { emitter = c.call_with_emitter-output.result.1; validates = rw c.cursor-start.ensures at c.call_with_emitter-output.ensures.validates; counts = refl })
    c.in_err-emit_all.ensures.emits (search rules)

pub returns-clause-ran : goal.returns-clause-ran
returns-clause-ran g c w =
    validate_yes (rw (emit_ok c.in_ok-value.was) at c.go_emit.ensures.ran) _
    (held g.I.Input g.E.Error.Error g.E.State.Inspector c.call_with_emitter-output.new.inp)
    c.call_with_emitter-output.ensures.moves _
    (record { emitter = c.call_with_emitter-output.result.1; validates = rw c.cursor-start.ensures at c.call_with_emitter-output.ensures.validates; counts = refl })
    c.in_ok-emit_all.ensures.emits
