use Rattle.std.proofs.Common.{rules, ◌≡◌, Some, None, true, false, Err}
use Rattle.chumsky_input.specs.declared.stop.Fault.TheVariants as fault
use Rattle.chumsky_input.specs.declared.stop.Stop.TheVariants.{Memory}
use Rattle.chumsky_input.specs.Held.{held}
use Rattle.chumsky_parser.proofs.ChainedLemmas.{emit_err}
use Rattle.chumsky_text.proofs.RunLemmas.{run_ran, run_lacks}
use Rattle.chumsky_text.proofs.run.RunParserSlice.go_emit.Goals as goal

pub returns-in_err-end_run-clause-ran : goal.returns-in_err-end_run-clause-ran
returns-in_err-end_run-clause-ran g c =
    let e : c.from_residual.result ≡ Err (fault.Stop Memory) = search rules in
    rw (emit_err e)
    (run_lacks _ _ _ _ _ _ _ (held g.I.Input g.E.Error.Error g.E.State.Inspector c.args.inp.now)
    (held g.I.Input g.E.Error.Error g.E.State.Inspector c.skip_run.new.inp) _
    (Some c.slice_since-taken.result) (rw c.cursor-before.ensures at c.slice_since-taken.ensures) c.skip_run.ensures.moves
    c.in_err-end_run.ensures.ends)

pub returns-clause-ran : goal.returns-clause-ran
returns-clause-ran g c =
    run_ran _ _ _ _ _ _ _ (held g.I.Input g.E.Error.Error g.E.State.Inspector c.args.inp.now)
    (held g.I.Input g.E.Error.Error g.E.State.Inspector c.skip_run.new.inp) _ (Some c.slice_since-taken.result)
    (rw c.cursor-before.ensures at c.slice_since-taken.ensures) c.skip_run.ensures.moves c.in_ok-end_run.ensures.ends
