use Rattle.std.proofs.Common.{rules, ◌≡◌, Err, refl, ap, false}
use Rattle.chumsky_input.specs.declared.stop.Fault.TheVariants as fault
use Rattle.chumsky_input.specs.declared.stop.Stop.TheVariants.{Memory}
use Rattle.chumsky_input.specs.Held.{Held, held, marks}
use Rattle.chumsky_input.specs.Run.{Ran}
use Rattle.chumsky_parser.specs.Chained.{Asked}
use Rattle.chumsky_parser.proofs.ChainedLemmas.{check_ok, check_err, ran-asked}
use Rattle.chumsky_judge.proofs.JudgeLemmas.{went_yes, went_no}
use Rattle.chumsky_judge.proofs.NotLemmas.{not_unmarked, not_unrestored, not_no, not_yes, not_stops}
use Rattle.chumsky_judge.proofs.not.deny.Goals as goal

pub returns-in_err-before-clause-ran : goal.returns-in_err-before-clause-ran
returns-in_err-before-clause-ran g c w =
    let e : c.from_residual.result ≡ Err (fault.Stop Memory) = search rules in
    rw e (not_unmarked g.I.Input g.E.Error.Error g.E.State.Inspector _ w (held g.I.Input g.E.Error.Error g.E.State.Inspector c.args.inp.now) _ refl c.in_err-before.ensures)

pub returns-in_err-rewind-in-Ok-clause-ran : goal.returns-in_err-rewind-in-Ok-clause-ran
returns-in_err-rewind-in-Ok-clause-ran g c w =
    let e : c.from_residual-in_err-rewind-in-Ok.result ≡ Err (fault.Stop Memory) = search rules in
    let h = c.in_err-rewind-in-Ok.ensures.back in
    let ran = rw (c.take_kept-older.ensures.leaves, check_ok c.in-Ok.is) at c.go_check.ensures.ran in
    rw e
    (not_unrestored g.I.Input g.E.Error.Error g.E.State.Inspector
    (g.A.Parser.meaning c.args.part.now g.E.Error.Error g.E.State.Inspector) w
    (held g.I.Input g.E.Error.Error g.E.State.Inspector c.args.inp.now) _ c.in_ok-before.ensures _
    (went_yes g.E.Error.Error.merged g.E.Error.Error.takes_no_memory _ w
    (held g.I.Input g.E.Error.Error g.E.State.Inspector c.args.inp.now) _ _ (ran-asked ran))
    _ tt h.0 h.1)

pub returns-in-Ok-clause-ran : goal.returns-in-Ok-clause-ran
returns-in-Ok-clause-ran g c w =
    let ran = rw (c.take_kept-older.ensures.leaves, check_ok c.in-Ok.is) at c.go_check.ensures.ran in
    let kept = ap (λ k. record (held g.I.Input g.E.Error.Error g.E.State.Inspector c.rewind.new.self) { kept = k }) c.take_kept-older.ensures.kept in
    not_yes g.I.Input g.E.Error.Error g.E.State.Inspector
    (g.A.Parser.meaning c.args.part.now g.E.Error.Error g.E.State.Inspector) w
    (held g.I.Input g.E.Error.Error g.E.State.Inspector c.args.inp.now)
    (marks g.I.Input g.E.State.Inspector c.in_ok-before.before) c.in_ok-before.ensures
    (held g.I.Input g.E.Error.Error g.E.State.Inspector c.go_check.new.inp) _ _ _ _
    (held g.I.Input g.E.Error.Error g.E.State.Inspector c.rewind.new.self) _ _ _ ran
    c.in_ok-rewind-in-Ok.ensures.back kept refl refl refl (rw (c.put_kept.ensures, c.cursor-past.ensures) at c.something_else.ensures.fails)

pub returns-in_err-rewind-in-Err-Fail-clause-ran : goal.returns-in_err-rewind-in-Err-Fail-clause-ran
returns-in_err-rewind-in-Err-Fail-clause-ran g c w =
    let e : c.from_residual-in_err-rewind-in-Err-Fail.result ≡ Err (fault.Stop Memory) = search rules in
    let h = c.in_err-rewind-in-Err-Fail.ensures.back in
    let ran = rw (c.take_kept-older.ensures.leaves, c.in-Err-Fail.field-0-is) at c.in-Err-Fail.ensures.ran in
    rw e
    (not_unrestored g.I.Input g.E.Error.Error g.E.State.Inspector
    (g.A.Parser.meaning c.args.part.now g.E.Error.Error g.E.State.Inspector) w
    (held g.I.Input g.E.Error.Error g.E.State.Inspector c.args.inp.now) _ c.in_ok-before.ensures _
    (went_no g.E.Error.Error.merged g.E.Error.Error.takes_no_memory _ w
    (held g.I.Input g.E.Error.Error g.E.State.Inspector c.args.inp.now) _ (ran-asked ran))
    _ tt h.0 h.1)

pub returns-in-Err-Fail-clause-ran : goal.returns-in-Err-Fail-clause-ran
returns-in-Err-Fail-clause-ran g c w =
    let ran = rw (c.take_kept-older.ensures.leaves, c.in-Err-Fail.field-0-is) at c.in-Err-Fail.ensures.ran in
    let kept = ap (λ k. record (held g.I.Input g.E.Error.Error g.E.State.Inspector c.rewind-in-Err-Fail.new.self) { kept = k }) c.take_kept-older.ensures.kept in
    rw c.put_kept-in-Err-Fail.ensures
    (not_no g.I.Input g.E.Error.Error g.E.State.Inspector
    (g.A.Parser.meaning c.args.part.now g.E.Error.Error g.E.State.Inspector) w
    (held g.I.Input g.E.Error.Error g.E.State.Inspector c.args.inp.now)
    (marks g.I.Input g.E.State.Inspector c.in_ok-before.before) c.in_ok-before.ensures
    (held g.I.Input g.E.Error.Error g.E.State.Inspector c.go_check.new.inp)
    (held g.I.Input g.E.Error.Error g.E.State.Inspector c.rewind-in-Err-Fail.new.self) _ ran
    c.in_ok-rewind-in-Err-Fail.ensures.back kept)

pub returns-clause-ran : goal.returns-clause-ran
returns-clause-ran g c w =
    let ran = rw (c.take_kept-older.ensures.leaves, c.in-Err-Stop.field-0-is) at c.in-Err-Stop.ensures.ran in
    not_stops g.I.Input g.E.Error.Error g.E.State.Inspector
    (g.A.Parser.meaning c.args.part.now g.E.Error.Error g.E.State.Inspector) w
    (held g.I.Input g.E.Error.Error g.E.State.Inspector c.args.inp.now)
    (marks g.I.Input g.E.State.Inspector c.in_ok-before.before) c.in_ok-before.ensures
    (held g.I.Input g.E.Error.Error g.E.State.Inspector c.go_check.new.inp) ran
