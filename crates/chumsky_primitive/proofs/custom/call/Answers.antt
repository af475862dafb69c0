use Rattle.std.proofs.Common.{rules, ◌≡◌, Err}
use Rattle.chumsky_input.specs.declared.stop.Fault.TheVariants as fault
use Rattle.chumsky_input.specs.declared.stop.Stop.TheVariants.{Memory}
use Rattle.chumsky_input.specs.Held.{held}
use Rattle.chumsky_primitive.proofs.CustomLemmas.{custom_yes, custom_fails, custom_yes_refused, custom_no_refused, custom_stops}
use Rattle.chumsky_primitive.proofs.custom.call.Goals as goal

pub returns-in_err-bring_back-in-Ok-clause-ran : goal.returns-in_err-bring_back-in-Ok-clause-ran
returns-in_err-bring_back-in-Ok-clause-ran g c w =
    let e : c.from_residual.result ≡ Err (fault.Stop Memory) = search rules in
    rw e
    (custom_yes_refused g.E.Error.Error.merged g.E.Error.Error.takes_no_memory g.E.Error.Error.seen
    (g.F.Reader.gives c.args.parser.now.reader g.E.Error.Error g.E.State.Inspector)
    (held g.I.Input g.E.Error.Error g.E.State.Inspector c.args.inp.now) _ _ c.in-Ok.ensures.forward
    c.in-Ok.ensures.gives c.set_aside-older.ensures.leaves
    (rw c.set_aside-older.ensures.kept at c.in_err-bring_back-in-Ok.ensures.back) w)

pub returns-in_err-bring_back-in-Err-Error-clause-ran : goal.returns-in_err-bring_back-in-Err-Error-clause-ran
returns-in_err-bring_back-in-Err-Error-clause-ran g c w =
    let e : c.from_residual-in_err-bring_back-in-Err-Error.result ≡ Err (fault.Stop Memory) = search rules in
    rw e
    (custom_no_refused g.E.Error.Error.merged g.E.Error.Error.takes_no_memory g.E.Error.Error.seen
    (g.F.Reader.gives c.args.parser.now.reader g.E.Error.Error g.E.State.Inspector)
    (held g.I.Input g.E.Error.Error g.E.State.Inspector c.args.inp.now) _ _
    (rw c.in-Err-Error.field-0-is at c.in-Err-Error.ensures.forward)
    (rw c.in-Err-Error.field-0-is at c.in-Err-Error.ensures.gives) c.set_aside-older.ensures.leaves
    (rw c.set_aside-older.ensures.kept at c.in_err-bring_back-in-Err-Error.ensures.back) w)

pub returns-in_ok-bring_back-in-Ok-clause-ran : goal.returns-in_ok-bring_back-in-Ok-clause-ran
returns-in_ok-bring_back-in-Ok-clause-ran g c w =
    custom_yes g.E.Error.Error.merged g.E.Error.Error.takes_no_memory g.E.Error.Error.seen
    (g.F.Reader.gives c.args.parser.now.reader g.E.Error.Error g.E.State.Inspector)
    (held g.I.Input g.E.Error.Error g.E.State.Inspector c.args.inp.now) _ _ c.in-Ok.ensures.forward
    c.in-Ok.ensures.gives c.set_aside-older.ensures.leaves
    (rw (c.set_aside-older.ensures.kept, c.set_aside-older.ensures.emitted) at c.in_ok-bring_back-in-Ok.ensures.back)
    w

pub returns-in_ok-bring_back-in-Err-Error-clause-ran : goal.returns-in_ok-bring_back-in-Err-Error-clause-ran
returns-in_ok-bring_back-in-Err-Error-clause-ran g c w =
    custom_fails g.E.Error.Error.merged g.E.Error.Error.takes_no_memory g.E.Error.Error.seen
    (g.F.Reader.gives c.args.parser.now.reader g.E.Error.Error g.E.State.Inspector)
    (held g.I.Input g.E.Error.Error g.E.State.Inspector c.args.inp.now) _ _
    (rw c.in-Err-Error.field-0-is at c.in-Err-Error.ensures.forward)
    (rw c.in-Err-Error.field-0-is at c.in-Err-Error.ensures.gives) c.set_aside-older.ensures.leaves
    (rw (c.set_aside-older.ensures.kept, c.set_aside-older.ensures.emitted) at c.in_ok-bring_back-in-Err-Error.ensures.back)
    (rw (c.place.ensures, c.cursor-start.ensures) at c.add_event.ensures.adds) w

pub returns-in-Err-Stop-clause-ran : goal.returns-in-Err-Stop-clause-ran
returns-in-Err-Stop-clause-ran g c w =
    rw (c.restore.ensures, c.cursor-start.ensures, c.ctx-context.ensures)
    (custom_stops g.E.Error.Error.merged g.E.Error.Error.takes_no_memory g.E.Error.Error.seen
    (g.F.Reader.gives c.args.parser.now.reader g.E.Error.Error g.E.State.Inspector)
    (held g.I.Input g.E.Error.Error g.E.State.Inspector c.args.inp.now) _ _
    (rw c.in-Err-Stop.field-0-is at c.in-Err-Stop.ensures.forward)
    (rw c.in-Err-Stop.field-0-is at c.in-Err-Stop.ensures.gives) c.set_aside-older.ensures.leaves w)
