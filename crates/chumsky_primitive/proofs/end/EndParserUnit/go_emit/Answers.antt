use Rattle.std.proofs.Common.{rules, ◌≡◌, Err, refl, ap, true}
use Rattle.chumsky_input.specs.declared.stop.Fault.TheVariants as fault
use Rattle.chumsky_input.specs.declared.stop.Stop.TheVariants.{Memory}
use Rattle.chumsky_input.specs.Held.{held, marks}
use Rattle.chumsky_parser.proofs.ChainedLemmas.{emit_err}
use Rattle.chumsky_primitive.proofs.EndLemmas.{end_there, end_unmarked, end_unrestored, end_misses}
use Rattle.chumsky_primitive.proofs.end.EndParserUnit.go_emit.Goals as goal

pub returns-in_err-before-clause-ran : goal.returns-in_err-before-clause-ran
returns-in_err-before-clause-ran g c =
    let e : c.from_residual.result ≡ Err (fault.Stop Memory) = search rules in
    rw (emit_err e) (end_unmarked g.I.Input g.E.Error.Error g.E.State.Inspector true (held g.I.Input g.E.Error.Error g.E.State.Inspector c.args.inp.now) _ refl c.in_err-before.ensures)

pub returns-in-None-clause-ran : goal.returns-in-None-clause-ran
returns-in-None-clause-ran g c =
    end_there g.I.Input g.E.Error.Error g.E.State.Inspector true
    (held g.I.Input g.E.Error.Error g.E.State.Inspector c.args.inp.now) _ c.in-None.ensures.taken
    c.in-None.ensures.moves

pub returns-in_err-rewind-in-Some-clause-ran : goal.returns-in_err-rewind-in-Some-clause-ran
returns-in_err-rewind-in-Some-clause-ran g c =
    let e : c.from_residual-in_err-rewind-in-Some.result ≡ Err (fault.Stop Memory) = search rules in
    let h = c.in_err-rewind-in-Some.ensures.back in
    rw (emit_err e)
    (end_unrestored g.I.Input g.E.Error.Error g.E.State.Inspector true
    (held g.I.Input g.E.Error.Error g.E.State.Inspector c.args.inp.now) _
    (held g.I.Input g.E.Error.Error g.E.State.Inspector c.next_maybe.new.self) _ c.in-Some.ensures.taken
    c.in-Some.ensures.moves h.0 h.1)

pub returns-clause-ran : goal.returns-clause-ran
returns-clause-ran g c =
    end_misses g.I.Input g.E.Error.Error g.E.State.Inspector true (held g.I.Input g.E.Error.Error g.E.State.Inspector c.args.inp.now) _ (marks g.I.Input g.E.State.Inspector c.in_ok-before.before) _
    (held g.I.Input g.E.Error.Error g.E.State.Inspector c.next_maybe.new.self) (held g.I.Input g.E.Error.Error g.E.State.Inspector c.rewind.new.self) _ _
    c.in-Some.ensures.taken c.in_ok-before.ensures c.in-Some.ensures.moves (ap g.I.Input.place c.cursor-past.ensures) c.in_ok-rewind-in-Some.ensures.back c.expected.ensures.fails
