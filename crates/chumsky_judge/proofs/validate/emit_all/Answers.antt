use Rattle.std.proofs.Common.{rules, ◌≡◌, [], length, map, ap}
use Rattle.std.proofs.lemmas.List.{nil_from_length}
use Rattle.chumsky_input.specs.Held.{held}
use Rattle.chumsky_judge.specs.Validated.{emitted_by}
use Rattle.chumsky_judge.proofs.ValidatedLemmas.{emitted-all, emits_none, emits_back}
use Rattle.chumsky_judge.proofs.validate.emit_all.Goals as goal

pub returns-then-is_empty-clause-emits : goal.returns-then-is_empty-clause-emits
returns-then-is_empty-clause-emits g c =
    let e : length c.in_ok-errors.errors.items ≡ 0 = search rules in
    let none : c.in_ok-errors.errors.items ≡ [] = nil_from_length _ e in
    let all = emitted-all g.E.Error.Error.seen c.args.emitter c.in_ok-errors.errors.items (ap (λ v. v.items) c.in_ok-errors.ensures.0) c.in_ok-errors.ensures.1 in
    emits_none (held g.I.Input g.E.Error.Error g.E.State.Inspector c.args.inp.now)
    (emitted_by g.E.Error.Error.seen c.args.emitter) (map g.E.Error.Error.seen c.in_ok-errors.errors.items) all
    (ap (map g.E.Error.Error.seen) none)

pub returns-clause-emits : goal.returns-clause-emits
returns-clause-emits g c =
    let all = emitted-all g.E.Error.Error.seen c.args.emitter c.in_ok-errors.errors.items (ap (λ v. v.items) c.in_ok-errors.ensures.0) c.in_ok-errors.ensures.1 in
    emits_back (held g.I.Input g.E.Error.Error g.E.State.Inspector c.args.inp.now)
    (emitted_by g.E.Error.Error.seen c.args.emitter) (map g.E.Error.Error.seen c.in_ok-errors.errors.items) all
    g.E.Error.Error.merged g.E.Error.Error.takes_no_memory
    (held g.I.Input g.E.Error.Error g.E.State.Inspector c.set_aside-older.new.self)
    (held g.I.Input g.E.Error.Error g.E.State.Inspector c.bring_back.new.self) c.bring_back.result c.set_aside-older.ensures.leaves
    (rw (c.put_errors.ensures, c.set_aside-older.ensures.kept, c.set_aside-older.ensures.emitted) at c.bring_back.ensures.back)
