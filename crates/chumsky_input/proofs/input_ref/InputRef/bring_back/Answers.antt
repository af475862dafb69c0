use Rattle.std.proofs.Common.{rules, ◌≡◌, Err, option_map, ap, ◌∙◌, inl}
use Rattle.chumsky_input.specs.Held.{held, located}
use Rattle.chumsky_input.specs.Aside.{kept_after}
use Rattle.chumsky_input.proofs.AsideLemmas.{clashes_after}
use Rattle.chumsky_input.proofs.input_ref.InputRef.bring_back.Goals as goal

pub returns-in_err-keep_before-clause-back : goal.returns-in_err-keep_before-clause-back
returns-in_err-keep_before-clause-back g c =
    let e : c.from_residual-in_err-keep_before.result ≡ Err c.in_err-keep_before.field-0.0 = search rules in
    let k =
    clashes_after g.E.Error.Error.takes_no_memory
    (held g.I.Input g.E.Error.Error g.E.State.Inspector c.args.self.now)
    (option_map (located g.E.Error.Error.seen) c.args.older.kept) c.in_ok-emit_before.ensures.emits
    c.in_err-keep_before.ensures.keeps in
    rw e (inl k.0, k.1)

pub returns-clause-back : goal.returns-clause-back
returns-clause-back g c = c.in_ok-keep_before.ensures.keeps ∙ ap (kept_after g.E.Error.Error.merged (option_map (located g.E.Error.Error.seen) c.args.older.kept)) c.in_ok-emit_before.ensures.emits
