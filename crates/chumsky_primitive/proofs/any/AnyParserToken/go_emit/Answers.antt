use Rattle.std.proofs.Common.{true}
use Rattle.chumsky_input.specs.Held.{held}
use Rattle.chumsky_primitive.specs.Any.{CountsAs}
use Rattle.chumsky_primitive.proofs.AnyLemmas.{any_takes, any_misses, any_lacks}
use Rattle.chumsky_primitive.proofs.any.AnyParserToken.go_emit.Goals as goal

pub returns-in-Ok-Some-clause-ran : goal.returns-in-Ok-Some-clause-ran
returns-in-Ok-Some-clause-ran g c =
    let k = rw c.in-Ok-Some.field-0-is at c.in-Ok-Some.ensures.takes in
    any_takes g.I.Input (CountsAs g.I.ValueInput.seen) g.I.ValueInput.takes_no_memory g.E.Error.Error
    g.E.State.Inspector (held g.I.Input g.E.Error.Error g.E.State.Inspector c.args.inp.now) k.0 _ _ k.1 k.2 k.3

pub returns-in-Ok-None-clause-ran : goal.returns-in-Ok-None-clause-ran
returns-in-Ok-None-clause-ran g c =
    let t = rw c.in-Ok-None.field-0-is at c.in-Ok-None.ensures.takes in
    any_misses g.I.Input (CountsAs g.I.ValueInput.seen) g.I.ValueInput.takes_no_memory g.E.Error.Error
    g.E.State.Inspector (held g.I.Input g.E.Error.Error g.E.State.Inspector c.args.inp.now) true
    (held g.I.Input g.E.Error.Error g.E.State.Inspector c.next.new.self) _ _ t.0 t.1 (rw c.cursor-here.ensures at c.expected.ensures.fails)

pub returns-in-Err-clause-ran : goal.returns-in-Err-clause-ran
returns-in-Err-clause-ran g c =
    any_lacks g.I.Input (CountsAs g.I.ValueInput.seen) g.I.ValueInput.takes_no_memory g.E.Error.Error
    g.E.State.Inspector (held g.I.Input g.E.Error.Error g.E.State.Inspector c.args.inp.now) _
    c.in-Err.ensures.takes
