use Rattle.std.proofs.Common.{refl, sym, true}
use Rattle.std.specs.Prelude.{⊤}
use Rattle.chumsky_input.specs.Held.{held}
use Rattle.chumsky_primitive.specs.Any.{PointsTo}
use Rattle.chumsky_primitive.proofs.AnyLemmas.{any_takes, any_misses}
use Rattle.chumsky_primitive.proofs.any_ref.AnyRefParserRefToken.go_emit.Goals as goal

pub returns-in-Some-clause-ran : goal.returns-in-Some-clause-ran
returns-in-Some-clause-ran g c =
    any_takes g.I.Input PointsTo (λ _. ⊤) g.E.Error.Error g.E.State.Inspector
    (held g.I.Input g.E.Error.Error g.E.State.Inspector c.args.inp.now) c.in-Some.token.now c.in-Some.token _
    (sym c.in-Some.ensures.taken) refl c.in-Some.ensures.moves

pub returns-in-None-clause-ran : goal.returns-in-None-clause-ran
returns-in-None-clause-ran g c =
    any_misses g.I.Input PointsTo (λ _. ⊤) g.E.Error.Error g.E.State.Inspector
    (held g.I.Input g.E.Error.Error g.E.State.Inspector c.args.inp.now) true
    (held g.I.Input g.E.Error.Error g.E.State.Inspector c.next_ref.new.self) _ _ (sym c.in-None.ensures.taken)
    c.in-None.ensures.moves (rw c.cursor-here.ensures at c.expected.ensures.fails)
