use Rattle.std.proofs.Common.{rules, false}
use Rattle.chumsky_input.specs.Held.{held}
use Rattle.chumsky_primitive.specs.Any.{CountsAs}
use Rattle.chumsky_primitive.proofs.AnyLemmas.{any_skips, any_stays, any_misses}
use Rattle.chumsky_primitive.proofs.any.AnyParserToken.go_check.Goals as goal

pub returns-then-advance-clause-ran : goal.returns-then-advance-clause-ran
returns-then-advance-clause-ran g c =
    any_skips g.I.Input (CountsAs g.I.ValueInput.seen) g.I.ValueInput.takes_no_memory g.E.Error.Error
    g.E.State.Inspector (held g.I.Input g.E.Error.Error g.E.State.Inspector c.args.inp.now) _ (search rules)
    c.advance.ensures.moves

pub returns-clause-ran : goal.returns-clause-ran
returns-clause-ran g c =
    let old = held g.I.Input g.E.Error.Error g.E.State.Inspector c.args.inp.now in
    let mid = held g.I.Input g.E.Error.Error g.E.State.Inspector c.advance.new.self in
    let s = any_stays g.E.State.Inspector.after old mid (search rules) c.advance.ensures.moves in
    any_misses g.I.Input (CountsAs g.I.ValueInput.seen) g.I.ValueInput.takes_no_memory g.E.Error.Error g.E.State.Inspector old false mid _ _ s.0 s.1
    (rw c.cursor-here.ensures at c.expected.ensures.fails)
