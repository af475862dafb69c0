use Rattle.std.proofs.Common.{rules, ◌≡◌, false, length}
use Rattle.chumsky_input.specs.Held.{held}
use Rattle.chumsky_choice.proofs.AmongLemmas.{among-none, among-only, among-several}
use Rattle.chumsky_choice.proofs.among.check_among.Goals as goal

pub returns-in_default-clause-ran : goal.returns-in_default-clause-ran
returns-in_default-clause-ran g c =
    among-none g.I.Input g.E.Error.Error g.E.State.Inspector
    (λ p. g.P.Parser.meaning p g.E.Error.Error g.E.State.Inspector) false
    (held g.I.Input g.E.Error.Error g.E.State.Inspector c.args.inp.now) _ _ _ c.in_default.ensures.cases
    c.expect_nothing.ensures.fails

pub returns-then-is_empty-clause-ran : goal.returns-then-is_empty-clause-ran
returns-then-is_empty-clause-ran g c =
    let e : length c.in-Some.others.now ≡ 0 = search rules in
    among-only g.I.Input g.E.Error.Error g.E.State.Inspector
    (λ p. g.P.Parser.meaning p g.E.Error.Error g.E.State.Inspector) false
    (held g.I.Input g.E.Error.Error g.E.State.Inspector c.args.inp.now) c.in-Some.ensures.cases e
    c.go_check.ensures.ran

pub returns-clause-ran : goal.returns-clause-ran
returns-clause-ran g c =
    among-several g.I.Input g.E.Error.Error g.E.State.Inspector
    (λ p. g.P.Parser.meaning p g.E.Error.Error g.E.State.Inspector) false
    (held g.I.Input g.E.Error.Error g.E.State.Inspector c.args.inp.now) c.in-Some.ensures.cases
    c.check_several.ensures.ran
