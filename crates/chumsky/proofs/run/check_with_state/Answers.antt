use Rattle.std.proofs.Common.{rules, refl, None}
use Rattle.chumsky_input.specs.Held.{held}
use Rattle.chumsky.proofs.AcceptedLemmas.{answers-text}
use Rattle.chumsky.proofs.AnswerLemmas.{parses, told-without, whole-agrees}
use Rattle.chumsky.proofs.run.check_with_state.Goals as goal

pub returns-in-Ok : goal.returns-in-Ok
returns-in-Ok g c =
    parses g.I.Input g.E.Error.Error g.E.State.Inspector (λ w. None) (g.I.Input.tokens c.args.input)
    (held g.I.Input g.E.Error.Error g.E.State.Inspector c.new-inp.result)
    (held g.I.Input g.E.Error.Error g.E.State.Inspector c.whole_check-answer.new.inp)
    (held g.I.Input g.E.Error.Error g.E.State.Inspector c.settle-output.new.inp)
    c.whole_check-answer.result c.settle-output.result c.new-inp.ensures.begins c.default-context.ensures c.whole_check-answer.ensures.ran (told-without _) c.settle-output.ensures.settles
    (search rules) (rw c.in-Ok.is (_, refl, refl, rw c.finish-last.ensures.emitted refl))
    (λ y. whole-agrees g.I.Input g.E.Error.Error g.E.State.Inspector _ _ ((g.met.P.Parser c.lifetimes (search rules)).agrees c.args.parser.now y))
    (λ o m x. answers-text g.I.Input g.E.Error.Error g.E.State.Inspector (λ w. None) (g.I.Input.tokens c.args.input) c.new-inp.ensures.count
    ((g.met.P.Parser c.lifetimes (search rules)).accepts c.args.parser.now) _ _ _ o m _ x)

pub returns : goal.returns
returns g c =
    parses g.I.Input g.E.Error.Error g.E.State.Inspector (λ w. None) (g.I.Input.tokens c.args.input)
    (held g.I.Input g.E.Error.Error g.E.State.Inspector c.new-inp.result)
    (held g.I.Input g.E.Error.Error g.E.State.Inspector c.whole_check-answer.new.inp)
    (held g.I.Input g.E.Error.Error g.E.State.Inspector c.settle-output.new.inp)
    c.whole_check-answer.result c.settle-output.result c.new-inp.ensures.begins c.default-context.ensures c.whole_check-answer.ensures.ran (told-without _) c.settle-output.ensures.settles
    (search rules) (rw c.in-Err.is refl)
    (λ y. whole-agrees g.I.Input g.E.Error.Error g.E.State.Inspector _ _ ((g.met.P.Parser c.lifetimes (search rules)).agrees c.args.parser.now y))
    (λ o m x. answers-text g.I.Input g.E.Error.Error g.E.State.Inspector (λ w. None) (g.I.Input.tokens c.args.input) c.new-inp.ensures.count
    ((g.met.P.Parser c.lifetimes (search rules)).accepts c.args.parser.now) _ _ _ o m _ x)
