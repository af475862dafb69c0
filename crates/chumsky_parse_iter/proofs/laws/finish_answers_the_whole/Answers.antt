use Rattle.std.proofs.Common.{false}
use Rattle.chumsky_parse_iter.specs.Walk.{held_in}
use Rattle.chumsky_parse_iter.proofs.WalkLemmas.{finish-whole}
use Rattle.chumsky_parse_iter.proofs.laws.finish_answers_the_whole.Goals as goal

pub returns : goal.returns
returns g c = λ gave u z k e h.
    finish-whole g.I.Input g.E.Error.Error g.E.State.Inspector
    (λ p. g.P.IterParser.begins p.now g.E.Error.Error g.E.State.Inspector)
    (λ p s. g.P.IterParser.gives p.now (record { nonconsumption_is_ok = false }) s g.E.Error.Error g.E.State.Inspector)
    _ (λ w. w.parser) (λ w. w.phase) (λ w. held_in g.I.Input g.E.Error.Error g.E.State.Inspector w.parts) (λ w. w.given) (λ w r v y. y) gave c.args.run.now c.args.last.now u z k e h
