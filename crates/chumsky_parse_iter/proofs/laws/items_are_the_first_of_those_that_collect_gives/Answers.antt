use Rattle.std.proofs.Common.{rules, false, ◌≡◌, length, refl, sym, subst}
use Rattle.chumsky_parse_iter.specs.Walk.{held_in}
use Rattle.chumsky_parse_iter.specs.Finish.{IsStartOf}
use Rattle.chumsky_parse_iter.proofs.NoneLemmas.{stays-none}
use Rattle.chumsky_parse_iter.proofs.StartLemmas.{is-start, is-all}
use Rattle.chumsky_parse_iter.proofs.laws.items_are_the_first_of_those_that_collect_gives.Goals as goal

pub returns-clause-first : goal.returns-clause-first
returns-clause-first g c steady gave u h o v m e =
    let none =
    stays-none g.E.Error.Error.merged g.E.Error.Error.takes_no_memory
    (λ p. g.P.IterParser.begins p.now g.E.Error.Error g.E.State.Inspector)
    (λ p s. g.P.IterParser.gives p.now (record { nonconsumption_is_ok = false }) s g.E.Error.Error g.E.State.Inspector)
    _ (λ w. w.parser) (λ w. w.phase) (λ w. held_in g.I.Input g.E.Error.Error g.E.State.Inspector w.parts) (λ w. w.given) (λ w r x y. y.1) gave c.args.run.now c.args.last.now h in
    let start =
    is-start g.E.Error.Error.merged g.E.Error.Error.takes_no_memory
    (λ p. g.P.IterParser.begins p.now g.E.Error.Error g.E.State.Inspector)
    (λ p s. g.P.IterParser.gives p.now (record { nonconsumption_is_ok = false }) s g.E.Error.Error g.E.State.Inspector)
    _ (λ w. w.parser) (λ w. w.phase) (λ w. held_in g.I.Input g.E.Error.Error g.E.State.Inspector w.parts) (λ w. w.given) (λ w r x y. y) c.args.run.now.parser _ _ _
    ((g.met.P.IterParser c.lifetimes (search rules)).agrees c.args.run.now.parser.now steady (record { nonconsumption_is_ok = false })) _ gave c.args.run.now c.args.last.now refl u h none v o e m in
    subst (λ ys. IsStartOf (g.P.IterParser.same c.args.run.now.parser.now) gave ys) (sym start.1) start.2.0

pub returns-clause-all : goal.returns-clause-all
returns-clause-all g c steady gave u h o v m e z d =
    let none =
    stays-none g.E.Error.Error.merged g.E.Error.Error.takes_no_memory
    (λ p. g.P.IterParser.begins p.now g.E.Error.Error g.E.State.Inspector)
    (λ p s. g.P.IterParser.gives p.now (record { nonconsumption_is_ok = false }) s g.E.Error.Error g.E.State.Inspector)
    _ (λ w. w.parser) (λ w. w.phase) (λ w. held_in g.I.Input g.E.Error.Error g.E.State.Inspector w.parts) (λ w. w.given) (λ w r x y. y.1) gave c.args.run.now c.args.last.now h in
    let all =
    is-all g.E.Error.Error.merged g.E.Error.Error.takes_no_memory
    (λ p. g.P.IterParser.begins p.now g.E.Error.Error g.E.State.Inspector)
    (λ p s. g.P.IterParser.gives p.now (record { nonconsumption_is_ok = false }) s g.E.Error.Error g.E.State.Inspector)
    _ (λ w. w.parser) (λ w. w.phase) (λ w. held_in g.I.Input g.E.Error.Error g.E.State.Inspector w.parts) (λ w. w.given) (λ w r x y. y) c.args.run.now.parser _ _ _
    ((g.met.P.IterParser c.lifetimes (search rules)).agrees c.args.run.now.parser.now steady (record { nonconsumption_is_ok = false }))
    _ gave c.args.run.now c.args.last.now refl u h none v o e m z d in
    subst (λ ys. c.args.last.now.given ≡ length ys) (sym all.1) all.2
