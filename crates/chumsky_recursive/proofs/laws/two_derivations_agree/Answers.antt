use Rattle.std.proofs.Common.{rules}
use Rattle.chumsky_recursive.specs.DerivesLaws.{derivations-agree}
use Rattle.chumsky_recursive.specs.MeansLaws.{by_try-alike}
use Rattle.chumsky_recursive.specs.InPlaceLaws.{in_place-agrees}
use Rattle.chumsky_recursive.proofs.laws.two_derivations_agree.Goals as goal

pub returns : goal.returns
returns g c =
    let laws = g.met.A.Actions c.lifetimes (search rules) in
    let now = c.args.grammar.now.actions.now in
    derivations-agree _ _ _ _ (g.A.Actions.same now)
    (record { leaf = λ n. in_place-agrees _ (g.A.Actions.same now) (laws.leaves_agree now c.requires.steady n); pairs = laws.pairs_agree now c.requires.steady; options = laws.options_agree now c.requires.steady; units = λ u v x y e. laws.units_agree now c.requires.steady x y; maps = laws.maps_agree now c.requires.steady; lists = laws.lists_agree now c.requires.steady; tries = λ f. by_try-alike _ _ (g.A.Actions.same now) (g.A.Actions.try_gives now f) (laws.tries_agree now c.requires.steady f) })
    c.args.grammar.now.rules.rules.now c.args.grammar.now.rules.start
