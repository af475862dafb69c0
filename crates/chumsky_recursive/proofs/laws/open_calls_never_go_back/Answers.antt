use Rattle.std.proofs.Common.{rules}
use Rattle.chumsky_recursive.specs.InPlaceLaws.{in_place-ends}
use Rattle.chumsky_recursive.specs.DerivesLaws.{calls-onward}
use Rattle.chumsky_recursive.proofs.laws.open_calls_never_go_back.Goals as goal

pub returns : goal.returns
returns g c =
    let laws = g.met.A.Actions c.lifetimes (search rules) in
    calls-onward _ _ _ _
    (record { leaf = λ n. in_place-ends _ (laws.leaves_end_after_start c.args.grammar.now.actions.now n) })
    c.args.grammar.now.rules.rules.now c.args.grammar.now.limit c.args.grammar.now.rules.start
