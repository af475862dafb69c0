use Rattle.chumsky_recursive.specs.DerivesLaws.{derived}
use Rattle.chumsky_recursive.proofs.laws.an_answer_is_derived.Goals as goal

pub returns : goal.returns
returns g c = derived _ _ _ _ c.args.grammar.now.rules.rules.now c.args.grammar.now.limit c.args.grammar.now.rules.start
