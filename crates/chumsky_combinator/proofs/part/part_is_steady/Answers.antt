use Rattle.std.proofs.Common.{rules}
use Rattle.chumsky_combinator.specs.PartLaws.{less-agrees}
use Rattle.chumsky_combinator.proofs.part.part_is_steady.Goals as goal

pub returns-clause-steady : goal.returns-clause-steady
returns-clause-steady g c s within weaker =
    less-agrees _ _ (g.A.Parser.same c.args.inside.now) _
    ((g.met.A.Parser c.lifetimes (search rules)).agrees c.args.inside.now s) within weaker
