use Rattle.std.proofs.Common.{rules}
use Rattle.chumsky_recursive.specs.LeavesLaws.{listed_leaf-agrees}
use Rattle.chumsky_recursive.proofs.laws.leaves_are_steady.Goals as goal

pub returns-clause-steady : goal.returns-clause-steady
returns-clause-steady g c = λ all within makes.
    record {
      answers = λ n. listed_leaf-agrees _ g.P.Parser.steady g.P.Parser.same _ (λ p. (g.met.P.Parser c.lifetimes (search rules)).agrees p) within c.args.leaves.now.leaves.now all n;
      makes = makes;
    }
