use Rattle.std.proofs.Common.{rules}
use Rattle.chumsky_parser.specs.ChoiceLaws.{each-agrees}
use Rattle.chumsky_choice.specs.InOrderLaws.{first_among-both}
use Rattle.chumsky_choice.proofs.laws.choice_of_a_list_agrees_by_one_alternative.Goals as goal

pub returns-clause-slice : goal.returns-clause-slice
returns-clause-slice g c s =
    first_among-both _ _ _ _ _ (each-agrees _ g.A.Parser.steady g.A.Parser.same (λ p. (g.met.A.Parser c.lifetimes (search rules)).agrees p) c.args.slice.now.parsers.now s)

pub returns-clause-vec : goal.returns-clause-vec
returns-clause-vec g c s =
    first_among-both _ _ _ _ _ (each-agrees _ g.A.Parser.steady g.A.Parser.same (λ p. (g.met.A.Parser c.lifetimes (search rules)).agrees p) c.args.vec.now.parsers.items s)

pub returns-clause-array : goal.returns-clause-array
returns-clause-array g c s =
    first_among-both _ _ _ _ _ (each-agrees _ g.A.Parser.steady g.A.Parser.same (λ p. (g.met.A.Parser c.lifetimes (search rules)).agrees p) c.args.array.now.parsers s)
