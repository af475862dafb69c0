-- The laws of nothing at all.
use Rattle.chumsky_input.specs.Outcome.{EndsAfterStart, Agreeing}
use Rattle.chumsky_parser.specs.Failure.{wanting}
use Rattle.chumsky_parser.specs.Laws.{given-ends, given-agrees}
use Rattle.chumsky_parser.specs.FailureLaws.{SameUnit, wanting-same}
use Rattle.chumsky_primitive.specs.Empty.{MeansEmpty}

module _ {Tok Cx St Er : Type 0} where
  pub empty-ends : EndsAfterStart (MeansEmpty {Tok = Tok} {Cx = Cx} {St = St} {Er = Er})
  empty-ends b o m a = given-ends (wanting b.wanted tt) b o m a

  pub empty-agrees : Agreeing SameUnit (MeansEmpty {Tok = Tok} {Cx = Cx} {St = St} {Er = Er}) MeansEmpty
  empty-agrees b c o q alike m n a z = given-agrees SameUnit _ _ (wanting-same SameUnit b.wanted c.wanted tt tt) b c o q alike m n a z
