-- Nothing at all.
use Rattle.chumsky_input.specs.Outcome.{Meaning}
use Rattle.chumsky_parser.specs.Chained.{Given}
use Rattle.chumsky_parser.specs.Failure.{wanting}

-- yes, and nothing done
abbrev pub MeansEmpty : {Tok Cx St Er : Type 0} → Meaning Tok Cx St Er (Unit {0})
MeansEmpty b o = Given (wanting b.wanted tt) b o
