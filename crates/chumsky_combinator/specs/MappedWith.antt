-- What a mapper that is shown the run makes of a value.
use Rattle.chumsky_input.specs.Outcome.{Meaning, Beginning, Outcome}
use Rattle.chumsky_parser.specs.Chained.{Chained}
use Rattle.chumsky_parser.specs.Showing.{GivesShown, GivenShown}

-- the part, and then an answer of the mapper, shown what the part took
pub record MappedWith {Tok Cx St Er V W : Type 0} (gives : GivesShown Tok Cx St V W) (part : Meaning Tok Cx St Er V) (b : Beginning Tok Cx St) (o : Outcome W Er St) : Type 0 where
  pub run : Chained part (GivenShown gives b.start) b o
