-- What a part of a grammar may do.
use Rattle.std.specs.Prelude.{◌≤◌}
use Rattle.chumsky_input.specs.Outcome.{Meaning, Beginning, Outcome, IsAnswer}

module _ {Tok Cx St Er V : Type 0} where
  -- what is meant, and no answer ends before its start
  pub record Onward (meaning : Meaning Tok Cx St Er V) (b : Beginning Tok Cx St) (o : Outcome V Er St) : Type 0 where
    pub means : meaning b o
    pub ends : IsAnswer o.verdict → b.start ≤ o.end
