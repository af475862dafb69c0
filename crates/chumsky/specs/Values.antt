-- What a part of a grammar gives, and that it takes a token.
use Rattle.std.specs.Prelude.{◌≡◌, ◌<◌, Some}
use Rattle.chumsky_input.specs.Outcome.{Meaning, Beginning, Outcome, Yes}
use Rattle.chumsky_parser.specs.Progress.{IsYes}

-- any outcome, so long as its value, where it has one, is as said
abbrev pub GivesOnly : {Tok Cx St Er V : Type 0} → (V → Type 0) → Meaning Tok Cx St Er V
GivesOnly {V = V} P b o = (v : V) → o.verdict ≡ Yes (Some v) → P v

-- any outcome, so long as it ends past its start where it is a yes
abbrev pub TakesAToken : {Tok Cx St Er V : Type 0} → Meaning Tok Cx St Er V
TakesAToken b o = IsYes o.verdict → b.start < o.end

-- what is meant, and it takes a token
pub record Taking {Tok Cx St Er V : Type 0} (meaning : Meaning Tok Cx St Er V) (b : Beginning Tok Cx St) (o : Outcome V Er St) : Type 0 where
  pub means : meaning b o
  pub takes : TakesAToken b o
