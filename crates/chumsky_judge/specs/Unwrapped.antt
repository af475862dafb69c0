-- What is in a value that always has one in it.
use Rattle.std.specs.Prelude.{◌≡◌, Option, Some, Result, Ok}
use Rattle.chumsky_input.specs.Outcome.{Meaning, Beginning, Outcome, Yes}

module _ {Tok Cx St Er V : Type 0} where
  -- each value that the parser gives is as said
  abbrev pub AlwaysGives : (V → Type 0) → Meaning Tok Cx St Er V → Type 0
  AlwaysGives P m = (b : Beginning Tok Cx St) (o : Outcome V Er St) (v : V) → m b o → o.verdict ≡ Yes (Some v) → P v

-- the value in a `Some`, and in an `Ok`
abbrev pub InSome : {V : Type 0} → Option V → V → Type 0
InSome held v = held ≡ Some v

abbrev pub InOk : {V X : Type 0} → Result V X → V → Type 0
InOk held v = held ≡ Ok v
