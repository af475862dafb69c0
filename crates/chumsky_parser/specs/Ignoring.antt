-- Parts that run without their values, and what is given in their place.
use Rattle.std.specs.Prelude.{false}
use Rattle.chumsky_input.specs.Outcome.{Meaning, Beginning, Outcome}
use Rattle.chumsky_parser.specs.Chained.{Chained, Given, Asked}
use Rattle.chumsky_parser.specs.Failure.{wanting}

module _ {Tok Cx St Er V : Type 0} where
  -- yes, with this value where one is wanted, and nothing done
  pub record Gives (v : V) (b : Beginning Tok Cx St) (o : Outcome V Er St) : Type 0 where
    pub given : Given (wanting b.wanted v) b o

module _ {Tok Cx St Er V W : Type 0} where
  -- the first without its value, and then the second
  abbrev pub IgnoringFirst : Meaning Tok Cx St Er V → Meaning Tok Cx St Er W → Meaning Tok Cx St Er W
  IgnoringFirst first second = Chained (Asked false first) (λ _. second)

  -- the first, and then the second without its value
  abbrev pub IgnoringSecond : Meaning Tok Cx St Er V → Meaning Tok Cx St Er W → Meaning Tok Cx St Er V
  IgnoringSecond first second = Chained first (λ v. Chained (Asked false second) (λ _. Given v))

module _ {Tok Cx St Er U V W : Type 0} where
  -- a part between two that run without their values
  abbrev pub Between : Meaning Tok Cx St Er U → Meaning Tok Cx St Er V → Meaning Tok Cx St Er W → Meaning Tok Cx St Er V
  Between opening part closing = IgnoringFirst opening (IgnoringSecond part closing)
