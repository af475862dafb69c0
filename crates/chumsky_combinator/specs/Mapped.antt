-- What an output mapper makes of a value.
use Rattle.std.specs.Prelude.{Option, Some, None}
use Rattle.chumsky_input.specs.Outcome.{Meaning, Beginning, Outcome}
use Rattle.chumsky_parser.specs.Chained.{Chained, Given}

module _ {Tok Cx St Er V W : Type 0} (maps : V → W → Type 0) where
  abbrev pub GivenAs : Option V → Meaning Tok Cx St Er W
  GivenAs (Some v) b o = (w : W) × maps v w × Given (Some w) b o
  GivenAs None b o = Given None b o

  -- an answer of the mapper, where there is a value
  pub record GivenBy (v : Option V) (b : Beginning Tok Cx St) (o : Outcome W Er St) : Type 0 where
    pub by_value : GivenAs v b o

  abbrev pub Mapped : Meaning Tok Cx St Er V → Meaning Tok Cx St Er W
  Mapped part = Chained part GivenBy

-- two answers to arguments that are the same
pub record SameMapped {V W : Type 0} (same : V → V → Type 0) (maps : V → W → Type 0) (w w' : W) : Type 0 where
  pub first : V
  pub second : V
  pub alike : same first second
  pub from_first : maps first w
  pub from_second : maps second w'
