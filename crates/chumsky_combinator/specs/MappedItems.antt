-- Items of which something else is made.
use Rattle.std.specs.Prelude.{Option, Some}
use Rattle.chumsky_input.specs.Outcome.{Meaning, Beginning, Outcome}
use Rattle.chumsky_parser.specs.Chained.{Chained, Given}
use Rattle.chumsky_parser.specs.Items.{Next, More, End, AfterStep}
use Rattle.chumsky_parser.specs.Showing.{GivesShown, GivenShown}
use Rattle.chumsky_combinator.specs.Mapped.{GivenBy}

module _ {Tok Cx St Er S V W : Type 0} where
  -- a step, and then what is made of its item; the end stays the end
  abbrev pub Remade : (Option V → Meaning Tok Cx St Er W) → Meaning Tok Cx St Er (Next S V) → Meaning Tok Cx St Er (Next S W)
  Remade made step = Chained step (AfterStep (λ v s. Chained (made v) (λ w. Given (Some (More w s)))) (Given (Some End)))

  -- a step whose item goes through a mapper
  pub record MapsItem (maps : V → W → Type 0) (step : Meaning Tok Cx St Er (Next S V)) (b : Beginning Tok Cx St) (o : Outcome (Next S W) Er St) : Type 0 where
    pub remade : Remade (GivenBy maps) step b o

  -- the same of a mapper that is shown what the step took
  pub record MapsItemWith (maps : GivesShown Tok Cx St V W) (step : Meaning Tok Cx St Er (Next S V)) (b : Beginning Tok Cx St) (o : Outcome (Next S W) Er St) : Type 0 where
    pub remade : Remade (GivenShown maps b.start) step b o
