-- Steps of items whose iteration is part of another iteration.
-- Main word: Carried. Laws: CarriedLaws.antt.
use Rattle.std.specs.Prelude.{Some}
use Rattle.chumsky_input.specs.Outcome.{Meaning, Beginning, Outcome}
use Rattle.chumsky_parser.specs.Chained.{Chained, Given}
use Rattle.chumsky_parser.specs.Items.{Next, More, End, AfterStep}

module _ {Tok Cx St Er S T V : Type 0} where
  -- the step; the iteration that it leaves is put into another one by `carry`
  pub record Carried (carry : S → T) (step : Meaning Tok Cx St Er (Next S V)) (b : Beginning Tok Cx St) (o : Outcome (Next T V) Er St) : Type 0 where
    pub run : Chained step (AfterStep (λ v s. Given (Some (More v (carry s)))) (Given (Some End))) b o
