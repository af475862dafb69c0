-- A part that may be absent, as items.
use Rattle.std.specs.Prelude.{Bool, true, false, Some}
use Rattle.chumsky_input.specs.Outcome.{Meaning, Beginning, Outcome}
use Rattle.chumsky_parser.specs.Chained.{Chained, Given}
use Rattle.chumsky_parser.specs.Choice.{OrElse}
use Rattle.chumsky_parser.specs.Items.{Next, More, End}

module _ {Tok Cx St Mk Er V : Type 0} (mark : St → Mk) (back : St → Mk → St) (safe : Type 0) (part : Meaning Tok Cx St Er V) where
  -- once the part was tried the end; else its value, and where it says no, gone back from, the end
  abbrev pub OnceTried : Bool → Meaning Tok Cx St Er (Next Bool V)
  OnceTried true = Given (Some End)
  OnceTried false = OrElse mark back safe (Chained part (λ v. Given (Some (More v true)))) (Given (Some End))

  pub record AtMostOne (tried : Bool) (b : Beginning Tok Cx St) (o : Outcome (Next Bool V) Er St) : Type 0 where
    pub step : OnceTried tried b o
