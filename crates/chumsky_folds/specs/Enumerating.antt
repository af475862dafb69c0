-- Items with their numbers.
use Rattle.std.specs.Prelude.{◌≡◌, ℕ, ◌+◌, Bool, true, false, Option, Some, option_map}
use Rattle.chumsky_input.specs.declared.stop.Stop.TheVariants.{CountTooLarge}
use Rattle.chumsky_input.specs.Outcome.{Meaning, Beginning, Outcome}
use Rattle.chumsky_parser.specs.Chained.{Chained, Given}
use Rattle.chumsky_parser.specs.Failure.{Stops}
use Rattle.chumsky_parser.specs.Items.{Next, More, End, AfterStep}
use Rattle.chumsky_items.specs.Repeating.{fits}

module _ {Tok Cx St Er S : Type 0} where
  -- no item was given yet
  abbrev pub BeginsAtZero : Meaning Tok Cx St Er S → Meaning Tok Cx St Er (ℕ × S)
  BeginsAtZero begins = Chained begins (λ s. Given (option_map (λ t. (0, t)) s))

module _ {Tok Cx St Er S V : Type 0} where
  -- an item after n others has the number n, unless one more can't be counted
  abbrev pub Numbered : Bool → ℕ → Option V → S → Meaning Tok Cx St Er (Next (ℕ × S) (ℕ × V))
  Numbered true n v t = Given (Some (More (option_map (λ x. (n, x)) v) (n + 1, t)))
  Numbered false n v t = Stops CountTooLarge

  -- a step of the items inside, its item with the number
  pub record Enumerates (gives : S → Meaning Tok Cx St Er (Next S V)) (s : ℕ × S) (b : Beginning Tok Cx St) (o : Outcome (Next (ℕ × S) (ℕ × V)) Er St) : Type 0 where
    pub step : Chained (gives s.1) (AfterStep (Numbered (fits s.0) s.0) (Given (Some End))) b o

-- one number, and items that are the same
abbrev pub SameNumbered : {V : Type 0} → (V → V → Type 0) → ℕ × V → ℕ × V → Type 0
SameNumbered same x y = (x.0 ≡ y.0) × same x.1 y.1

-- as many items were given, and the iterations inside are alike
abbrev pub AlikeNumbered : {S : Type 0} → (S → S → Type 0) → ℕ × S → ℕ × S → Type 0
AlikeNumbered alike s t = (s.0 ≡ t.0) × alike s.1 t.1
