-- The items of one parser, and then those of another.
use Rattle.std.specs.Prelude.{true, Option, Some, None, option_map}
use Rattle.chumsky_input.specs.Outcome.{Meaning, Beginning, Outcome}
use Rattle.chumsky_parser.specs.Chained.{Chained, Given, Asked}
use Rattle.chumsky_parser.specs.Items.{Next, More, End, AfterStep}
use Rattle.chumsky_combinator.specs.declared.then_items.Stage.{Stage}
use Rattle.chumsky_combinator.specs.declared.then_items.Stage.TheVariants.{First, Second}

-- what is said of an iteration of the first items, and of one of the second
abbrev pub InStage : {S T : Type 0} → (S → Type 0) → (T → Type 0) → Stage S T → Type 0
InStage first second (First s) = first s
InStage first second (Second t) = second t

-- both in the first items, or both in the second, and alike there
abbrev pub SameStage : {S T : Type 0} → (S → S → Type 0) → (T → T → Type 0) → Stage S T → Stage S T → Type 0
SameStage first second (First s) (First t) = first s t
SameStage first second (First s) (Second t) = ⊥
SameStage first second (Second s) (First t) = ⊥
SameStage first second (Second s) (Second t) = second s t

module _ {Tok Cx St Er S T : Type 0} where
  -- the first items come first
  abbrev pub BeginsFirst : Meaning Tok Cx St Er S → Meaning Tok Cx St Er (Stage S T)
  BeginsFirst begins = Chained begins (λ s. Given (option_map First s))

module _ {Tok Cx St Er S T V : Type 0} where
  -- an item of the second items, or their end
  abbrev pub OfSecond : Meaning Tok Cx St Er (Next T V) → Meaning Tok Cx St Er (Next (Stage S T) V)
  OfSecond step = Chained step (AfterStep (λ v t. Given (Some (More v (Second t)))) (Given (Some End)))

  module _ (firsts : S → Meaning Tok Cx St Er (Next S V)) (begins : Meaning Tok Cx St Er T) (seconds : T → Meaning Tok Cx St Er (Next T V)) where
    -- one of the iteration that was made
    abbrev pub FirstOfSecond : Option T → Meaning Tok Cx St Er (Next (Stage S T) V)
    FirstOfSecond (Some t) = OfSecond (seconds t)
    FirstOfSecond None = λ b o. ⊥

    -- an item of the first; and where they have ended, the iteration of the second is made, and gives one
    abbrev pub GivesAt : Stage S T → Meaning Tok Cx St Er (Next (Stage S T) V)
    GivesAt (First s) = Chained (firsts s) (AfterStep (λ v t. Given (Some (More v (First t)))) (Chained (Asked true begins) FirstOfSecond))
    GivesAt (Second t) = OfSecond (seconds t)

    pub record GivesInTurn (at : Stage S T) (b : Beginning Tok Cx St) (o : Outcome (Next (Stage S T) V) Er St) : Type 0 where
      pub step : GivesAt at b o
