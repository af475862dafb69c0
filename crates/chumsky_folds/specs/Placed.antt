-- Items with the places before their steps.
use Rattle.std.specs.Prelude.{◌≡◌, ◌≤◌, ℕ, Option, Some, option_map, List, map}
use Rattle.std.specs.declared.alloc.Global.{Global}
use Rattle.std.specs.declared.vec.Vec.{Vec}
use Rattle.chumsky_input.specs.Layout.{Layout}
use Rattle.chumsky_input.specs.declared.input.Input as input_trait
use Rattle.chumsky_input.specs.Outcome.{Meaning, Beginning, Outcome}
use Rattle.chumsky_parser.specs.Chained.{Chained, Given}
use Rattle.chumsky_parser.specs.Items.{Next, More, End, AfterStep}

module _ {Tok Cx St Er S V : Type 0} where
  -- an item that was given is paired with a place
  abbrev pub PairedWith : ℕ → Option V → S → Meaning Tok Cx St Er (Next S (V × ℕ))
  PairedWith place v s = Given (Some (More (option_map (λ x. (x, place)) v) s))

  -- a step, its item with the place where the step began
  pub record Placed (step : Meaning Tok Cx St Er (Next S V)) (b : Beginning Tok Cx St) (o : Outcome (Next S (V × ℕ)) Er St) : Type 0 where
    pub run : Chained step (AfterStep (PairedWith b.start) (Given (Some End))) b o

-- items that are the same, and one place
abbrev pub SamePlaced : {V : Type 0} → (V → V → Type 0) → V × ℕ → V × ℕ → Type 0
SamePlaced same x y = same x.0 y.0 × (x.1 ≡ y.1)

module _ {I Cu Tok Sp V : Type 0} (source : input_trait.Ghosts I Cu Tok Sp) where
  -- items with cursors, as items with places
  abbrev pub places_of : List (V × Cu) → List (V × ℕ)
  places_of xs = map (λ x. (x.0, source.place x.1)) xs

  -- the cursor of an item stands among these tokens, not past this place
  abbrev pub StartsIn : Layout Tok → ℕ → V × Cu → Type 0
  StartsIn tokens place x = (source.cursor_tokens x.1 ≡ tokens) × (source.place x.1 ≤ place)

  -- a collection of items with cursors holds these items with places
  abbrev pub HoldsPlaced : List (V × ℕ) → Vec (V × Cu) Global → Type 0
  HoldsPlaced xs v = places_of v.items ≡ xs
