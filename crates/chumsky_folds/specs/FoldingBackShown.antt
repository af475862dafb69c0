-- What is folded out of items from the last one back by what is shown the run.
use Rattle.std.specs.Prelude.{◌≡◌, ℕ, Option, Some, None, List, [], ◌∷◌}
use Rattle.chumsky_input.specs.Extra.{Shown}
use Rattle.chumsky_input.specs.Outcome.{Meaning, Beginning, Outcome, Yes}
use Rattle.chumsky_parser.specs.Chained.{Chained, Given}
use Rattle.chumsky_parser.specs.Items.{Next}
use Rattle.chumsky_parser.specs.Showing.{GivesShown, shown_since}
use Rattle.chumsky_items.specs.Consumers.{Collects}
use Rattle.chumsky_folds.specs.Placed.{Placed}

module _ {Tok Cx St V A : Type 0} (folds : GivesShown Tok Cx St (V × A) A) where
  -- the right fold of a list of items with places, and the state that it leaves: the last item is taken into the start, and
  -- each one before it into what the next one left; of each is shown the run from its place on, in the state that the next
  -- one left
  abbrev pub FoldsRightShown : Shown Tok Cx St → A → List (V × ℕ) → A → St → Type 0
  FoldsRightShown run a [] z s = (z ≡ a) × (s ≡ run.state)
  FoldsRightShown run a (x ∷ xs) z s = (b : A) × (t : St) × FoldsRightShown run a xs b t × folds (x.0, b) (record run { from = x.1; state = t }) z s

  -- a step of a right fold, by an item that comes with what the folder is shown
  abbrev pub StepsBackShown : V × Shown Tok Cx St → A → A → Type 0
  StepsBackShown x a z = (s : St) × folds (x.0, a) x.1 z s

module _ {Tok Cx St Er V C A : Type 0} (holds : List (V × ℕ) → C → Type 0) (folds : GivesShown Tok Cx St (V × A) A) where
  abbrev pub GivenBack : Option C → Option A → Meaning Tok Cx St Er A
  GivenBack (Some c) (Some a) b o =
      (xs : List (V × ℕ)) × (z : A) × (s : St) × holds xs c × FoldsRightShown folds (shown_since b.start b) a xs z s
      × (o ≡ record { verdict = Yes (Some z); end = b.start; state = s; events = []; emitted = [] })
  GivenBack (Some c) None b o = Given None b o
  GivenBack None a b o = Given None b o

  -- the right fold of the items in this collection, from this start, where both are there
  pub record FoldedBackShown (c : Option C) (a : Option A) (b : Beginning Tok Cx St) (o : Outcome A Er St) : Type 0 where
    pub by_value : GivenBack c a b o

module _ {Tok Cx St Er S V C A : Type 0} (gives : S → Meaning Tok Cx St Er (Next S V))
    (begins : Meaning Tok Cx St Er S) (holds : List (V × ℕ) → C → Type 0)
    (folds : GivesShown Tok Cx St (V × A) A) where
  -- the items, collected with the places before their steps, and then a part, and the right fold from its value
  abbrev pub FoldsBackShown : Meaning Tok Cx St Er A → Meaning Tok Cx St Er A
  FoldsBackShown part = Chained (Collects (λ s. Placed (gives s)) begins holds ⊥) (λ c. Chained part (FoldedBackShown holds folds c))
