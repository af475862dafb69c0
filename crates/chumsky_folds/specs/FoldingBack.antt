-- What is folded out of items from the last one back.
use Rattle.std.specs.Prelude.{◌≡◌, Option, Some, None, List, [], ◌∷◌}
use Rattle.chumsky_input.specs.Outcome.{Meaning, Beginning, Outcome}
use Rattle.chumsky_parser.specs.Chained.{Chained, Given}
use Rattle.chumsky_parser.specs.Items.{Next}
use Rattle.chumsky_items.specs.Consumers.{Collects, SameItems}

-- the right fold of a list: the last item is taken into the start, and each one before it into what the next one left
abbrev pub FoldsRight : {A V : Type 0} → (V → A → A → Type 0) → A → List V → A → Type 0
FoldsRight steps a [] z = z ≡ a
FoldsRight {A} steps a (x ∷ xs) z = (b : A) × FoldsRight steps a xs b × steps x b z

module _ {V C : Type 0} (holds : List V → C → Type 0) where
  -- the right fold of the items in this collection, from this start, where both are there
  abbrev pub FoldsHeld : {A : Type 0} → (V → A → A → Type 0) → Option C → Option A → Option A → Type 0
  FoldsHeld steps (Some c) (Some a) (Some z) = (xs : List V) × holds xs c × FoldsRight steps a xs z
  FoldsHeld steps (Some c) (Some a) None = ⊥
  FoldsHeld steps (Some c) None z = z ≡ None
  FoldsHeld steps None a z = z ≡ None

module _ {Tok Cx St Er V C A : Type 0} where
  -- it is given
  pub record FoldedBack (holds : List V → C → Type 0) (steps : V → A → A → Type 0) (c : Option C) (a : Option A) (b : Beginning Tok Cx St) (o : Outcome A Er St) : Type 0 where
    pub value : Option A
    pub is : FoldsHeld holds steps c a value
    pub given : Given value b o

module _ {Tok Cx St Er S V C A : Type 0} (gives : S → Meaning Tok Cx St Er (Next S V))
    (begins : Meaning Tok Cx St Er S) (holds : List V → C → Type 0) (quiet : Type 0)
    (part : Meaning Tok Cx St Er A) where
  -- the items, collected, and then a part, and the right fold from its value
  abbrev pub FoldsBack : (V → A → A → Type 0) → Meaning Tok Cx St Er A
  FoldsBack steps = Chained (Collects gives begins holds quiet) (λ c. Chained part (FoldedBack holds steps c))

-- two right folds, from starts that are the same, of as many items that are one by one the same
pub record SameFoldedBack {A V : Type 0} (same_start : A → A → Type 0) (same : V → V → Type 0) (steps : V → A → A → Type 0) (z w : A) : Type 0 where
  pub first_start : A
  pub second_start : A
  pub starts : same_start first_start second_start
  pub first : List V
  pub second : List V
  pub are : SameItems same first second
  pub folds_first : FoldsRight steps first_start first z
  pub folds_second : FoldsRight steps second_start second w
