-- What is folded out of items.
use Rattle.std.specs.Prelude.{◌≡◌, Option, Some, None, List, [], ◌∷◌, ⊤}
use Rattle.chumsky_input.specs.Outcome.{Meaning}
use Rattle.chumsky_parser.specs.Chained.{Chained}
use Rattle.chumsky_parser.specs.Copied.{GivesCopy}
use Rattle.chumsky_parser.specs.Items.{Next}
use Rattle.chumsky_items.specs.Consumers.{Collects, SameItems}

-- the left fold of a list: the first item is taken into the start, and each further one into what the one before it left
abbrev pub FoldsLeft : {A V : Type 0} → (A → V → A → Type 0) → A → List V → A → Type 0
FoldsLeft steps a [] z = z ≡ a
FoldsLeft {A} steps a (x ∷ xs) z = (b : A) × steps a x b × FoldsLeft steps b xs z

-- the same from a start that is there
abbrev pub FoldsFrom : {A V : Type 0} → (A → V → A → Type 0) → Option A → List V → A → Type 0
FoldsFrom steps (Some a) xs z = FoldsLeft steps a xs z
FoldsFrom steps None xs z = ⊥

module _ {Tok Cx St Er S V A : Type 0} (gives : S → Meaning Tok Cx St Er (Next S V)) (begins : Meaning Tok Cx St Er S) (steps : A → V → A → Type 0) where
  -- the left fold of the list of all items, from this start; for the list itself no memory is wanted
  abbrev pub FoldsItems : Option A → Meaning Tok Cx St Er A
  FoldsItems a = Collects gives begins (FoldsFrom steps a) ⊤

  -- a copy of the start, and then the fold from it
  abbrev pub FoldsFromCopy : (A → Type 0) → Type 0 → Meaning Tok Cx St Er A
  FoldsFromCopy copies safe = Chained (GivesCopy copies safe) FoldsItems

  -- a part, and then the fold from its value
  abbrev pub FoldsFromPart : Meaning Tok Cx St Er A → Meaning Tok Cx St Er A
  FoldsFromPart part = Chained part FoldsItems

-- two left folds, from starts that are the same, of as many items that are one by one the same
pub record SameFolded {A V : Type 0} (same_start : A → A → Type 0) (same : V → V → Type 0) (steps : A → V → A → Type 0) (z w : A) : Type 0 where
  pub first_start : A
  pub second_start : A
  pub starts : same_start first_start second_start
  pub first : List V
  pub second : List V
  pub are : SameItems same first second
  pub folds_first : FoldsLeft steps first_start first z
  pub folds_second : FoldsLeft steps second_start second w
