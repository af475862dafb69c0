-- What is folded out of items by what is shown the run.
use Rattle.std.specs.Prelude.{◌≡◌, ℕ, ◌+◌, ◌^◌, true, Option}
use Rattle.chumsky_input.specs.Extra.{Shown}
use Rattle.chumsky_input.specs.Outcome.{Meaning, Beginning, Outcome}
use Rattle.chumsky_parser.specs.Chained.{Chained, Asked, Given, both}
use Rattle.chumsky_parser.specs.Items.{Next, FromMade}
use Rattle.chumsky_parser.specs.Showing.{GivesShown, GivenShown}

module _ {Tok Cx St Er S V A : Type 0} (gives : S → Meaning Tok Cx St Er (Next S V)) (begins : Meaning Tok Cx St Er S) (more : Option A → Option V → Meaning Tok Cx St Er A) where
  -- an iteration is made, and each of its items is taken into what the one before it left, from this start; at the end that
  -- is given
  pub record TakesAll (start : Option A) (b : Beginning Tok Cx St) (o : Outcome A Er St) : Type 0 where
    pub room : ℕ
    pub full : room + 1 ≡ 2 ^ 64
    pub run : Chained (Asked true begins) (FromMade gives more Given room start) b o

module _ {Tok Cx St V A : Type 0} (folds : GivesShown Tok Cx St (A × V) A) where
  -- an item taken by a folder that is shown what ran since this place, where the item and what it is taken into are there
  abbrev pub TakesShown : {Er : Type 0} → ℕ → Option A → Option V → Meaning Tok Cx St Er A
  TakesShown from a v = GivenShown folds from (both a v)

  -- the same, by an item that comes with what the folder is shown
  abbrev pub StepsShown : A → V × Shown Tok Cx St → A → Type 0
  StepsShown a x z = (s : St) × folds (a, x.0) x.1 z s

module _ {Tok Cx St Er S V A : Type 0} (gives : S → Meaning Tok Cx St Er (Next S V)) (begins : Meaning Tok Cx St Er S) (folds : GivesShown Tok Cx St (A × V) A) where
  -- a part, and then all items, each taken by a folder that is shown what ran since the part began
  pub record FoldsShown (part : Meaning Tok Cx St Er A) (b : Beginning Tok Cx St) (o : Outcome A Er St) : Type 0 where
    pub run : Chained part (TakesAll gives begins (TakesShown folds b.start)) b o

-- items that are the same, and one run shown
abbrev pub SameTaken : {Tok Cx St V : Type 0} → (V → V → Type 0) → V × Shown Tok Cx St → V × Shown Tok Cx St → Type 0
SameTaken same x y = same x.0 y.0 × (x.1 ≡ y.1)
