-- What the laws say of folds, and of items with their numbers.
use Rattle.std.specs.Prelude.{◌≡◌, ◌≤◌, ℕ, ◌+◌, true, Some, None, List, [], ◌∷◌, ⊤, Result, Ok}
use Rattle.chumsky_input.specs.Layout.{Layout}
use Rattle.chumsky_input.specs.Extra.{Shown}
use Rattle.chumsky_input.specs.Outcome.{Meaning, Beginning, Outcome, Yes}
use Rattle.chumsky_parser.specs.Chained.{retold}
use Rattle.chumsky_parser.specs.Items.{Next}
use Rattle.chumsky_parser.specs.Showing.{GivesShown}
use Rattle.chumsky_parser.specs.Progress.{IsYes}

module _ {Tok Cx St Er L C A : Type 0} where
  -- where a value is wanted: each yes of the whole is the fold of what is collected when it succeeds in the same way; and
  -- the other way round, the fold of whatever is collected is a yes of the whole
  pub record FoldsCollected (holds : L → C → Type 0) (folds : L → A → Type 0) (collects : Meaning Tok Cx St Er C) (whole : Meaning Tok Cx St Er A) : Type 0 where
    pub apart : (b : Beginning Tok Cx St) (o : Outcome A Er St) (z : A) → b.wanted ≡ true → whole b o
        → o.verdict ≡ Yes (Some z)
        → (l : L) × folds l z × ((c : C) → holds l c → collects b (retold (Yes (Some c)) o))
    pub together : (b : Beginning Tok Cx St) (o : Outcome C Er St) (c : C) (l : L) (z : A) → b.wanted ≡ true
        → collects b o → o.verdict ≡ Yes (Some c) → holds l c → folds l z → whole b (retold (Yes (Some z)) o)

module _ {Tok St : Type 0} (stands : Layout Tok → ℕ → St → Type 0) where
  -- where a run may stand, over these tokens at a place in a state: a part that begins there succeeds only there
  abbrev pub EndsWhere : {Cx Er V : Type 0} → Meaning Tok Cx St Er V → Type 0
  EndsWhere {Cx} {Er} {V} part = (b : Beginning Tok Cx St) (o : Outcome V Er St) → stands b.tokens b.start b.state → part b o → IsYes o.verdict → stands b.tokens o.end o.state

  -- a run may stand at this beginning, and a part, an iteration and each of its steps that begin where a run may stand
  -- succeed only there
  pub record StandsFrom {Cx Er S V A : Type 0} (begins : Meaning Tok Cx St Er S)
      (gives : S → Meaning Tok Cx St Er (Next S V)) (parser : Meaning Tok Cx St Er A) (b : Beginning Tok Cx St) : Type
      0 where
    pub here : stands b.tokens b.start b.state
    pub begin : EndsWhere begins
    pub step : (s : S) → EndsWhere (gives s)
    pub part : EndsWhere parser

  -- a folder, from the left or from the right, that takes no notice of what it is shown, and leaves the state: it answers only
  -- as these steps, and so it does whenever it is shown a run from one place to another, where runs may stand
  pub record IsBlind {Cx V W A : Type 0} (folds : GivesShown Tok Cx St (V × W) A) (steps : V → W → A → Type 0) : Type 0 where
    pub sees : (p : V × W) (x : Shown Tok Cx St) (z : A) (s : St) → folds p x z s → steps p.0 p.1 z × (s ≡ x.state)
    pub answers : (p : V × W) (x : Shown Tok Cx St) (s : St) (z : A) → stands x.tokens x.from s → stands x.tokens x.to x.state → x.from ≤ x.to → steps p.0 p.1 z → folds p x z x.state

-- a folder that may refuse an item and never does: it answers as this one
pub record NeverRefuses {Tok Cx St E V A : Type 0} (tries : GivesShown Tok Cx St (A × V) (Result A E)) (folds : GivesShown Tok Cx St (A × V) A) : Type 0 where
  pub accepts : (p : A × V) (x : Shown Tok Cx St) (r : Result A E) (s : St) → tries p x r s → (z : A) × (r ≡ Ok z) × folds p x z s
  pub answers : (p : A × V) (x : Shown Tok Cx St) (z : A) (s : St) → folds p x z s → tries p x (Ok z) s

module _ {Tok Cx St Er A : Type 0} (start : Beginning Tok Cx St → Type 0) (one other : Meaning Tok Cx St Er A) where
  -- where a value is wanted: each outcome of the one, but for a yes without a value, is one of the other; and from such a
  -- start each yes with a value of the other is one of the one
  pub record FoldsAlike : Type 0 where
    pub narrower : (b : Beginning Tok Cx St) (o : Outcome A Er St) → b.wanted ≡ true → (o.verdict ≡ Yes None → ⊥) → one b o → other b o
    pub wider : (b : Beginning Tok Cx St) (o : Outcome A Er St) (z : A) → start b → b.wanted ≡ true → o.verdict ≡ Yes (Some z) → other b o → one b o

  -- each outcome of the one is one of the other; and from such a start the other way round
  pub record SameOutcomesFrom : Type 0 where
    pub narrower : (b : Beginning Tok Cx St) (o : Outcome A Er St) → one b o → other b o
    pub wider : (b : Beginning Tok Cx St) (o : Outcome A Er St) → start b → other b o → one b o

-- the numbers are k, k + 1, k + 2 and so on
abbrev pub NumberedFrom : {V : Type 0} → ℕ → List (ℕ × V) → Type 0
NumberedFrom k [] = ⊤
NumberedFrom k (x ∷ xs) = (x.0 ≡ k) × NumberedFrom (k + 1) xs

-- whatever is collected is numbered from 0 on
abbrev pub NumbersFromZero : {Tok Cx St Er V C : Type 0} → (C → List (ℕ × V)) → Meaning Tok Cx St Er C → Type 0
NumbersFromZero {Tok} {Cx} {St} {Er} {V} {C} items collects = (b : Beginning Tok Cx St) (o : Outcome C Er St) (c : C) → collects b o → o.verdict ≡ Yes (Some c) → NumberedFrom 0 (items c)
