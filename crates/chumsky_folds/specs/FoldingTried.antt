-- What is folded out of items by what may refuse one, and is shown the run.
use Rattle.std.specs.Prelude.{◌≡◌, ℕ, Bool, true, false, Option, Some, None, [], Result, Ok, Err, ⊤}
use Rattle.chumsky_input.specs.Extra.{Shown}
use Rattle.chumsky_input.specs.Outcome.{Meaning, Beginning, Outcome, Yes}
use Rattle.chumsky_parser.specs.Chained.{Chained, Asked, Given, SamePair, both}
use Rattle.chumsky_parser.specs.Failure.{FailsAt}
use Rattle.chumsky_parser.specs.Items.{Next}
use Rattle.chumsky_parser.specs.Showing.{GivesShown, shown_since}
use Rattle.chumsky_folds.specs.Folding.{SameFolded}
use Rattle.chumsky_folds.specs.FoldingShown.{TakesAll, SameTaken}
use Rattle.chumsky_folds.specs.Placed.{Placed}

module _ {Tok Cx St E Er A : Type 0} (seen : E → Er) where
  -- what becomes of an answer, and of the state that it leaves: a value, here; or a failure here, with the error at a place
  abbrev pub TakenOrRefused : Result A E → ℕ → St → Meaning Tok Cx St Er A
  TakenOrRefused (Ok w) place s b o = o ≡ record { verdict = Yes (Some w); end = b.start; state = s; events = []; emitted = [] }
  TakenOrRefused (Err e) place s b o = FailsAt (record { place = place; error = seen e }) b.start s o

module _ {Tok Cx St E Er V A : Type 0} (seen : E → Er) (tries : GivesShown Tok Cx St (A × V) (Result A E)) where
  abbrev pub TriesSince : ℕ → Option (A × (V × ℕ)) → Meaning Tok Cx St Er A
  TriesSince from (Some x) b o = (r : Result A E) × (s : St) × tries (x.0, x.1.0) (shown_since from b) r s × TakenOrRefused seen r x.1.1 s b o
  TriesSince from None b o = ⊥

  -- an item, with the place before its step, taken by a folder that is shown what ran since a place; or refused, with the
  -- error at the item's place
  pub record TakesTried (from : ℕ) (a : Option A) (x : Option (V × ℕ)) (b : Beginning Tok Cx St) (o : Outcome A Er St) : Type 0 where
    pub by_value : TriesSince from (both a x) b o

module _ {Tok Cx St E V A : Type 0} (tries : GivesShown Tok Cx St (A × V) (Result A E)) where
  -- an item that was taken, and came with what the folder is shown
  abbrev pub StepsTried : A → V × Shown Tok Cx St → A → Type 0
  StepsTried a x z = (s : St) × tries (a, x.0) x.1 (Ok z) s

-- the value, where one is wanted
abbrev pub where_wanted : {A : Type 0} → Bool → Option A → Option A
where_wanted true a = a
where_wanted false a = None

module _ {Tok Cx St E Er S V A : Type 0} (gives : S → Meaning Tok Cx St Er (Next S V))
    (begins : Meaning Tok Cx St Er S) (seen : E → Er) (tries : GivesShown Tok Cx St (A × V) (Result A E))
    (part : Meaning Tok Cx St Er A) where
  -- a part, and then all items, each taken by a folder that is shown what ran since the part began, until one is refused
  pub record FoldsTrying (b : Beginning Tok Cx St) (o : Outcome A Er St) : Type 0 where
    pub run : Chained part (TakesAll (λ s. Placed (gives s)) begins (TakesTried seen tries b.start)) b o

  -- the same, run for its value whatever the whole is asked for
  pub record FoldsTried (b : Beginning Tok Cx St) (o : Outcome A Er St) : Type 0 where
    pub run : Chained (Asked true FoldsTrying) (λ a. Given (where_wanted b.wanted a)) b o

-- two values, or errors that count as one
abbrev pub BothRule : {A E Er : Type 0} → (E → Er) → Result A E → Result A E → Type 0
BothRule seen (Ok x) (Ok y) = ⊤
BothRule seen (Ok x) (Err e) = ⊥
BothRule seen (Err d) (Ok y) = ⊥
BothRule seen (Err d) (Err e) = seen d ≡ seen e

module _ {Tok Cx St E Er V A : Type 0} (seen : E → Er) (tries : GivesShown Tok Cx St (A × V) (Result A E)) (start : A → A → Type 0) (same : V → V → Type 0) where
  -- of accumulators, folded in the same way, and items that are the same, shown one run, both are taken, or both refused with
  -- errors that count as one; and one state is left
  abbrev pub TakesAlike : Type 0
  TakesAlike =
      (v w : A × V) (x : Shown Tok Cx St) (r r' : Result A E) (s t : St)
      → SamePair (SameFolded start (SameTaken same) (StepsTried tries)) same v w → tries v x r s → tries w x r' t
      → BothRule seen r r' × (s ≡ t)
