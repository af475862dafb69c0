-- Folds move where what they are made of does.
-- Main laws: fold-moves, foldl-moves, foldr-moves, and those of folds that are shown the run. Read first: Progress.antt of the parsers.
use Rattle.std.proofs.Common.{◌≡◌, ℕ, ◌<◌, ◌≤◌, Bool, true, ◌||◌, Option, Some, None, option_map, List, Result, Ok, Err, ap, arith, inl, inr}
use Rattle.std.specs.Prelude.{⊤}
use Rattle.chumsky_input.specs.Outcome.{Meaning, Beginning, Outcome, IsAnswer, EndsAfterStart}
use Rattle.chumsky_parser.specs.Chained.{Given, Asked, both}
use Rattle.chumsky_parser.specs.FailureLaws.{misses-ends}
use Rattle.chumsky_parser.specs.IgnoringLaws.{copy-ends}
use Rattle.chumsky_parser.specs.Laws.{chained-ends, given-ends}
use Rattle.chumsky_parser.specs.Items.{Next, More, End, ItemsEnd}
use Rattle.chumsky_parser.specs.ItemsLaws.{after_step-ends}
use Rattle.chumsky_parser.specs.Showing.{GivesShown}
use Rattle.chumsky_parser.specs.ShowingLaws.{shown-ends}
use Rattle.chumsky_folds.specs.Folding.{FoldsFrom, FoldsFromCopy, FoldsFromPart}
use Rattle.chumsky_folds.specs.FoldingBack.{FoldsBack, FoldedBack}
use Rattle.chumsky_folds.specs.FoldingBackShown.{GivenBack, FoldedBackShown, FoldsBackShown}
use Rattle.chumsky_folds.specs.FoldingLaws.{folds-ends}
use Rattle.chumsky_folds.specs.FoldingShown.{TakesAll, TakesShown, FoldsShown}
use Rattle.chumsky_folds.specs.FoldingShownLaws.{takes_all-ends}
use Rattle.chumsky_folds.specs.FoldingTried.{TakenOrRefused, TriesSince, TakesTried, FoldsTrying, FoldsTried, where_wanted}
use Rattle.chumsky_folds.specs.Placed.{PairedWith, Placed}
use Rattle.chumsky_folds.specs.PlacedLaws.{placed-end}
use Rattle.chumsky_items.specs.ConsumersLaws.{collects-ends}
use Rattle.chumsky_items.specs.ItemsMove.{made-move, collects-move}
use Rattle.chumsky_parser.specs.Progress.{Moves, ItemsMove}
use Rattle.chumsky_parser.specs.ProgressLaws.{either-true, asked-moves, chained-first, chained-second, remade-items}

module _ {Tok Cx St Er S V : Type 0} (begins : Meaning Tok Cx St Er S) (gives : S → Meaning Tok Cx St Er (Next S V)) where
  placed-move : ItemsMove begins gives → ItemsMove begins (λ s. Placed (gives s))
  placed-move h =
      remade-items
      (λ s k b o m y. chained-first (gives s) _ k
      (after_step-ends (PairedWith b.start) (Given (Some End))
      (λ v t. given-ends (Some (More (option_map (λ x. (x, b.start)) v) t))) (given-ends (Some End)))
      b o m.run y)
      h

module _ {Tok Cx St Er S V : Type 0} (gives : S → Meaning Tok Cx St Er (Next S V)) (begins : Meaning Tok Cx St Er S) (ends : ItemsEnd begins gives) where
  module _ {A : Type 0} (steps : A → V → A → Type 0) where
    pub fold-moves : (copies : A → Type 0) (safe : Type 0) → ItemsMove begins gives → Moves (FoldsFromCopy gives begins steps copies safe)
    fold-moves copies safe h = chained-second _ _ (copy-ends copies safe) (λ a. collects-move gives begins ends h (FoldsFrom steps a) ⊤)

    pub foldl-moves : (part : Meaning Tok Cx St Er A) (a c : Bool) → EndsAfterStart part → (a ≡ true → Moves part)
        → (c ≡ true → ItemsMove begins gives) → (a || c) ≡ true → Moves (FoldsFromPart gives begins steps part)
    foldl-moves part a c ep hp hi e =
        elim (either-true a c e) [
          | inl x ↦ chained-first part _ (hp x) (folds-ends gives begins steps ends)
          | inr x ↦ chained-second part _ ep (λ z. collects-move gives begins ends (hi x) (FoldsFrom steps z) ⊤)
        ]

  pub foldr-moves : {A C : Type 0} (holds : List V → C → Type 0) (quiet : Type 0) (part : Meaning Tok Cx St Er A)
      (steps : V → A → A → Type 0) (c a : Bool)
      → EndsAfterStart part → (c ≡ true → ItemsMove begins gives) → (a ≡ true → Moves part) → (c || a) ≡ true
      → Moves (FoldsBack gives begins holds quiet part steps)
  foldr-moves holds quiet part steps c a ep hi hp e =
      let folded : (x : _) (z : _) → EndsAfterStart (FoldedBack holds steps x z) = λ x z b o m k. given-ends m.value b o m.given k in
      elim (either-true c a e) [
        | inl x ↦ chained-first _ _ (collects-move gives begins ends (hi x) holds quiet) (λ z. chained-ends part _ ep (folded z))
        | inr x ↦ chained-second _ _ (collects-ends gives begins holds quiet ends) (λ z. chained-first part _ (hp x) (folded z))
      ]

  takes_all-moves : {A : Type 0} (more : Option A → Option V → Meaning Tok Cx St Er A)
      → ((a : Option A) (v : Option V) → EndsAfterStart (more a v)) → ItemsMove begins gives → (a : Option A)
      → Moves (TakesAll gives begins more a)
  takes_all-moves more hm h a b o m y = made-move gives more Given ends.step hm given-ends begins m.room a ends.begin h b o m.run y

  pub foldl_with-moves : {A : Type 0} (folds : GivesShown Tok Cx St (A × V) A) (part : Meaning Tok Cx St Er A) (a c : Bool)
      → EndsAfterStart part → (a ≡ true → Moves part) → (c ≡ true → ItemsMove begins gives) → (a || c) ≡ true
      → Moves (FoldsShown gives begins folds part)
  foldl_with-moves {A} folds part a c ep hp hi e b o m y =
      let taken : (z : Option A) (v : Option V) → EndsAfterStart (TakesShown folds b.start z v) = λ z v. shown-ends folds b.start (both z v) in
      elim (either-true a c e) as (λ _. b.start < o.end) [
        | inl x ↦ chained-first part _ (hp x) (takes_all-ends gives begins (TakesShown folds b.start) ends taken) b o m.run y
        | inr x ↦ chained-second part _ ep (takes_all-moves (TakesShown folds b.start) taken (hi x)) b o m.run y
      ]

module _ {Tok Cx St Er V C A : Type 0} (holds : List (V × ℕ) → C → Type 0) (folds : GivesShown Tok Cx St (V × A) A) where
  back-ends : (c : Option C) (a : Option A) (b : Beginning Tok Cx St) (o : Outcome A Er St) → GivenBack holds folds c a b o → IsAnswer o.verdict → b.start ≤ o.end
  back-ends (Some c) (Some a) b o m z = omega (arith, ap (λ (x : Outcome A Er St). x.end) m.5)
  back-ends (Some c) None b o m z = given-ends None b o m z
  back-ends None a b o m z = given-ends None b o m z

module _ {Tok Cx St Er S V C A : Type 0} (gives : S → Meaning Tok Cx St Er (Next S V))
    (begins : Meaning Tok Cx St Er S) (ends : ItemsEnd begins gives) (holds : List (V × ℕ) → C → Type 0)
    (folds : GivesShown Tok Cx St (V × A) A) where
  pub foldr_with-moves : (part : Meaning Tok Cx St Er A) (c a : Bool) → EndsAfterStart part
      → (c ≡ true → ItemsMove begins gives) → (a ≡ true → Moves part) → (c || a) ≡ true
      → Moves (FoldsBackShown gives begins holds folds part)
  foldr_with-moves part c a ep hi hp e =
      let placed = placed-end gives begins ends in
      let folded : (x : _) (z : _) → EndsAfterStart (FoldedBackShown holds folds x z) = λ x z b o m k. back-ends holds folds x z b o m.by_value k in
      elim (either-true c a e) [
        | inl x ↦ chained-first _ _ (collects-move (λ s. Placed (gives s)) begins placed (placed-move begins gives (hi x)) holds ⊥) (λ z. chained-ends part _ ep (folded z))
        | inr x ↦ chained-second _ _ (collects-ends (λ s. Placed (gives s)) begins holds ⊥ placed) (λ z. chained-first part _ (hp x) (folded z))
      ]

module _ {Tok Cx St E Er V A : Type 0} (seen : E → Er) (tries : GivesShown Tok Cx St (A × V) (Result A E)) where
  rules-ends : (r : Result A E) (place : ℕ) (s : St) → EndsAfterStart (TakenOrRefused {Tok = Tok} {Cx = Cx} seen r place s)
  rules-ends (Ok w) place s b o m z = omega (arith, ap (λ (x : Outcome A Er St). x.end) m)
  rules-ends (Err e) place s b o m z = misses-ends (λ _ _. ⊥) {safe = ⊤} (omega arith) (inr m) z

  tries-ends : (since : ℕ) (x : Option (A × (V × ℕ))) (b : Beginning Tok Cx St) (o : Outcome A Er St) → TriesSince seen tries since x b o → IsAnswer o.verdict → b.start ≤ o.end
  tries-ends since (Some x) b o m z = rules-ends m.0 x.1.1 m.1 b o m.3 z
  tries-ends since None b o m z = absurd m

  taken-ends : (since : ℕ) (a : Option A) (x : Option (V × ℕ)) → EndsAfterStart (TakesTried {Tok = Tok} {Cx = Cx} {St = St} seen tries since a x)
  taken-ends since a x b o m z = tries-ends since (both a x) b o m.by_value z

module _ {Tok Cx St E Er S V A : Type 0} (gives : S → Meaning Tok Cx St Er (Next S V))
    (begins : Meaning Tok Cx St Er S) (ends : ItemsEnd begins gives) (seen : E → Er)
    (tries : GivesShown Tok Cx St (A × V) (Result A E)) (part : Meaning Tok Cx St Er A) where
  trying-moves : (a c : Bool) → EndsAfterStart part → (a ≡ true → Moves part) → (c ≡ true → ItemsMove begins gives) → (a || c) ≡ true → Moves (FoldsTrying gives begins seen tries part)
  trying-moves a c ep hp hi e b o m y =
      let placed = placed-end gives begins ends in
      elim (either-true a c e) as (λ _. b.start < o.end) [
        | inl x ↦ chained-first part _ (hp x) (takes_all-ends (λ s. Placed (gives s)) begins (TakesTried seen tries b.start) placed (taken-ends seen tries b.start)) b o m.run y
        | inr x ↦ chained-second part _ ep
            (takes_all-moves (λ s. Placed (gives s)) begins placed (TakesTried seen tries b.start)
            (taken-ends seen tries b.start) (placed-move begins gives (hi x)))
            b o m.run y
      ]

  pub try_foldl-moves : (a c : Bool) → EndsAfterStart part → (a ≡ true → Moves part) → (c ≡ true → ItemsMove begins gives) → (a || c) ≡ true → Moves (FoldsTried gives begins seen tries part)
  try_foldl-moves a c ep hp hi e b o m y =
      chained-first (Asked true (FoldsTrying gives begins seen tries part)) _
      (asked-moves true _ (trying-moves a c ep hp hi e)) (λ z. given-ends (where_wanted b.wanted z)) b o m.run y
