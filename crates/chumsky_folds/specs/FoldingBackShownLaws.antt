-- The laws of what is folded out of items from the last one back by what is shown the run.
use Rattle.std.proofs.Common.{◌≡◌, ◌≤◌, ℕ, Option, Some, None, List, [], ◌∷◌, map, refl, sym, ap, subst, arith, ◌∙◌}
use Rattle.chumsky_input.specs.Extra.{Shown}
use Rattle.chumsky_input.specs.Outcome.{Meaning, Beginning, Outcome, Alike, Agree, SameValue, EndsAfterStart, Agreeing, IsAnswer}
use Rattle.chumsky_parser.specs.Laws.{chained-ends, chained-agrees, given-ends, given-agrees}
use Rattle.chumsky_parser.specs.Items.{Next, ItemsEnd, ItemsAgree}
use Rattle.chumsky_parser.specs.Showing.{GivesShown, OnlyAnswers, shown_since}
use Rattle.chumsky_items.specs.Consumers.{SameItems, SameContents}
use Rattle.chumsky_items.specs.ConsumersLaws.{collects-ends, collects-agree}
use Rattle.chumsky_folds.specs.FoldingBack.{FoldsRight, SameFoldedBack}
use Rattle.chumsky_folds.specs.FoldingShown.{SameTaken}
use Rattle.chumsky_folds.specs.Placed.{Placed, SamePlaced}
use Rattle.chumsky_folds.specs.PlacedLaws.{placed-end, placed-agree}
use Rattle.chumsky_folds.specs.FoldingBackShown.{FoldsRightShown, StepsBackShown, GivenBack, FoldsBackShown}

module _ {Tok Cx St V : Type 0} (run : Shown Tok Cx St) where
  -- items with what a folder is shown of them, in one state
  abbrev pub items_shown : List (V × ℕ) → List (V × Shown Tok Cx St)
  items_shown xs = map (λ x. (x.0, record run { from = x.1 })) xs

  shown-same : (same : V → V → Type 0) (xs ys : List (V × ℕ)) → SameItems (SamePlaced same) xs ys → SameItems (SameTaken same) (items_shown xs) (items_shown ys)
  shown-same same [] [] e = tt
  shown-same same [] (y ∷ ys) e = absurd e
  shown-same same (x ∷ xs) [] e = absurd e
  shown-same same (x ∷ xs) (y ∷ ys) e = ((e.0.0, ap (λ p. record run { from = p }) e.0.1), shown-same same xs ys e.1)

module _ {Tok Cx St V A : Type 0} (folds : GivesShown Tok Cx St (V × A) A) (one : OnlyAnswers folds) where
  -- a folder that leaves the state is shown one state
  folds_right-shown : (run : Shown Tok Cx St) (a z : A) (s : St) (xs : List (V × ℕ)) → FoldsRightShown folds run a xs z s → (s ≡ run.state) × FoldsRight (StepsBackShown folds) a (items_shown run xs) z
  folds_right-shown run a z s [] f = (f.1, f.0)
  folds_right-shown run a z s (x ∷ xs) f =
      let rest = folds_right-shown run a f.0 f.1 xs f.2 in
      let there : record run { from = x.1; state = f.1 } ≡ record run { from = x.1 } = cc rest.0 in
      let step : folds (x.0, f.0) (record run { from = x.1 }) z s = subst (λ y. folds (x.0, f.0) y z s) there f.3 in
      ((one (x.0, f.0) (record run { from = x.1 }) z z s s step step).1, (f.0, rest.1, (s, step)))

module _ {Tok Cx St V A : Type 0} (folds : GivesShown Tok Cx St (V × A) A) (same : V → V → Type 0) (start : A → A → Type 0) where
  abbrev other : A → A → Type 0
  other = SameFoldedBack start (SameTaken same) (StepsBackShown folds)

module _ {Tok Cx St Er V C A : Type 0} (holds : List (V × ℕ) → C → Type 0) (folds : GivesShown Tok Cx St (V × A) A) where
  back-ends : (c : Option C) (a : Option A) (b : Beginning Tok Cx St) (o : Outcome A Er St) → GivenBack holds folds c a b o → IsAnswer o.verdict → b.start ≤ o.end
  back-ends (Some c) (Some a) b o m z = omega (arith, ap (λ (x : Outcome A Er St). x.end) m.5)
  back-ends (Some c) None b o m z = given-ends None b o m z
  back-ends None a b o m z = given-ends None b o m z

  module _ (one_list : (xs ys : List (V × ℕ)) (c : C) → holds xs c → holds ys c → xs ≡ ys) (one : OnlyAnswers folds) (same : V → V → Type 0) (start : A → A → Type 0) where
    back-agrees : (c d : Option C) (a e : Option A) → SameValue (SameContents (SamePlaced same) holds) c d
        → SameValue start a e → (b f : Beginning Tok Cx St) (o q : Outcome A Er St) → Alike b f
        → GivenBack holds folds c a b o → GivenBack holds folds d e f q → IsAnswer o.verdict → IsAnswer q.verdict
        → Agree (other folds same start) o q
    back-agrees (Some c) (Some d) (Some a) (Some e) h s b f o q l m n y z =
        let run : Shown Tok Cx St = shown_since b.start b in
        let there : shown_since f.start f ≡ run = cc (l.tokens, l.start, l.context, l.state) in
        let first = folds_right-shown folds one run a m.1 m.2 h.first (subst (λ xs. FoldsRightShown folds run a xs m.1 m.2) (one_list m.0 h.first c m.3 h.holds_first) m.4) in
        let second =
        folds_right-shown folds one run e n.1 n.2 h.second
        (subst (λ xs. FoldsRightShown folds run e xs n.1 n.2) (one_list n.0 h.second d n.3 h.holds_second)
        (subst (λ x. FoldsRightShown folds x e n.0 n.1 n.2) there n.4))
        in
        let k : other folds same start m.1 n.1 =
        record {
          first_start = a;
          second_start = e;
          starts = s;
          first = items_shown run h.first;
          second = items_shown run h.second;
          are = shown-same run same h.first h.second h.are;
          folds_first = first.1;
          folds_second = second.1;
        }
        in
        rw (m.5, n.5) (record { answer = k; end = l.start; state = first.0 ∙ sym second.0; events = refl; emitted = refl })
    back-agrees (Some c) (Some d) (Some a) None h s b f o q l m n y z =
        let run : Shown Tok Cx St = shown_since b.start b in
        let first = folds_right-shown folds one run a m.1 m.2 m.0 m.4 in
        rw (m.5, n) (record { answer = tt; end = l.start; state = first.0 ∙ l.state; events = refl; emitted = refl })
    back-agrees (Some c) None (Some a) e h s b f o q l m n y z =
        let run : Shown Tok Cx St = shown_since b.start b in
        let first = folds_right-shown folds one run a m.1 m.2 m.0 m.4 in
        rw (m.5, n) (record { answer = tt; end = l.start; state = first.0 ∙ l.state; events = refl; emitted = refl })
    back-agrees (Some c) (Some d) None (Some e) h s b f o q l m n y z =
        let run : Shown Tok Cx St = shown_since f.start f in
        let second = folds_right-shown folds one run e n.1 n.2 n.0 n.4 in
        rw (m, n.5) (record { answer = tt; end = l.start; state = l.state ∙ sym second.0; events = refl; emitted = refl })
    back-agrees None (Some d) a (Some e) h s b f o q l m n y z =
        let run : Shown Tok Cx St = shown_since f.start f in
        let second = folds_right-shown folds one run e n.1 n.2 n.0 n.4 in
        rw (m, n.5) (record { answer = tt; end = l.start; state = l.state ∙ sym second.0; events = refl; emitted = refl })
    back-agrees (Some c) (Some d) None None h s b f o q l m n y z = given-agrees (other folds same start) None None tt b f o q l m n y z
    back-agrees (Some c) None None e h s b f o q l m n y z = given-agrees (other folds same start) None None tt b f o q l m n y z
    back-agrees None (Some d) a None h s b f o q l m n y z = given-agrees (other folds same start) None None tt b f o q l m n y z
    back-agrees None None a e h s b f o q l m n y z = given-agrees (other folds same start) None None tt b f o q l m n y z

module _ {Tok Cx St Er S V C A : Type 0} (gives : S → Meaning Tok Cx St Er (Next S V))
    (begins : Meaning Tok Cx St Er S) (holds : List (V × ℕ) → C → Type 0) (folds : GivesShown Tok Cx St (V × A) A)
    (part : Meaning Tok Cx St Er A) where
  pub folds_back_shown-ends : ItemsEnd begins gives → EndsAfterStart part → EndsAfterStart (FoldsBackShown gives begins holds folds part)
  folds_back_shown-ends h p =
      chained-ends _ _ (collects-ends (λ s. Placed (gives s)) begins holds ⊥ (placed-end gives begins h))
      (λ c. chained-ends part _ p (λ a b o m z. back-ends holds folds c a b o m.by_value z))

  pub folds_back_shown-agree : ((xs ys : List (V × ℕ)) (c : C) → holds xs c → holds ys c → xs ≡ ys)
      → OnlyAnswers folds → (same : V → V → Type 0) (start : A → A → Type 0) (alike : S → S → Type 0)
      → ItemsAgree same alike begins gives → Agreeing start part part
      → Agreeing (SameFoldedBack start (SameTaken same) (StepsBackShown folds)) (FoldsBackShown gives begins holds folds part) (FoldsBackShown gives begins holds folds part)
  folds_back_shown-agree one_list one same start alike h p =
      let sw : A → A → Type 0 = SameFoldedBack start (SameTaken same) (StepsBackShown folds) in
      chained-agrees _ _ _ _ (SameContents (SamePlaced same) holds) sw (collects-agree (λ s. Placed (gives s)) begins holds ⊥ (SamePlaced same) alike (placed-agree gives begins same alike h))
      (λ c d e. chained-agrees part part _ _ start sw p (λ a f s b k o q l m n z y. back-agrees holds folds one_list one same start c d a f e s b k o q l m.by_value n.by_value z y))
