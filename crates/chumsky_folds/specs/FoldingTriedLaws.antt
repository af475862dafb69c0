-- The laws of what is folded out of items by what may refuse one.
use Rattle.std.specs.Prelude.{⊤}
use Rattle.std.proofs.Common.{◌≡◌, ◌≤◌, ℕ, Bool, true, false, Option, Some, None, [], ◌∷◌, ◌++◌, Result, Ok, Err, refl, ap, subst, arith, inr}
use Rattle.chumsky_input.specs.Extra.{Shown}
use Rattle.chumsky_input.specs.Outcome.{Meaning, Beginning, Outcome, Alike, Agree, SameValue, EndsAfterStart, Agreeing, IsAnswer}
use Rattle.chumsky_parser.specs.Chained.{Asked, SamePair, both}
use Rattle.chumsky_parser.specs.FailureLaws.{misses-agree, misses-ends}
use Rattle.chumsky_parser.specs.Laws.{chained-ends, chained-agrees, asked-ends, asked-agrees, given-ends, given-agrees}
use Rattle.chumsky_parser.specs.Items.{Next, ItemsEnd, ItemsAgree}
use Rattle.chumsky_parser.specs.Showing.{GivesShown, shown_since}
use Rattle.chumsky_items.specs.ConsumersLaws.{same_items-more}
use Rattle.chumsky_folds.specs.Folding.{SameFolded}
use Rattle.chumsky_folds.specs.FoldingLaws.{folds_left-more}
use Rattle.chumsky_folds.specs.FoldingShown.{SameTaken}
use Rattle.chumsky_folds.specs.FoldingShownLaws.{both_same, takes_all-ends, takes_all-agree}
use Rattle.chumsky_folds.specs.Placed.{Placed, SamePlaced}
use Rattle.chumsky_folds.specs.PlacedLaws.{placed-end, placed-agree}
use Rattle.chumsky_folds.specs.FoldingTried.{TakenOrRefused, TriesSince, TakesTried, StepsTried, where_wanted, FoldsTrying, FoldsTried, BothRule, TakesAlike}

module _ {Tok Cx St E Er V A : Type 0} (seen : E → Er) (tries : GivesShown Tok Cx St (A × V) (Result A E)) where
  rules-ends : (r : Result A E) (place : ℕ) (s : St) → EndsAfterStart (TakenOrRefused {Tok = Tok} {Cx = Cx} seen r place s)
  rules-ends (Ok w) place s b o m z = omega (arith, ap (λ (x : Outcome A Er St). x.end) m)
  rules-ends (Err e) place s b o m z = misses-ends (λ _ _. ⊤) {safe = ⊤} (omega arith) (inr m) z

  tries-ends : (from : ℕ) (x : Option (A × (V × ℕ))) (b : Beginning Tok Cx St) (o : Outcome A Er St) → TriesSince seen tries from x b o → IsAnswer o.verdict → b.start ≤ o.end
  tries-ends from (Some x) b o m z = rules-ends m.0 x.1.1 m.1 b o m.3 z
  tries-ends from None b o m z = absurd m

  taken-ends : (from : ℕ) (a : Option A) (x : Option (V × ℕ)) → EndsAfterStart (TakesTried {Tok = Tok} {Cx = Cx} {St = St} seen tries from a x)
  taken-ends from a x b o m z = tries-ends from (both a x) b o m.by_value z

  module _ (start : A → A → Type 0) (same : V → V → Type 0) where
    abbrev folded : A → A → Type 0
    folded = SameFolded start (SameTaken same) (StepsTried tries)

    one_more : (v w : A × V) (x : Shown Tok Cx St) (z y : A) (s t : St) → SamePair folded same v w → tries v x (Ok z) s → tries w x (Ok y) t → folded z y
    one_more v w x z y s t e m n =
        let f = e.0 in
        record {
          first_start = f.first_start;
          second_start = f.second_start;
          starts = f.starts;
          first = f.first ++ (v.1, x) ∷ [];
          second = f.second ++ (w.1, x) ∷ [];
          are = same_items-more (SameTaken same) f.first f.second (v.1, x) (w.1, x) f.are (e.1, refl);
          folds_first = folds_left-more (StepsTried tries) f.first f.first_start v.0 z (v.1, x) f.folds_first (s, m);
          folds_second = folds_left-more (StepsTried tries) f.second f.second_start w.0 y (w.1, x) f.folds_second (t, n);
        }

    rules-agree : (r r' : Result A E) (p p' : ℕ) (s s' : St) → p ≡ p' → s ≡ s' → BothRule seen r r'
        → ((z y : A) → r ≡ Ok z → r' ≡ Ok y → folded z y) → (b c : Beginning Tok Cx St) (o q : Outcome A Er St)
        → Alike b c → TakenOrRefused seen r p s b o → TakenOrRefused seen r' p' s' c q → IsAnswer o.verdict
        → IsAnswer q.verdict
        → Agree folded o q
    rules-agree (Ok z) (Ok y) p p' s s' k d e h b c o q l m n a u = rw (m, n) (record { answer = h z y refl refl; end = l.start; state = d; events = refl; emitted = refl })
    rules-agree (Ok z) (Err i) p p' s s' k d e h b c o q l m n a u = absurd e
    rules-agree (Err i) (Ok y) p p' s s' k d e h b c o q l m n a u = absurd e
    rules-agree (Err i) (Err j) p p' s s' k d e h b c o q l m n a u = misses-agree folded {safe = ⊤} (cc (k, e)) l.start d (inr m) (inr n) a u

    tries-agree : TakesAlike seen tries start same → (from from' : ℕ) → from ≡ from' → (x y : Option (A × (V × ℕ)))
        → SameValue (SamePair folded (SamePlaced same)) x y → (b c : Beginning Tok Cx St) (o q : Outcome A Er St)
        → Alike b c → TriesSince seen tries from x b o → TriesSince seen tries from' y c q → IsAnswer o.verdict
        → IsAnswer q.verdict
        → Agree folded o q
    tries-agree alike_tries from from' d (Some x) (Some y) e b c o q l m n a z =
        let there : shown_since from' c ≡ shown_since from b = cc (d, l.tokens, l.start, l.context, l.state) in
        let other : tries (y.0, y.1.0) (shown_since from b) n.0 n.1 = subst (λ i. tries (y.0, y.1.0) i n.0 n.1) there n.2 in
        let pair : SamePair folded same (x.0, x.1.0) (y.0, y.1.0) = (e.0, e.1.0) in
        let k = alike_tries (x.0, x.1.0) (y.0, y.1.0) (shown_since from b) m.0 n.0 m.1 n.1 pair m.2 other in
        rules-agree m.0 n.0 x.1.1 y.1.1 m.1 n.1 e.1.1 k.1 k.0
        (λ u v f g. one_more (x.0, x.1.0) (y.0, y.1.0) (shown_since from b) u v m.1 n.1 pair
        (subst (λ r. tries (x.0, x.1.0) (shown_since from b) r m.1) f m.2)
        (subst (λ r. tries (y.0, y.1.0) (shown_since from b) r n.1) g other))
        b c o q l m.3 n.3 a z
    tries-agree alike_tries from from' d (Some x) None e b c o q l m n a z = absurd n
    tries-agree alike_tries from from' d None y e b c o q l m n a z = absurd m

    -- of no items yet
    none_tried : (a c : Option A) → SameValue start a c → SameValue folded a c
    none_tried (Some a) (Some c) e = record { first_start = a; second_start = c; starts = e; first = []; second = []; are = tt; folds_first = refl; folds_second = refl }
    none_tried (Some a) None e = tt
    none_tried None c e = tt

wanted-same : {A : Type 0} (same : A → A → Type 0) (w v : Bool) (a c : Option A) → SameValue same a c → SameValue same (where_wanted w a) (where_wanted v c)
wanted-same same true true a c e = e
wanted-same same true false (Some a) c e = tt
wanted-same same true false None c e = tt
wanted-same same false v a c e = tt

module _ {Tok Cx St E Er S V A : Type 0} (gives : S → Meaning Tok Cx St Er (Next S V))
    (begins : Meaning Tok Cx St Er S) (seen : E → Er) (tries : GivesShown Tok Cx St (A × V) (Result A E))
    (part : Meaning Tok Cx St Er A) where
  trying-ends : ItemsEnd begins gives → EndsAfterStart part → EndsAfterStart (FoldsTrying gives begins seen tries part)
  trying-ends h p b o m z =
      chained-ends part _ p
      (takes_all-ends (λ s. Placed (gives s)) begins (TakesTried seen tries b.start) (placed-end gives begins h)
      (taken-ends seen tries b.start))
      b o m.run z

  pub folds_tried-ends : ItemsEnd begins gives → EndsAfterStart part → EndsAfterStart (FoldsTried gives begins seen tries part)
  folds_tried-ends h p b o m z = chained-ends (Asked true (FoldsTrying gives begins seen tries part)) _ (asked-ends true _ (trying-ends h p)) (λ a. given-ends (where_wanted b.wanted a)) b o m.run z

  module _ (start : A → A → Type 0) (same : V → V → Type 0) (alike : S → S → Type 0)
      (alike_tries : TakesAlike seen tries start same) (h : ItemsAgree same alike begins gives)
      (p : Agreeing start part part) where
    trying-agree : Agreeing (folded seen tries start same) (FoldsTrying gives begins seen tries part) (FoldsTrying gives begins seen tries part)
    trying-agree b c o q l m n y z =
        let sa : A → A → Type 0 = folded seen tries start same in
        chained-agrees part part _ _ start sa p
        (λ a d e. takes_all-agree (λ s. Placed (gives s)) begins (TakesTried seen tries b.start) (TakesTried seen tries c.start) (SamePlaced same) alike sa (placed-agree gives begins same alike h)
        (λ a d v w e k f g i j x u r t. tries-agree seen tries start same alike_tries b.start c.start l.start
        (both a v) (both d w) (both_same sa (SamePlaced same) a d v w e k) f g i j x u.by_value r.by_value t)
        a d (none_tried seen tries start same a d e))
        b c o q l m.run n.run y z

    pub folds_tried-agree : Agreeing (SameFolded start (SameTaken same) (StepsTried tries)) (FoldsTried gives begins seen tries part) (FoldsTried gives begins seen tries part)
    folds_tried-agree b c o q l m n y z =
        let sa : A → A → Type 0 = SameFolded start (SameTaken same) (StepsTried tries) in
        chained-agrees (Asked true (FoldsTrying gives begins seen tries part)) (Asked true (FoldsTrying gives begins seen tries part)) _ _ sa sa (asked-agrees true _ sa trying-agree)
        (λ a d e. given-agrees sa (where_wanted b.wanted a) (where_wanted c.wanted d) (wanted-same sa b.wanted c.wanted a d e)) b c o q l m.run n.run y z
