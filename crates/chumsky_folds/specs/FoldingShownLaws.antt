-- The laws of what is folded out of items by what is shown the run.
use Rattle.std.proofs.Common.{◌≡◌, Option, Some, None, [], ◌∷◌, ◌++◌, true, refl, subst, arith}
use Rattle.chumsky_input.specs.Outcome.{Meaning, SameValue, EndsAfterStart, Agreeing}
use Rattle.chumsky_parser.specs.Chained.{Chained, Asked, Given, SamePair, both}
use Rattle.chumsky_parser.specs.Laws.{chained-ends, chained-agrees, asked-ends, asked-agrees, given-ends, given-agrees}
use Rattle.chumsky_parser.specs.Items.{Next, FromMade, ItemsEnd, ItemsAgree}
use Rattle.chumsky_parser.specs.ItemsLaws.{from_made-ends, from_made-agree}
use Rattle.chumsky_parser.specs.Showing.{GivesShown, OnlyAnswers, SameShown}
use Rattle.chumsky_parser.specs.ShowingLaws.{shown-ends, shown-agrees}
use Rattle.chumsky_items.specs.ConsumersLaws.{same_items-more}
use Rattle.chumsky_folds.specs.Folding.{SameFolded}
use Rattle.chumsky_folds.specs.FoldingLaws.{folds_left-more}
use Rattle.chumsky_folds.specs.FoldingShown.{TakesAll, TakesShown, StepsShown, FoldsShown, SameTaken}

module _ {Tok Cx St Er S V A : Type 0} (gives : S → Meaning Tok Cx St Er (Next S V)) (begins : Meaning Tok Cx St Er S) where
  pub takes_all-ends : (more : Option A → Option V → Meaning Tok Cx St Er A) → ItemsEnd begins gives
      → ((a : Option A) (v : Option V) → EndsAfterStart (more a v)) → (a : Option A)
      → EndsAfterStart (TakesAll gives begins more a)
  takes_all-ends more h hm a b o m z = chained-ends (Asked true begins) _ (asked-ends true begins h.begin) (from_made-ends gives more Given h.step hm given-ends m.room a) b o m.run z

  pub takes_all-agree : (more more' : Option A → Option V → Meaning Tok Cx St Er A) (sv : V → V → Type 0) (alike : S → S → Type 0) (sa : A → A → Type 0) → ItemsAgree sv alike begins gives
      → ((a c : Option A) (v w : Option V) → SameValue sa a c → SameValue sv v w → Agreeing sa (more a v) (more' c w))
      → (a c : Option A) → SameValue sa a c
      → Agreeing sa (TakesAll gives begins more a) (TakesAll gives begins more' c)
  takes_all-agree more more' sv alike sa h hm a c e b d o q l m n y z =
      let even : n.room ≡ m.room = omega (arith, m.full, n.full) in
      chained-agrees (Asked true begins) (Asked true begins) _ _ alike sa (asked-agrees true begins alike h.begin)
      (from_made-agree gives gives more more' Given Given sv alike sa sa h.step hm (given-agrees sa) m.room a c e)
      b d o q l m.run
      (subst (λ r. Chained (Asked true begins) (FromMade gives more' Given r c) d q) even n.run) y z

-- both are the same, where all are there
pub both_same : {A V : Type 0} (sa : A → A → Type 0) (sv : V → V → Type 0) (a c : Option A) (v w : Option V) → SameValue sa a c → SameValue sv v w → SameValue (SamePair sa sv) (both a v) (both c w)
both_same sa sv (Some a) (Some c) (Some v) (Some w) e d = (e, d)
both_same sa sv (Some a) (Some c) (Some v) None e d = tt
both_same sa sv (Some a) (Some c) None w e d = tt
both_same sa sv (Some a) None (Some v) w e d = tt
both_same sa sv (Some a) None None w e d = tt
both_same sa sv None c v w e d = tt

module _ {Tok Cx St V A : Type 0} (folds : GivesShown Tok Cx St (A × V) A) (start : A → A → Type 0) (same : V → V → Type 0) where
  -- of no items yet
  pub not_taken : (a c : Option A) → SameValue start a c → SameValue (SameFolded start (SameTaken same) (StepsShown folds)) a c
  not_taken (Some a) (Some c) e = record { first_start = a; second_start = c; starts = e; first = []; second = []; are = tt; folds_first = refl; folds_second = refl }
  not_taken (Some a) None e = tt
  not_taken None c e = tt

  -- of one item more
  one_taken : (z w : A) → SameShown folds (SamePair (SameFolded start (SameTaken same) (StepsShown folds)) same) z w → SameFolded start (SameTaken same) (StepsShown folds) z w
  one_taken z w k =
      let f = k.alike.0 in
      record {
        first_start = f.first_start;
        second_start = f.second_start;
        starts = f.starts;
        first = f.first ++ (k.first.1, k.shown) ∷ [];
        second = f.second ++ (k.second.1, k.shown) ∷ [];
        are = same_items-more (SameTaken same) f.first f.second (k.first.1, k.shown) (k.second.1, k.shown) f.are (k.alike.1, refl);
        folds_first = folds_left-more (StepsShown folds) f.first f.first_start k.first.0 z (k.first.1, k.shown) f.folds_first (k.state, k.from_first);
        folds_second = folds_left-more (StepsShown folds) f.second f.second_start k.second.0 w (k.second.1, k.shown) f.folds_second (k.other_state, k.from_second);
      }

module _ {Tok Cx St Er S V A : Type 0} (gives : S → Meaning Tok Cx St Er (Next S V)) (begins : Meaning Tok Cx St Er S) (folds : GivesShown Tok Cx St (A × V) A) (part : Meaning Tok Cx St Er A) where
  pub folds_shown-ends : ItemsEnd begins gives → EndsAfterStart part → EndsAfterStart (FoldsShown gives begins folds part)
  folds_shown-ends h p b o m z = chained-ends part _ p (takes_all-ends gives begins (TakesShown folds b.start) h (λ a v. shown-ends folds b.start (both a v))) b o m.run z

  pub folds_shown-agree : OnlyAnswers folds → (start : A → A → Type 0) (same : V → V → Type 0) (alike : S → S → Type 0) → ItemsAgree same alike begins gives → Agreeing start part part
      → Agreeing (SameFolded start (SameTaken same) (StepsShown folds)) (FoldsShown gives begins folds part) (FoldsShown gives begins folds part)
  folds_shown-agree one start same alike h p b c o q l m n y z =
      let sa : A → A → Type 0 = SameFolded start (SameTaken same) (StepsShown folds) in
      chained-agrees part part _ _ start sa p
      (λ a d e. takes_all-agree gives begins (TakesShown folds b.start) (TakesShown folds c.start) same alike sa h
      (λ a d v w e k. shown-agrees folds one (SamePair sa same) sa (one_taken folds start same) b.start c.start
      l.start (both a v) (both d w) (both_same sa same a d v w e k))
      a d (not_taken folds start same a d e))
      b c o q l m.run n.run y z
