-- The laws of what is folded out of items from the last one back.
use Rattle.std.proofs.Common.{◌≡◌, Option, Some, None, List, subst}
use Rattle.chumsky_input.specs.Outcome.{Meaning, SameValue, EndsAfterStart, Agreeing}
use Rattle.chumsky_parser.specs.Laws.{chained-ends, chained-agrees, given-ends, given-agrees}
use Rattle.chumsky_parser.specs.Items.{Next, ItemsEnd, ItemsAgree}
use Rattle.chumsky_items.specs.Consumers.{SameContents}
use Rattle.chumsky_items.specs.ConsumersLaws.{collects-ends, collects-agree}
use Rattle.chumsky_folds.specs.FoldingBack.{FoldsRight, FoldsHeld, FoldsBack, SameFoldedBack}

module _ {V C A : Type 0} (holds : List V → C → Type 0)
    (one_list : (xs ys : List V) (c : C) → holds xs c → holds ys c → xs ≡ ys) (steps : V → A → A → Type 0)
    (same : V → V → Type 0) (same_start : A → A → Type 0) where
  folded_back : (c d : Option C) (a e z w : Option A) → SameValue (SameContents same holds) c d
      → SameValue same_start a e → FoldsHeld holds steps c a z → FoldsHeld holds steps d e w
      → SameValue (SameFoldedBack same_start same steps) z w
  folded_back c d a e (Some z) None h s f g = tt
  folded_back c d a e None w h s f g = tt
  folded_back (Some c) (Some d) (Some a) (Some e) (Some z) (Some w) h s f g =
      record {
        first_start = a;
        second_start = e;
        starts = s;
        first = h.first;
        second = h.second;
        are = h.are;
        folds_first = subst (λ xs. FoldsRight steps a xs z) (one_list f.0 h.first c f.1 h.holds_first) f.2;
        folds_second = subst (λ xs. FoldsRight steps e xs w) (one_list g.0 h.second d g.1 h.holds_second) g.2;
      }
  folded_back (Some c) (Some d) (Some a) None (Some z) (Some w) h s f g = let no : ⊥ = cc in absurd no
  folded_back (Some c) (Some d) None e (Some z) (Some w) h s f g = let no : ⊥ = cc in absurd no
  folded_back (Some c) None a e (Some z) (Some w) h s f g = let no : ⊥ = cc in absurd no
  folded_back None d a e (Some z) (Some w) h s f g = let no : ⊥ = cc in absurd no

module _ {Tok Cx St Er S V C A : Type 0} (gives : S → Meaning Tok Cx St Er (Next S V))
    (begins : Meaning Tok Cx St Er S) (holds : List V → C → Type 0) (quiet : Type 0) (part : Meaning Tok Cx St Er A)
    (steps : V → A → A → Type 0) where
  pub folds_back-ends : ItemsEnd begins gives → EndsAfterStart part → EndsAfterStart (FoldsBack gives begins holds quiet part steps)
  folds_back-ends h p = chained-ends _ _ (collects-ends gives begins holds quiet h) (λ c. chained-ends part _ p (λ a b o m z. given-ends m.value b o m.given z))

  pub folds_back-agree : ((xs ys : List V) (c : C) → holds xs c → holds ys c → xs ≡ ys)
      → (same : V → V → Type 0) (same_start : A → A → Type 0) (alike : S → S → Type 0)
      → ItemsAgree same alike begins gives → Agreeing same_start part part
      → Agreeing (SameFoldedBack same_start same steps) (FoldsBack gives begins holds quiet part steps) (FoldsBack gives begins holds quiet part steps)
  folds_back-agree one_list same same_start alike h p =
      chained-agrees _ _ _ _ (SameContents same holds) (SameFoldedBack same_start same steps) (collects-agree gives begins holds quiet same alike h)
      (λ c d e. chained-agrees part part _ _ same_start (SameFoldedBack same_start same steps) p
      (λ a f s b k o q l m n z y. given-agrees (SameFoldedBack same_start same steps) m.value n.value
      (folded_back holds one_list steps same same_start c d a f m.value n.value e s m.is n.is) b k o q l m.given
      n.given z y))
