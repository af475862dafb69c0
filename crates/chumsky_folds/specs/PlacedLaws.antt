-- The laws of items with the places before their steps.
use Rattle.std.proofs.Common.{◌≡◌, ℕ, Option, Some, None, option_map}
use Rattle.chumsky_input.specs.Outcome.{Meaning, SameValue}
use Rattle.chumsky_parser.specs.Chained.{Given}
use Rattle.chumsky_parser.specs.Laws.{chained-ends, chained-agrees, given-ends, given-agrees}
use Rattle.chumsky_parser.specs.Items.{Next, More, End, SameNext, ItemsEnd, ItemsAgree}
use Rattle.chumsky_parser.specs.ItemsLaws.{after_step-ends, after_step-agrees}
use Rattle.chumsky_folds.specs.Placed.{PairedWith, Placed, SamePlaced}

same_place : {V : Type 0} (same : V → V → Type 0) (m n : ℕ) → m ≡ n → (v w : Option V) → SameValue same v w → SameValue (SamePlaced same) (option_map (λ x. (x, m)) v) (option_map (λ x. (x, n)) w)
same_place same m n k (Some v) (Some w) e = (e, k)
same_place same m n k (Some v) None e = tt
same_place same m n k None w e = tt

module _ {Tok Cx St Er S V : Type 0} (gives : S → Meaning Tok Cx St Er (Next S V)) (begins : Meaning Tok Cx St Er S) where
  pub placed-end : ItemsEnd begins gives → ItemsEnd begins (λ s. Placed (gives s))
  placed-end h =
      record {
        begin = h.begin;
        step =
            λ s b o m. chained-ends (gives s) _ (h.step s)
            (after_step-ends (PairedWith b.start) (Given (Some End))
            (λ v t. given-ends (Some (More (option_map (λ x. (x, b.start)) v) t))) (given-ends (Some End)))
            b o m.run;
      }

  pub placed-agree : (same : V → V → Type 0) (alike : S → S → Type 0) → ItemsAgree same alike begins gives → ItemsAgree (SamePlaced same) alike begins (λ s. Placed (gives s))
  placed-agree same alike h =
      record {
        begin = h.begin;
        step = λ s t l b c o q z m n.
            let other : Next S (V × ℕ) → Next S (V × ℕ) → Type 0 = SameNext (SamePlaced same) alike in
            chained-agrees (gives s) (gives t) _ _ (SameNext same alike) other (h.step s t l)
            (after_step-agrees same alike other (PairedWith b.start) (PairedWith c.start) (Given (Some End)) (Given (Some End))
            (λ v w x y e k. given-agrees other (Some (More (option_map (λ i. (i, b.start)) v) x)) (Some (More (option_map (λ i. (i, c.start)) w) y)) (same_place same b.start c.start z.start v w e, k))
            (given-agrees other (Some End) (Some End) tt)) b c o q z m.run n.run;
      }
