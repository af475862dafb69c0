-- The laws of items with their numbers.
use Rattle.std.proofs.Common.{ℕ, ◌+◌, Bool, true, false, Option, Some, None, option_map, refl, subst}
use Rattle.chumsky_input.specs.declared.stop.Stop.TheVariants.{CountTooLarge}
use Rattle.chumsky_input.specs.Outcome.{Meaning, SameValue, EndsAfterStart, Agreeing}
use Rattle.chumsky_parser.specs.Chained.{Given}
use Rattle.chumsky_parser.specs.FailureLaws.{stops-ends, stops-agrees}
use Rattle.chumsky_parser.specs.Laws.{chained-ends, chained-agrees, given-ends, given-agrees}
use Rattle.chumsky_parser.specs.Items.{Next, More, End, SameNext, ItemsEnd, ItemsAgree}
use Rattle.chumsky_parser.specs.ItemsLaws.{after_step-ends, after_step-agrees}
use Rattle.chumsky_parser.specs.Progress.{ItemsMove}
use Rattle.chumsky_parser.specs.ProgressLaws.{chained-first, held-items}
use Rattle.chumsky_items.specs.Repeating.{fits}
use Rattle.chumsky_folds.specs.Enumerating.{BeginsAtZero, Numbered, Enumerates, SameNumbered, AlikeNumbered}

module _ {V : Type 0} (same : V → V → Type 0) where
  same_number : (n : ℕ) (v w : Option V) → SameValue same v w → SameValue (SameNumbered same) (option_map (λ x. (n, x)) v) (option_map (λ x. (n, x)) w)
  same_number n (Some v) (Some w) e = (refl, e)
  same_number n (Some v) None e = tt
  same_number n None w e = tt

module _ {Tok Cx St Er S V : Type 0} where
  numbered-ends : (fit : Bool) (n : ℕ) (v : Option V) (t : S) → EndsAfterStart (Numbered {Tok = Tok} {Cx = Cx} {St = St} {Er = Er} fit n v t)
  numbered-ends true n v t = given-ends (Some (More (option_map (λ x. (n, x)) v) (n + 1, t)))
  numbered-ends false n v t = stops-ends CountTooLarge

  module _ (same : V → V → Type 0) (alike : S → S → Type 0) where
    numbered-agrees : (fit : Bool) (n : ℕ) (v w : Option V) (s t : S) → SameValue same v w → alike s t
        → Agreeing (SameNext (SameNumbered same) (AlikeNumbered alike)) (Numbered {Tok = Tok} {Cx = Cx} {St = St} {Er = Er} fit n v s) (Numbered fit n w t)
    numbered-agrees true n v w s t e l =
        given-agrees (SameNext (SameNumbered same) (AlikeNumbered alike))
        (Some (More (option_map (λ x. (n, x)) v) (n + 1, s)))
        (Some (More (option_map (λ x. (n, x)) w) (n + 1, t))) (same_number same n v w e, (refl, l))
    numbered-agrees false n v w s t e l = stops-agrees _ (SameNext (SameNumbered same) (AlikeNumbered alike)) CountTooLarge

module _ {S : Type 0} (alike : S → S → Type 0) where
  at_zero : (s t : Option S) → SameValue alike s t → SameValue (AlikeNumbered alike) (option_map (λ x. (0, x)) s) (option_map (λ x. (0, x)) t)
  at_zero (Some s) (Some t) l = (refl, l)
  at_zero (Some s) None l = tt
  at_zero None t l = tt

module _ {Tok Cx St Er S V : Type 0} (gives : S → Meaning Tok Cx St Er (Next S V)) (begins : Meaning Tok Cx St Er S) where
  step-ends : ((s : S) → EndsAfterStart (gives s)) → (s : ℕ × S) → EndsAfterStart (Enumerates gives s)
  step-ends h s b o m = chained-ends (gives s.1) _ (h s.1) (after_step-ends (Numbered (fits s.0) s.0) (Given (Some End)) (numbered-ends (fits s.0) s.0) (given-ends (Some End))) b o m.step

  pub enumerates-end : ItemsEnd begins gives → ItemsEnd (BeginsAtZero begins) (Enumerates gives)
  enumerates-end h = record { begin = chained-ends begins _ h.begin (λ s. given-ends (option_map (λ t. (0, t)) s)); step = step-ends h.step }

  -- they move where the items do
  pub enumerates-move : ItemsMove begins gives → ItemsMove (BeginsAtZero begins) (Enumerates gives)
  enumerates-move h =
      held-items (λ t. (0, t)) begins gives (Enumerates gives)
      (λ s k b o m y. chained-first (gives s) _ k
      (after_step-ends (Numbered (fits 0) 0) (Given (Some End)) (numbered-ends (fits 0) 0) (given-ends (Some End)))
      b o m.step y)
      h

  module _ (same : V → V → Type 0) (alike : S → S → Type 0) where
    step-agrees : ((s t : S) → alike s t → Agreeing (SameNext same alike) (gives s) (gives t)) → (n : ℕ) (s t : S) → alike s t
        → Agreeing (SameNext (SameNumbered same) (AlikeNumbered alike)) (Enumerates gives (n, s)) (Enumerates gives (n, t))
    step-agrees h n s t l b c o q z m k =
        chained-agrees (gives s) (gives t) _ _ (SameNext same alike) (SameNext (SameNumbered same) (AlikeNumbered alike)) (h s t l)
        (after_step-agrees same alike (SameNext (SameNumbered same) (AlikeNumbered alike)) (Numbered (fits n) n) (Numbered (fits n) n) (Given (Some End)) (Given (Some End)) (numbered-agrees same alike (fits n) n)
        (given-agrees (SameNext (SameNumbered same) (AlikeNumbered alike)) (Some End) (Some End) tt)) b c o q z m.step k.step

    pub enumerates-agree : ItemsAgree same alike begins gives → ItemsAgree (SameNumbered same) (AlikeNumbered alike) (BeginsAtZero begins) (Enumerates gives)
    enumerates-agree h =
        record {
          begin =
              chained-agrees begins begins _ _ alike (AlikeNumbered alike) h.begin
              (λ s t l. given-agrees (AlikeNumbered alike) (option_map (λ x. (0, x)) s)
              (option_map (λ x. (0, x)) t) (at_zero alike s t l));
          step = λ s t l. subst (λ n. Agreeing (SameNext (SameNumbered same) (AlikeNumbered alike)) (Enumerates gives s) (Enumerates gives (n, t.1))) l.0 (step-agrees h.step s.0 s.1 t.1 l.1);
        }
