-- The laws of the items of one parser, and then those of another.
use Rattle.std.proofs.Common.{true, Option, Some, None, option_map, inl, inr}
use Rattle.chumsky_input.specs.Outcome.{Meaning, SameValue, EndsAfterStart, Agreeing}
use Rattle.chumsky_parser.specs.Chained.{Chained, Given, Asked}
use Rattle.chumsky_parser.specs.Choice.{SameEither}
use Rattle.chumsky_parser.specs.Laws.{chained-ends, chained-agrees, given-ends, given-agrees, asked-ends, asked-agrees}
use Rattle.chumsky_parser.specs.Items.{Next, More, End, SameNext, ItemsEnd, ItemsAgree}
use Rattle.chumsky_parser.specs.ItemsLaws.{after_step-ends, after_step-agrees}
use Rattle.chumsky_combinator.specs.declared.then_items.Stage.{Stage}
use Rattle.chumsky_combinator.specs.declared.then_items.Stage.TheVariants.{First, Second}
use Rattle.chumsky_combinator.specs.ThenItems.{SameStage, BeginsFirst, OfSecond, FirstOfSecond, GivesAt, GivesInTurn}
use Rattle.chumsky_parser.specs.Progress.{Moves, ItemsMove}
use Rattle.chumsky_parser.specs.ProgressLaws.{chained-first, held-items}

module _ {V : Type 0} (sa sb : V → V → Type 0) where
  by_first : (v w : Option V) → SameValue sa v w → SameValue (SameEither sa sb) v w
  by_first (Some v) (Some w) e = inl e
  by_first (Some v) None e = tt
  by_first None w e = tt

  by_second : (v w : Option V) → SameValue sb v w → SameValue (SameEither sa sb) v w
  by_second (Some v) (Some w) e = inr e
  by_second (Some v) None e = tt
  by_second None w e = tt

module _ {S T : Type 0} (la : S → S → Type 0) (lb : T → T → Type 0) where
  begun : (s t : Option S) → SameValue la s t → SameValue (SameStage la lb) (option_map First s) (option_map First t)
  begun (Some s) (Some t) l = l
  begun (Some s) None l = tt
  begun None t l = tt

module _ {Tok Cx St Er S T V : Type 0} (before : Meaning Tok Cx St Er S)
    (firsts : S → Meaning Tok Cx St Er (Next S V)) (begins : Meaning Tok Cx St Er T)
    (seconds : T → Meaning Tok Cx St Er (Next T V)) where
  of_second-ends : (step : Meaning Tok Cx St Er (Next T V)) → EndsAfterStart step → EndsAfterStart (OfSecond {S = S} step)
  of_second-ends step h = chained-ends step _ h (after_step-ends (λ v t. Given (Some (More v (Second t)))) (Given (Some End)) (λ v t. given-ends (Some (More v (Second t)))) (given-ends (Some End)))

  first_of-ends : ((t : T) → EndsAfterStart (seconds t)) → (t : Option T) → EndsAfterStart (FirstOfSecond firsts begins seconds t)
  first_of-ends h (Some t) = of_second-ends (seconds t) (h t)
  first_of-ends h None = λ b o m a. absurd m

  at-ends : ((s : S) → EndsAfterStart (firsts s)) → EndsAfterStart begins → ((t : T) → EndsAfterStart (seconds t)) → (at : Stage S T) → EndsAfterStart (GivesAt firsts begins seconds at)
  at-ends hs hb ht (First s) =
      chained-ends (firsts s) _ (hs s)
      (after_step-ends (λ v t. Given (Some (More v (First t))))
      (Chained (Asked true begins) (FirstOfSecond firsts begins seconds))
      (λ v t. given-ends (Some (More v (First t))))
      (chained-ends (Asked true begins) _ (asked-ends true begins hb) (first_of-ends ht)))
  at-ends hs hb ht (Second t) = of_second-ends (seconds t) (ht t)

  pub in_turn-end : ItemsEnd before firsts → ItemsEnd begins seconds → ItemsEnd (BeginsFirst before) (GivesInTurn firsts begins seconds)
  in_turn-end h k =
      record {
        begin = chained-ends before _ h.begin (λ s. given-ends (option_map First s));
        step = λ at b o m a. at-ends h.step k.begin k.step at b o m.step a;
      }

  module _ (sa sb : V → V → Type 0) (la : S → S → Type 0) (lb : T → T → Type 0) where
    of_second-agrees : (step step' : Meaning Tok Cx St Er (Next T V)) → Agreeing (SameNext sb lb) step step' → Agreeing (SameNext (SameEither sa sb) (SameStage la lb)) (OfSecond step) (OfSecond step')
    of_second-agrees step step' h =
        chained-agrees step step' _ _ (SameNext sb lb) (SameNext (SameEither sa sb) (SameStage la lb)) h
        (after_step-agrees sb lb (SameNext (SameEither sa sb) (SameStage la lb)) (λ v t. Given (Some (More v (Second t)))) (λ v t. Given (Some (More v (Second t)))) (Given (Some End)) (Given (Some End))
        (λ v w s t e l. given-agrees (SameNext (SameEither sa sb) (SameStage la lb)) (Some (More v (Second s))) (Some (More w (Second t))) (by_second sa sb v w e, l))
        (given-agrees (SameNext (SameEither sa sb) (SameStage la lb)) (Some End) (Some End) tt))

    first_of-agrees : ((s t : T) → lb s t → Agreeing (SameNext sb lb) (seconds s) (seconds t)) → (s t : Option T)
        → SameValue lb s t
        → Agreeing (SameNext (SameEither sa sb) (SameStage la lb)) (FirstOfSecond firsts begins seconds s)
        (FirstOfSecond firsts begins seconds t)
    first_of-agrees h (Some s) (Some t) l = of_second-agrees (seconds s) (seconds t) (h s t l)
    first_of-agrees h (Some s) None l = λ b c o q z m n. absurd n
    first_of-agrees h None t l = λ b c o q z m. absurd m

    at-agrees : ItemsAgree sa la before firsts → ItemsAgree sb lb begins seconds → (x y : Stage S T) → SameStage la lb x y
        → Agreeing (SameNext (SameEither sa sb) (SameStage la lb)) (GivesAt firsts begins seconds x) (GivesAt firsts begins seconds y)
    at-agrees h k (First s) (First t) l =
        chained-agrees (firsts s) (firsts t) _ _ (SameNext sa la) (SameNext (SameEither sa sb) (SameStage la lb)) (h.step s t l)
        (after_step-agrees sa la (SameNext (SameEither sa sb) (SameStage la lb)) (λ v t. Given (Some (More v (First t)))) (λ v t. Given (Some (More v (First t)))) (Chained (Asked true begins) (FirstOfSecond firsts begins seconds)) (Chained (Asked true begins) (FirstOfSecond firsts begins seconds))
        (λ v w s t e l. given-agrees (SameNext (SameEither sa sb) (SameStage la lb)) (Some (More v (First s))) (Some (More w (First t))) (by_first sa sb v w e, l))
        (chained-agrees (Asked true begins) (Asked true begins) _ _ lb (SameNext (SameEither sa sb) (SameStage la lb)) (asked-agrees true begins lb k.begin) (first_of-agrees k.step)))
    at-agrees h k (First s) (Second t) l = absurd l
    at-agrees h k (Second s) (First t) l = absurd l
    at-agrees h k (Second s) (Second t) l = of_second-agrees (seconds s) (seconds t) (k.step s t l)

    pub in_turn-agree : ItemsAgree sa la before firsts → ItemsAgree sb lb begins seconds → ItemsAgree (SameEither sa sb) (SameStage la lb) (BeginsFirst before) (GivesInTurn firsts begins seconds)
    in_turn-agree h k =
        record {
          begin = chained-agrees before before _ _ la (SameStage la lb) h.begin (λ s t l. given-agrees (SameStage la lb) (option_map First s) (option_map First t) (begun la lb s t l));
          step = λ x y l b c o q z m n. at-agrees h k x y l b c o q z m.step n.step;
        }

module _ {Tok Cx St Er S T V : Type 0} (before : Meaning Tok Cx St Er S)
    (firsts : S → Meaning Tok Cx St Er (Next S V)) (begins : Meaning Tok Cx St Er T)
    (seconds : T → Meaning Tok Cx St Er (Next T V)) (ends : ItemsEnd begins seconds) where
  second-ends : (t : Option T) → EndsAfterStart (FirstOfSecond firsts begins seconds t)
  second-ends (Some t) =
      chained-ends (seconds t) _ (ends.step t)
      (after_step-ends (λ v u. Given (Some (More v (Second u)))) (Given (Some End))
      (λ v u. given-ends (Some (More v (Second u)))) (given-ends (Some End)))
  second-ends None = λ b o m a. absurd m

  first-moves : (s : S) → Moves (firsts s) → Moves (GivesInTurn firsts begins seconds (First s))
  first-moves s h b o m y =
      chained-first (firsts s) _ h
      (after_step-ends (λ v t. Given (Some (More v (First t))))
      (Chained (Asked true begins) (FirstOfSecond firsts begins seconds))
      (λ v t. given-ends (Some (More v (First t))))
      (chained-ends (Asked true begins) _ (asked-ends true begins ends.begin) second-ends))
      b o m.step y

  -- the items of one parser, whose first step moves, and then those of another
  pub in_turn-move : ItemsMove before firsts → ItemsMove (BeginsFirst before) (GivesInTurn firsts begins seconds)
  in_turn-move h = held-items First before firsts (GivesInTurn firsts begins seconds) first-moves h
