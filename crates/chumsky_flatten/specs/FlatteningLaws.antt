-- The laws of the items of each item.
use Rattle.std.proofs.Common.{◌≡◌, ℕ, zero, suc, Option, Some, None, option_map, [], ◌++◌, refl, sym, ap, subst, arith, inl, inr}
use Rattle.chumsky_input.specs.declared.stop.Stop.TheVariants.{CountTooLarge}
use Rattle.chumsky_input.specs.Outcome.{Meaning, Beginning, Outcome, Verdict, Yes, No, Halt, Clash, SameValue, SameAnswer, Alike, Agree, EndsAfterStart, Agreeing, IsAnswer}
use Rattle.chumsky_parser.specs.Chained.{Given}
use Rattle.chumsky_parser.specs.Choice.{ElseFrom, AttemptFrom, OrElse}
use Rattle.chumsky_parser.specs.ChoiceLaws.{or_else-ends}
use Rattle.chumsky_parser.specs.Failure.{SaysNo, Stops}
use Rattle.chumsky_parser.specs.FailureLaws.{stops-ends, stops-agrees, no-ends}
use Rattle.chumsky_parser.specs.Items.{Next, More, End, AfterStep, SameNext, ItemsEnd, ItemsAgree}
use Rattle.chumsky_parser.specs.ItemsLaws.{after_step-ends, after_step-agrees}
use Rattle.chumsky_parser.specs.Laws.{chained-ends, chained-agrees, given-ends, given-agrees}
use Rattle.chumsky_parser.specs.Progress.{Moves, ItemsMove}
use Rattle.chumsky_parser.specs.ProgressLaws.{no-moves, chained-first, or_else-moves, held-items}
use Rattle.chumsky_flatten.specs.Collections.{CollectionHas, SameItem, AsMany}
use Rattle.chumsky_flatten.specs.Flattening.{BeginsInside, FirstElse, Inside, FirstWithin, FirstOfNext, InHandOrNext, Flattens, SameInHand, AlikeInside}
use Rattle.chumsky_flatten.specs.FlatteningSteps.{FirstSteps, first-unlisted}
use Rattle.chumsky_flatten.specs.IntoItemsLaws.{fresh-same, rest-more, item-same, makes_item-ends, makes_item-moves, makes_item-agrees}

-- two parts that agree, a no of which is gone back from
module _ {Tok Cx St Mk Er V : Type 0} (back : St → Mk → St) (safe : Type 0) (mark : Mk)
    (first first' : Meaning Tok Cx St Er V) (same : V → V → Type 0) (h : Agreeing same first first')
    (b c : Beginning Tok Cx St) (o q p r : Outcome V Er St) (alike : Alike b c) (m : first b p) (n : first' c r) where
  undone_agree : (v w : Verdict V Er) → p.verdict ≡ v → r.verdict ≡ w → ElseFrom back safe mark v SaysNo b p o
      → ElseFrom back safe mark w SaysNo c r q → IsAnswer o.verdict → IsAnswer q.verdict → Agree same o q
  undone_agree (Yes v) (Yes w) pv rw' e d a z = rw (e, d) (h b c p r alike m n (rw pv tt) (rw rw' tt))
  undone_agree (Yes v) No pv rw' e d a z =
      let k : SameAnswer same p.verdict r.verdict = (h b c p r alike m n (rw pv tt) (rw rw' tt)).answer in absurd (rw (pv, rw') at k)
  undone_agree (Yes v) (Halt s) pv rw' e d a z =
      let k : IsAnswer r.verdict = subst (λ (x : Outcome V Er St). IsAnswer x.verdict) d z in absurd (rw rw' at k)
  undone_agree (Yes v) (Clash s) pv rw' e d a z =
      let k : IsAnswer r.verdict = subst (λ (x : Outcome V Er St). IsAnswer x.verdict) d z in absurd (rw rw' at k)
  undone_agree No (Yes w) pv rw' e d a z =
      let k : SameAnswer same p.verdict r.verdict = (h b c p r alike m n (rw pv tt) (rw rw' tt)).answer in absurd (rw (pv, rw') at k)
  undone_agree No No pv rw' (inl x) d a z = absurd (subst IsAnswer x.1 a)
  undone_agree No No pv rw' (inr k) (inl x) a z = absurd (subst IsAnswer x.1 z)
  undone_agree No No pv rw' (inr k) (inr l) a z =
      let g : Agree same p r = h b c p r alike m n (rw pv tt) (rw rw' tt) in
      let first_no : Outcome V Er St = record { verdict = No; end = b.start; state = back p.state mark; events = p.events ++ []; emitted = [] } in
      let second_no : Outcome V Er St = record { verdict = No; end = c.start; state = back r.state mark; events = r.events ++ []; emitted = [] } in
      let left : o ≡ first_no = subst (λ (x : Outcome V Er St). o ≡ record x { events = p.events ++ x.events }) k.1 k.2 in
      let right : q ≡ second_no = subst (λ (x : Outcome V Er St). q ≡ record x { events = r.events ++ x.events }) l.1 l.2 in
      let joined : Agree same first_no second_no = record { answer = tt; end = alike.start; state = ap (λ x. back x mark) g.state; events = ap (λ es. es ++ []) g.events; emitted = refl } in
      rw (left, right) joined
  undone_agree No (Halt s) pv rw' e d a z =
      let k : IsAnswer r.verdict = subst (λ (x : Outcome V Er St). IsAnswer x.verdict) d z in absurd (rw rw' at k)
  undone_agree No (Clash s) pv rw' e d a z =
      let k : IsAnswer r.verdict = subst (λ (x : Outcome V Er St). IsAnswer x.verdict) d z in absurd (rw rw' at k)
  undone_agree (Halt s) w pv rw' e d a z =
      let k : IsAnswer p.verdict = subst (λ (x : Outcome V Er St). IsAnswer x.verdict) e a in absurd (rw pv at k)
  undone_agree (Clash s) w pv rw' e d a z =
      let k : IsAnswer p.verdict = subst (λ (x : Outcome V Er St). IsAnswer x.verdict) e a in absurd (rw pv at k)

module _ {Tok Cx St Mk Er V : Type 0} (mark : St → Mk) (back : St → Mk → St) (safe : Type 0) (first first' : Meaning Tok Cx St Er V) (same : V → V → Type 0) where
  undone-agrees : Agreeing same first first' → Agreeing same (OrElse mark back safe first SaysNo) (OrElse mark back safe first' SaysNo)
  undone-agrees h b c o q alike m n a z =
      elim m.cases [
        | inl r ↦ absurd (subst IsAnswer r.1 a)
        | inr t ↦ elim n.cases [
          | inl r ↦ absurd (subst IsAnswer r.1 z)
          | inr u ↦
              let v : AttemptFrom back safe (mark b.state) first' SaysNo c q = subst (λ s. AttemptFrom back safe (mark s) first' SaysNo c q) (sym alike.state) u in
              undone_agree back safe (mark b.state) first first' same h b c o q t.attempt v.attempt alike t.meant v.meant t.attempt.verdict v.attempt.verdict refl refl t.then_else v.then_else a z
        ]
      ]

module _ {O J A : Type 0} (makes : O → J → Type 0) (nexts : J → Option A → J → Type 0) where
  -- an iterator over an empty collection ends at once
  pub ends_at_once : (o : O) (h : CollectionHas makes nexts o []) → nexts h.0 None h.2.0
  ends_at_once o h = subst (λ t. nexts t None h.2.0) (sym h.2.1.1) h.2.1.2

module _ {Tok Cx St Mk Er S O J A : Type 0} (mark : St → Mk) (back : St → Mk → St) (safe : Type 0)
    (makes : O → J → Type 0) (nexts : J → Option A → J → Type 0) (begins : Meaning Tok Cx St Er S)
    (gives : S → Meaning Tok Cx St Er (Next S O)) where
  inside-ends : ((s : S) → EndsAfterStart (gives s)) → (s : S) → EndsAfterStart (Inside mark back safe gives s)
  inside-ends h s = or_else-ends mark back safe (gives s) SaysNo (h s) no-ends

  first_else-ends : (else : Meaning Tok Cx St Er (Next (S × Option J) A)) → EndsAfterStart else → (v : Option O) (s : S) → EndsAfterStart (FirstElse makes nexts else v s)
  first_else-ends else h (Some c) s b o (inl m) a = given-ends (Some (More (Some m.0) (s, Some m.2))) b o m.5 a
  first_else-ends else h (Some c) s b o (inr m) a = h b o m.1 a
  first_else-ends else h None s b o m a = absurd m

  after_first-ends : (else : S → Meaning Tok Cx St Er (Next (S × Option J) A)) → ((s : S) → EndsAfterStart (else s))
      → (v : Option (Next S O)) → EndsAfterStart (AfterStep (λ c t. FirstElse makes nexts (else t) c t) (Given (Some End)) v)
  after_first-ends else h = after_step-ends (λ c t. FirstElse makes nexts (else t) c t) (Given (Some End)) (λ c t. first_else-ends (else t) (h t) c t) (given-ends (Some End))

  first_steps-ends : ((s : S) → EndsAfterStart (gives s)) → (room : ℕ) (s : S) → EndsAfterStart (FirstSteps mark back safe makes nexts gives room s)
  first_steps-ends h zero s = chained-ends (Inside mark back safe gives s) _ (inside-ends h s) (after_first-ends (λ _. Stops CountTooLarge) (λ _. stops-ends CountTooLarge))
  first_steps-ends h (suc room) s = chained-ends (Inside mark back safe gives s) _ (inside-ends h s) (after_first-ends (FirstSteps mark back safe makes nexts gives room) (first_steps-ends h room))

  -- they move where the first step inside does
  first_steps-move : ((s : S) → EndsAfterStart (gives s)) → (room : ℕ) (s : S) → Moves (gives s) → Moves (FirstSteps mark back safe makes nexts gives room s)
  first_steps-move h zero s k =
      chained-first (Inside mark back safe gives s) _ (or_else-moves mark back safe (gives s) SaysNo k no-moves) (after_first-ends (λ _. Stops CountTooLarge) (λ _. stops-ends CountTooLarge))
  first_steps-move h (suc room) s k =
      chained-first (Inside mark back safe gives s) _ (or_else-moves mark back safe (gives s) SaysNo k no-moves)
      (after_first-ends (FirstSteps mark back safe makes nexts gives room) (first_steps-ends h room))

  first-ends : ((s : S) → EndsAfterStart (gives s)) → (s : S) → EndsAfterStart (FirstOfNext mark back safe makes nexts gives s)
  first-ends h s b o m a = first_steps-ends h m.room s b o (first-unlisted mark back safe makes nexts gives m.room s b o m.first) a

  in_hand-ends : ((s : S) → EndsAfterStart (gives s)) → (held : Option J) (s : S) → EndsAfterStart (InHandOrNext mark back safe makes nexts gives held s)
  in_hand-ends h None s b o m a = first-ends h s b o m a
  in_hand-ends h (Some j) s b o (inl m) a = given-ends (Some (More (Some m.0) (s, Some m.1))) b o m.3 a
  in_hand-ends h (Some j) s b o (inr m) a = first-ends h s b o m.2 a

  pub flattens-end : ItemsEnd begins gives → ItemsEnd (BeginsInside begins) (Flattens mark back safe makes nexts gives)
  flattens-end h =
      record {
        begin = chained-ends begins _ h.begin (λ s. given-ends (option_map (λ t. (t, None)) s));
        step = λ s b o m a. makes_item-ends (InHandOrNext mark back safe makes nexts gives s.1 s.0) (in_hand-ends h.step s.1 s.0) b o m.step a;
      }

  pub flattens-move : ItemsEnd begins gives → ItemsMove begins gives → ItemsMove (BeginsInside begins) (Flattens mark back safe makes nexts gives)
  flattens-move h k =
      held-items (λ t. (t, None)) begins gives (Flattens mark back safe makes nexts gives)
      (λ s f b o m y. makes_item-moves (InHandOrNext mark back safe makes nexts gives None s)
      (λ c q n z. first_steps-move h.step n.room s f c q (first-unlisted mark back safe makes nexts gives n.room s c q n.first) z) b o m.step y)
      k

  module _ (same : O → O → Type 0) (alike : S → S → Type 0) (many : AsMany makes nexts same) where
    abbrev Same : Next (S × Option J) A → Next (S × Option J) A → Type 0
    Same = SameNext (SameItem makes nexts same) (AlikeInside makes nexts alike same)

    -- of two collections that are the same, one has an item and the other is empty
    other_has : (x y : O) → same x y → (i k : J) (v : A) → makes x i → nexts i (Some v) k → CollectionHas makes nexts y [] → ⊥
    other_has x y e i k v m n h = many i h.0 k h.2.0 (Some v) None (fresh-same makes nexts same x y i h.0 e m h.1) n (ends_at_once makes nexts y h)

    one_has : (x y : O) → same x y → (j l : J) (v : A) → makes y j → nexts j (Some v) l → CollectionHas makes nexts x [] → ⊥
    one_has x y e j l v m n h = many h.0 j h.2.0 l None (Some v) (fresh-same makes nexts same x y h.0 j e h.1 m) (ends_at_once makes nexts x h) n

    first_else-agrees : (else else' : Meaning Tok Cx St Er (Next (S × Option J) A)) → Agreeing Same else else'
        → (v w : Option O) (s t : S) → SameValue same v w → alike s t
        → Agreeing Same (FirstElse makes nexts else v s) (FirstElse makes nexts else' w t)
    first_else-agrees else else' h (Some x) (Some y) s t e l b c o q z (inl m) (inl n) =
        let fresh = fresh-same makes nexts same x y m.1 n.1 e m.3 n.3 in
        given-agrees Same (Some (More (Some m.0) (s, Some m.2))) (Some (More (Some n.0) (t, Some n.2)))
        (item-same makes nexts same m.1 n.1 m.2 n.2 m.0 n.0 fresh m.4 n.4, (l, rest-more makes nexts same m.1 n.1 m.2 n.2 m.0 n.0 fresh m.4 n.4)) b c o q z m.5 n.5
    first_else-agrees else else' h (Some x) (Some y) s t e l b c o q z (inl m) (inr n) = absurd (other_has x y e m.1 m.2 m.0 m.3 m.4 n.0)
    first_else-agrees else else' h (Some x) (Some y) s t e l b c o q z (inr m) (inl n) = absurd (one_has x y e n.1 n.2 n.0 n.3 n.4 m.0)
    first_else-agrees else else' h (Some x) (Some y) s t e l b c o q z (inr m) (inr n) = h b c o q z m.1 n.1
    first_else-agrees else else' h (Some x) None s t e l b c o q z m n = absurd n
    first_else-agrees else else' h None w s t e l b c o q z m n = absurd m

    first_steps-agree : ((s t : S) → alike s t → Agreeing (SameNext same alike) (gives s) (gives t))
        → (room : ℕ) (s t : S) → alike s t
        → Agreeing Same (FirstSteps mark back safe makes nexts gives room s) (FirstSteps mark back safe makes nexts gives room t)
    first_steps-agree h zero s t l =
        chained-agrees (Inside mark back safe gives s) (Inside mark back safe gives t) _ _ (SameNext same alike) Same (undone-agrees mark back safe (gives s) (gives t) (SameNext same alike) (h s t l))
        (after_step-agrees same alike Same (FirstElse makes nexts (Stops CountTooLarge)) (FirstElse makes nexts (Stops CountTooLarge)) (Given (Some End)) (Given (Some End))
        (first_else-agrees (Stops CountTooLarge) (Stops CountTooLarge) (stops-agrees _ Same CountTooLarge)) (given-agrees Same (Some End) (Some End) tt))
    first_steps-agree h (suc room) s t l =
        chained-agrees (Inside mark back safe gives s) (Inside mark back safe gives t) _ _ (SameNext same alike) Same (undone-agrees mark back safe (gives s) (gives t) (SameNext same alike) (h s t l))
        (after_step-agrees same alike Same (λ v y. FirstElse makes nexts (FirstSteps mark back safe makes nexts gives room y) v y) (λ v y. FirstElse makes nexts (FirstSteps mark back safe makes nexts gives room y) v y) (Given (Some End)) (Given (Some End))
        (λ v w x y e k. first_else-agrees (FirstSteps mark back safe makes nexts gives room x)
        (FirstSteps mark back safe makes nexts gives room y) (first_steps-agree h room x y k) v w x y e k)
        (given-agrees Same (Some End) (Some End) tt))

    first-agrees : ((s t : S) → alike s t → Agreeing (SameNext same alike) (gives s) (gives t)) → (s t : S)
        → alike s t
        → Agreeing Same (FirstOfNext mark back safe makes nexts gives s) (FirstOfNext mark back safe makes nexts gives t)
    first-agrees h s t l b c o q z m n =
        let even : n.room ≡ m.room = omega (arith, m.full, n.full) in
        first_steps-agree h m.room s t l b c o q z
        (first-unlisted mark back safe makes nexts gives m.room s b o m.first)
        (first-unlisted mark back safe makes nexts gives m.room t c q
        (subst (λ k. FirstWithin mark back safe makes nexts gives k t c q) even n.first))

    in_hand-agrees : ((s t : S) → alike s t → Agreeing (SameNext same alike) (gives s) (gives t)) → (i j : Option J) (s t : S) → SameInHand makes nexts same i j → alike s t
        → Agreeing Same (InHandOrNext mark back safe makes nexts gives i s) (InHandOrNext mark back safe makes nexts gives j t)
    in_hand-agrees h None None s t e l b c o q z m n = first-agrees h s t l b c o q z m n
    in_hand-agrees h None (Some j) s t e l b c o q z m n = absurd e
    in_hand-agrees h (Some i) None s t e l b c o q z m n = absurd e
    in_hand-agrees h (Some i) (Some j) s t e l b c o q z (inl m) (inl n) =
        given-agrees Same (Some (More (Some m.0) (s, Some m.1))) (Some (More (Some n.0) (t, Some n.1)))
        (item-same makes nexts same i j m.1 n.1 m.0 n.0 e m.2 n.2, (l, rest-more makes nexts same i j m.1 n.1 m.0 n.0 e m.2 n.2)) b c o q z m.3 n.3
    in_hand-agrees h (Some i) (Some j) s t e l b c o q z (inl m) (inr n) = absurd (many i j m.1 n.0 (Some m.0) None e m.2 n.1)
    in_hand-agrees h (Some i) (Some j) s t e l b c o q z (inr m) (inl n) = absurd (many i j m.0 n.1 None (Some n.0) e m.1 n.2)
    in_hand-agrees h (Some i) (Some j) s t e l b c o q z (inr m) (inr n) = first-agrees h s t l b c o q z m.2 n.2

    begun : (s t : Option S) → SameValue alike s t → SameValue (AlikeInside makes nexts alike same) (option_map (λ x. (x, None)) s) (option_map (λ x. (x, None)) t)
    begun (Some s) (Some t) l = (l, tt)
    begun (Some s) None l = tt
    begun None t l = tt

    pub flattens-agree : ItemsAgree same alike begins gives
        → ItemsAgree (SameItem makes nexts same) (AlikeInside makes nexts alike same) (BeginsInside begins)
        (Flattens mark back safe makes nexts gives)
    flattens-agree h =
        record {
          begin =
              chained-agrees begins begins _ _ alike (AlikeInside makes nexts alike same) h.begin
              (λ s t l. given-agrees (AlikeInside makes nexts alike same) (option_map (λ x. (x, None)) s)
              (option_map (λ x. (x, None)) t) (begun s t l));
          step =
              λ s t l b c o q z m n. makes_item-agrees (SameItem makes nexts same)
              (AlikeInside makes nexts alike same) (InHandOrNext mark back safe makes nexts gives s.1 s.0)
              (InHandOrNext mark back safe makes nexts gives t.1 t.0)
              (in_hand-agrees h.step s.1 t.1 s.0 t.0 l.1 l.0) b c o q z m.step n.step;
        }
