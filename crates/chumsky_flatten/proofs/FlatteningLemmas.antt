-- What is left of the items of each item.
use Rattle.std.proofs.Common.{◌≡◌, ℕ, zero, suc, ◌+◌, ◌-◌, ◌^◌, Bool, true, false, Option, Some, None, [], ◌∙◌, ap, refl, sym, subst, arith, Result, Ok, Err, inl, inr}
use Rattle.std.specs.Prelude.{MatchOption}
use Rattle.chumsky_input.specs.declared.stop.Fault.{Fault}
use Rattle.chumsky_input.specs.declared.stop.Fault.TheVariants as fault
use Rattle.chumsky_input.specs.declared.stop.Stop.TheVariants.{Memory, CountTooLarge}
use Rattle.chumsky_input.specs.Held.{Held, Marks}
use Rattle.chumsky_input.specs.Outcome.{Meaning}
use Rattle.chumsky_input.specs.Run.{Ran, begin, marked_here, gone_back}
use Rattle.chumsky_parser.specs.Chained.{Given}
use Rattle.chumsky_parser.specs.Choice.{OrElse}
use Rattle.chumsky_parser.specs.Failure.{SaysNo}
use Rattle.chumsky_parser.specs.Items.{Next, More, End, with_item}
use Rattle.chumsky_parser.proofs.ChainedLemmas.{failed, chained, ran-weaker, ran-given}
use Rattle.chumsky_parser.proofs.ChoiceLemmas.{ran-first, ran-second, ran-unmarked, ran-unrestored}
use Rattle.chumsky_parser.proofs.FailureLemmas.{ran-no, ran-stops}
use Rattle.chumsky_flatten.specs.Collections.{CollectionHas}
use Rattle.chumsky_flatten.specs.Flattening.{FirstElse, Inside, FirstOfNext, InHandOrNext, Flattens, with_rest}
use Rattle.chumsky_flatten.specs.FlatteningSteps.{FirstSteps, first-listed}
use Rattle.chumsky_flatten.specs.IntoItems.{MakesItem}
use Rattle.chumsky_flatten.proofs.IntoItemsLemmas.{makes-emit, makes-passed, makes-ended, makes-failed}

module _ {Tok Cx St Mk Er S O : Type 0} {merged : Er → Er → Er} {safe : Type 0} (mark : St → Mk) (back : St → Mk → St)
    (quiet : Type 0) {step : Meaning Tok Cx St Er (Next S O)} {wanted : Bool} {old : Held Tok Cx St Er} where
  -- the refusal of a mark
  pub inside-unmarked : {y : Result (Option (Next S O)) Fault} → (quiet → ⊥) → y ≡ Err (fault.Stop Memory) → Ran merged safe (OrElse mark back quiet step SaysNo) wanted old old y
  inside-unmarked may d = rw d (ran-unmarked merged safe mark back quiet _ _ wanted old old refl may)

  module _ {mid : Held Tok Cx St Er} {x : Result (Option (Next S O)) Fault} (h : Ran merged safe step wanted old mid x) where
    stands : (x ≡ Err fault.Fail → ⊥) → Ran merged safe (OrElse mark back quiet step SaysNo) wanted old mid x
    stands n = ran-first merged safe mark back quiet _ _ wanted old mid x h n

    -- an answer that stands; and a no, which is gone back from or not
    pub inside-stopped : {f : Fault} {y : Result (Option (Next S O)) Fault} → x ≡ Err f → (f ≡ fault.Fail → ⊥) → y ≡ Err f → Ran merged safe (OrElse mark back quiet step SaysNo) wanted old mid y
    inside-stopped {f} d n z = rw z (rw d at (stands (λ e. n (cc (d, e)))))

    pub inside-unrestored : {new : Held Tok Cx St Er} {y : Result (Option (Next S O)) Fault} → x ≡ Err fault.Fail
        → new ≡ mid → (quiet → ⊥) → y ≡ Err (fault.Stop Memory)
        → Ran merged safe (OrElse mark back quiet step SaysNo) wanted old new y
    inside-unrestored {new} d p may z = rw z (ran-unrestored merged safe mark back quiet _ _ wanted old mid new (rw d at h) p may)

    pub inside-no : {m : Marks Tok Mk} {new : Held Tok Cx St Er} {y : Result (Option (Next S O)) Fault}
        → x ≡ Err fault.Fail → m ≡ marked_here mark old → new ≡ gone_back back mid m → y ≡ Err fault.Fail
        → Ran merged safe (OrElse mark back quiet step SaysNo) wanted old new y
    inside-no {m} {new} d p q z = rw z (ran-second merged safe mark back quiet _ _ wanted old m mid new new _ (rw d at h) p q ran-no)

module _ {S O : Type 0} (t : S) where
  not_no : (i : Option O) → with_item t (Ok i) ≡ Err fault.Fail → ⊥
  not_no (Some v) e = cc
  not_no None e = cc

module _ {Tok Cx St Mk Er S O : Type 0} {merged : Er → Er → Er} {safe : Type 0} (mark : St → Mk) (back : St → Mk → St)
    (quiet : Type 0) {step : Meaning Tok Cx St Er (Next S O)} {wanted : Bool} {old mid : Held Tok Cx St Er} where
  pub inside-given : (t : S) (i : Option O) {r : Result (Option O) Fault}
      → Ran merged safe step wanted old mid (with_item t r) → r ≡ Ok i
      → Ran merged safe (OrElse mark back quiet step SaysNo) wanted old mid (with_item t (Ok i))
  inside-given t i {r} h e = stands mark back quiet (subst (λ z. Ran merged safe step wanted old mid (with_item t z)) e h) (not_no t i)

module _ {Tok Cx St Er S O J A : Type 0} {merged : Er → Er → Er} {safe : Type 0} (makes : O → J → Type 0)
    (nexts : J → Option A → J → Type 0) {wanted : Bool} {now : Held Tok Cx St Er}
    (else : Meaning Tok Cx St Er (Next (S × Option J) A)) (s : S) where
  ran-first_item : (c : O) (x : A) (j k : J) → makes c j → nexts j (Some x) k → Ran merged safe (FirstElse makes nexts else (Some c) s) wanted now now (Ok (Some (More (Some x) (s, Some k))))
  ran-first_item c x j k m n =
      ran-weaker merged safe (Given (Some (More (Some x) (s, Some k)))) (FirstElse makes nexts else (Some c) s) wanted
      now now (Ok (Some (More (Some x) (s, Some k)))) (λ q g. inl (x, j, k, m, n, g)) ran-given

  ran-empty : (c : O) (new : Held Tok Cx St Er) (r : Result (Option (Next (S × Option J) A)) Fault)
      → CollectionHas makes nexts c [] → Ran merged safe else wanted now new r
      → Ran merged safe (FirstElse makes nexts else (Some c) s) wanted now new r
  ran-empty c new r e h = ran-weaker merged safe else (FirstElse makes nexts else (Some c) s) wanted now new r (λ q m. inr (e, m)) h

module _ {Tok Cx St Mk Er S O J A : Type 0} (merged : Er → Er → Er) (safe : Type 0) (mark : St → Mk)
    (back : St → Mk → St) (quiet : Type 0) (makes : O → J → Type 0) (nexts : J → Option A → J → Type 0)
    (gives : S → Meaning Tok Cx St Er (Next S O)) (begun : S) where
  -- whatever the steps do from now, after so many empty collections, all of them do from the start
  pub record PassedFrom (count : ℕ) (s : S) (old now : Held Tok Cx St Er) : Type 0 where
    pub room : ℕ
    pub left : room + count + 1 ≡ 2 ^ 64
    pub on : (new : Held Tok Cx St Er) (r : Result (Option (Next (S × Option J) A)) Fault)
        → Ran merged safe (FirstSteps mark back quiet makes nexts gives room s) true now new r
        → Ran merged safe (FirstOfNext mark back quiet makes nexts gives begun) true old new r

module _ {Tok Cx St Mk Er S O J A : Type 0} {merged : Er → Er → Er} {safe : Type 0} {mark : St → Mk}
    {back : St → Mk → St} {quiet : Type 0} {makes : O → J → Type 0} {nexts : J → Option A → J → Type 0}
    {gives : S → Meaning Tok Cx St Er (Next S O)} {begun : S} {old : Held Tok Cx St Er} where
  begun_with : (room : ℕ) → room + 1 ≡ 2 ^ 64 → PassedFrom merged safe mark back quiet makes nexts gives begun 0 begun old old
  begun_with room full =
      record {
        room = room;
        left = omega (arith, full);
        on = λ new r h. ran-weaker merged safe (FirstSteps mark back quiet makes nexts gives room begun) (FirstOfNext mark back quiet makes nexts gives begun) true old new r
            (λ o m. record { room = room; full = full; first = first-listed mark back quiet makes nexts gives room begun (begin true old) o m }) h;
      }

  pub passed-begun : PassedFrom merged safe mark back quiet makes nexts gives begun 0 begun old old
  passed-begun = begun_with (2 ^ 64 - 1) (omega arith)

  module _ {count : ℕ} {s : S} {now mid : Held Tok Cx St Er} {x : Result (Option (Next S O)) Fault}
      (so : PassedFrom merged safe mark back quiet makes nexts gives begun count s old now)
      (h : Ran merged safe (Inside mark back quiet gives s) true now mid x) where
    failed_at : (room : ℕ) {f : Fault} → x ≡ Err f → Ran merged safe (FirstSteps mark back quiet makes nexts gives room s) true now mid (Err f)
    failed_at zero e = failed h e refl
    failed_at (suc room) e = failed h e refl

    -- a step that gives no collection
    pub passed-failed : {f : Fault} {y : Result (Option (Next (S × Option J) A)) Fault} → x ≡ Err f → y ≡ Err f → Ran merged safe (FirstOfNext mark back quiet makes nexts gives begun) true old mid y
    passed-failed {f} e d = rw d (so.on mid (Err f) (failed_at so.room e))

    ended_at : (room : ℕ) → x ≡ Ok (Some End) → Ran merged safe (FirstSteps mark back quiet makes nexts gives room s) true now mid (Ok (Some End))
    ended_at zero e = chained h e ran-given
    ended_at (suc room) e = chained h e ran-given

    -- the end
    pub passed-ended : x ≡ Ok (Some End) → Ran merged safe (FirstOfNext mark back quiet makes nexts gives begun) true old mid (Ok (Some End))
    passed-ended e = so.on mid _ (ended_at so.room e)

    module _ {c : O} {t : S} (e : x ≡ Ok (Some (More (Some c) t))) {j : J} (m : makes c j) where
      first_at : (room : ℕ) (v : A) (k : J) → nexts j (Some v) k → Ran merged safe (FirstSteps mark back quiet makes nexts gives room s) true now mid (Ok (Some (More (Some v) (t, Some k))))
      first_at zero v k n = chained h e (ran-first_item makes nexts _ t c v j k m n)
      first_at (suc room) v k n = chained h e (ran-first_item makes nexts _ t c v j k m n)

      -- the first item of a collection
      pub passed-first : (v : A) (k : J) {r : Option A} → r ≡ Some v → nexts j r k
          → Ran merged safe (FirstOfNext mark back quiet makes nexts gives begun) true old mid (Ok (Some (More (Some v) (t, Some k))))
      passed-first v k d n = so.on mid _ (first_at so.room v k (subst (λ z. nexts j z k) d n))

      module _ (k : J) {r : Option A} (d : r ≡ None) (n : nexts j r k) where
        empty : CollectionHas makes nexts c []
        empty = (j, m, (k, (j, refl, subst (λ z. nexts j z k) d n)))

        full_at : (room : ℕ) → room + count + 1 ≡ 2 ^ 64 → count + 1 ≡ 2 ^ 64 → Ran merged safe (FirstSteps mark back quiet makes nexts gives room s) true now mid (Err (fault.Stop CountTooLarge))
        full_at zero left full = chained h e (ran-empty makes nexts _ t c mid _ empty (ran-stops CountTooLarge))
        full_at (suc room) left full = absurd (omega (arith, left, full))

        -- one empty collection too many
        pub passed-full : count + 1 ≡ 2 ^ 64 → Ran merged safe (FirstOfNext mark back quiet makes nexts gives begun) true old mid (Err (fault.Stop CountTooLarge))
        passed-full full = so.on mid _ (full_at so.room so.left full)

        more_at : (room : ℕ) → room + count + 1 ≡ 2 ^ 64 → (count + 1 ≡ 2 ^ 64 → ⊥)
            →
            ((new : Held Tok Cx St Er) (y : Result (Option (Next (S × Option J) A)) Fault)
            → Ran merged safe (FirstSteps mark back quiet makes nexts gives room s) true now new y
            → Ran merged safe (FirstOfNext mark back quiet makes nexts gives begun) true old new y)
            → PassedFrom merged safe mark back quiet makes nexts gives begun (count + 1) t old mid
        more_at zero left below on = absurd (below (omega (arith, left)))
        more_at (suc room) left below on = record { room = room; left = omega (arith, left); on = λ new y l. on new y (chained h e (ran-empty makes nexts _ t c new y empty l)) }

        -- one more that is passed over
        pub passed-more : (count + 1 ≡ 2 ^ 64 → ⊥) → PassedFrom merged safe mark back quiet makes nexts gives begun (count + 1) t old mid
        passed-more below = more_at so.room so.left below so.on

module _ {S J A : Type 0} (s : S) where
  pub rest_fault : {f : Fault} {x : Result (Option (A × J)) Fault} → x ≡ Err f → with_rest s x ≡ Err f
  rest_fault e = rw e refl

  pub rest_end : {o : Option (A × J)} {x : Result (Option (A × J)) Fault} → x ≡ Ok o → o ≡ None → with_rest s x ≡ Ok (Some End)
  rest_end e d = rw (e, d) refl

  pub rest_item : {p : A × J} {o : Option (A × J)} {x : Result (Option (A × J)) Fault} → x ≡ Ok o → o ≡ Some p → with_rest s x ≡ Ok (Some (More (Some p.0) (s, Some p.1)))
  rest_item e d = rw (e, d) refl

module _ {Tok Cx St Mk Er S O J A : Type 0} {merged : Er → Er → Er} {safe : Type 0} (mark : St → Mk)
    (back : St → Mk → St) (quiet : Type 0) (makes : O → J → Type 0) (nexts : J → Option A → J → Type 0)
    (gives : S → Meaning Tok Cx St Er (Next S O)) (s : S) {now : Held Tok Cx St Er} where
  -- what is in hand gives an item
  pub hand-item : (held left : Option J) (x : A) (r : Option A) → MatchOption held ((r ≡ None) × (left ≡ None)) (λ j. (k : J) × nexts j r k × (left ≡ Some k)) → r ≡ Some x
      → Ran merged safe (InHandOrNext mark back quiet makes nexts gives held s) true now now (Ok (Some (More (Some x) (s, left))))
  hand-item None left x r m e = let n = m.0 in let no : ⊥ = cc in absurd no
  hand-item (Some j) left x r m e =
      let step : nexts j (Some x) m.0 = subst (λ z. nexts j z m.0) e m.1 in
      subst (λ z. Ran merged safe (InHandOrNext mark back quiet makes nexts gives (Some j) s) true now now (Ok (Some (More (Some x) (s, z))))) (sym m.2)
      (ran-weaker merged safe (Given (Some (More (Some x) (s, Some m.0))))
      (InHandOrNext mark back quiet makes nexts gives (Some j) s) true now now
      (Ok (Some (More (Some x) (s, Some m.0)))) (λ q g. inl (x, m.0, step, g)) ran-given)

  -- nothing is left in hand
  pub hand-next : (held left : Option J) (r : Option A) {new : Held Tok Cx St Er} {y : Result (Option (Next (S × Option J) A)) Fault}
      → MatchOption held ((r ≡ None) × (left ≡ None)) (λ j. (k : J) × nexts j r k × (left ≡ Some k)) → r ≡ None
      → Ran merged safe (FirstOfNext mark back quiet makes nexts gives s) true now new y → Ran merged safe (InHandOrNext mark back quiet makes nexts gives held s) true now new y
  hand-next None left r {new} {y} m e h = ran-weaker merged safe (FirstOfNext mark back quiet makes nexts gives s) (InHandOrNext mark back quiet makes nexts gives None s) true now new y (λ q g. g) h
  hand-next (Some j) left r {new} {y} m e h =
      ran-weaker merged safe (FirstOfNext mark back quiet makes nexts gives s)
      (InHandOrNext mark back quiet makes nexts gives (Some j) s) true now new y
      (λ q g. inr (m.0, subst (λ z. nexts j z m.0) e m.1, g)) h

  module _ (held left : Option J) (r : Option A)
      (m : MatchOption held ((r ≡ None) × (left ≡ None)) (λ j. (k : J) × nexts j r k × (left ≡ Some k)))
      (e : r ≡ None) (t : S) {new : Held Tok Cx St Er} {x : Result (Option (A × J)) Fault}
      (h : Ran merged safe (FirstOfNext mark back quiet makes nexts gives s) true now new (with_rest t x)) where
    -- and then the collections that follow give an item, or none, or a fault
    pub hand-first : {o : Option (A × J)} {p : A × J} {v : A} {k : J} → x ≡ Ok o → o ≡ Some p → p.0 ≡ v → p.1 ≡ k
        → Ran merged safe (InHandOrNext mark back quiet makes nexts gives held s) true now new (Ok (Some (More (Some v) (t, Some k))))
    hand-first {o} {p} {v} {k} d i a b =
        hand-next held left r m e
        (subst (λ z. Ran merged safe (FirstOfNext mark back quiet makes nexts gives s) true now new z)
        (rest_item t d i ∙ ap (λ z. Ok (Some (More (Some z) (t, Some p.1)))) a ∙ ap (λ z. Ok (Some (More (Some v) (t, Some z)))) b)
        h)

    pub hand-ended : {o : Option (A × J)} → x ≡ Ok o → o ≡ None → Ran merged safe (InHandOrNext mark back quiet makes nexts gives held s) true now new (Ok (Some End))
    hand-ended d i = hand-next held left r m e (subst (λ z. Ran merged safe (FirstOfNext mark back quiet makes nexts gives s) true now new z) (rest_end t d i) h)

    pub hand-failed : {f : Fault} {y : Result (Option (Next (S × Option J) A)) Fault} → x ≡ Err f → y ≡ Err f → Ran merged safe (InHandOrNext mark back quiet makes nexts gives held s) true now new y
    hand-failed d z = rw z (hand-next held left r m e (subst (λ y. Ran merged safe (FirstOfNext mark back quiet makes nexts gives s) true now new y) (rest_fault t d) h))

module _ {Tok Cx St Mk Er S O J A : Type 0} {merged : Er → Er → Er} {safe : Type 0} {mark : St → Mk}
    {back : St → Mk → St} {quiet : Type 0} {makes : O → J → Type 0} {nexts : J → Option A → J → Type 0}
    {gives : S → Meaning Tok Cx St Er (Next S O)} {s : S × Option J} {old new : Held Tok Cx St Er} where
  stepped : (wanted : Bool) {r : Result (Option (Next (S × Option J) A)) Fault}
      → Ran merged safe (MakesItem (InHandOrNext mark back quiet makes nexts gives s.1 s.0)) wanted old new r
      → Ran merged safe (Flattens mark back quiet makes nexts gives s) wanted old new r
  stepped wanted {r} h =
      ran-weaker merged safe (MakesItem (InHandOrNext mark back quiet makes nexts gives s.1 s.0))
      (Flattens mark back quiet makes nexts gives s) wanted old new r (λ o m. record { step = m }) h

  pub flattens-emit : (t : S × Option J) (r : Result (Option A) Fault)
      → Ran merged safe (InHandOrNext mark back quiet makes nexts gives s.1 s.0) true old new (with_item t r)
      → Ran merged safe (Flattens mark back quiet makes nexts gives s) true old new (with_item t r)
  flattens-emit t r h = stepped true (makes-emit t r h)

  module _ (t : S × Option J) {r : Result (Option A) Fault} (h : Ran merged safe (InHandOrNext mark back quiet makes nexts gives s.1 s.0) true old new (with_item t r)) where
    pub flattens-passed : {x : A} {i : Option A} → r ≡ Ok i → i ≡ Some x → Ran merged safe (Flattens mark back quiet makes nexts gives s) false old new (Ok (Some (More None t)))
    flattens-passed e d = stepped false (makes-passed t e d h)

    pub flattens-ended : {i : Option A} → r ≡ Ok i → i ≡ None → Ran merged safe (Flattens mark back quiet makes nexts gives s) false old new (Ok (Some End))
    flattens-ended e d = stepped false (makes-ended t e d h)

    pub flattens-failed : {f : Fault} {y : Result (Option (Next (S × Option J) A)) Fault} → r ≡ Err f → y ≡ Err f → Ran merged safe (Flattens mark back quiet makes nexts gives s) false old new y
    flattens-failed e d = stepped false (makes-failed t e d h)
