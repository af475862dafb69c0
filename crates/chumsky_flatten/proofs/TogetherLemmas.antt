-- Why the items of collections are given wherever the collections are.
use Rattle.std.proofs.Common.{◌≡◌, ◌∙◌, ℕ, zero, suc, ◌+◌, ◌^◌, ◌<◌, ◌≤◌, true, Option, Some, None, option_map, List, [], ◌∷◌, ◌++◌, length, refl, sym, ap, subst, arith, inl, inr, append_assoc}
use Rattle.std.proofs.lemmas.List.{append-nil}
use Rattle.std.specs.Iterator.{Drains}
use Rattle.chumsky_input.specs.declared.stop.Stop.TheVariants.{CountTooLarge}
use Rattle.chumsky_input.specs.Outcome.{Meaning, Beginning, Outcome, Verdict, Yes}
use Rattle.chumsky_parser.specs.Chained.{Chained, Given, Asked, from, retold, after}
use Rattle.chumsky_parser.specs.Choice.{ElseFrom, OrElse}
use Rattle.chumsky_parser.specs.Failure.{SaysNo, Stops, wanting}
use Rattle.chumsky_parser.specs.Items.{Next, More, End, AfterStep, FromMade}
use Rattle.chumsky_parser.specs.Steps.{AllSteps, listed, unlisted}
use Rattle.chumsky_items.specs.Consumers.{Appends, HoldsAll, Collected, Collects}
use Rattle.chumsky_parser.specs.Progress.{IsYes}
use Rattle.chumsky_flatten.specs.Collections.{CollectionHas}
use Rattle.chumsky_flatten.specs.Compared.{HaveItems, FlattensCollected}
use Rattle.chumsky_flatten.specs.Flattening.{BeginsInside, FirstElse, Inside, InHandOrNext, Flattens}
use Rattle.chumsky_flatten.specs.FlatteningSteps.{FirstSteps, first-listed}
use Rattle.chumsky_flatten.specs.IntoItems.{Offers, MakesItem}
use Rattle.chumsky_parser.proofs.YesLemmas.{is_yes, same_yes, both_yes, yes_both}
use Rattle.chumsky_flatten.proofs.YesLemmas.{collected-value, appended}
use Rattle.chumsky_flatten.proofs.ComparedLemmas.{only, after-only, afters, flattened-apart}

-- that verdict, and nothing done
abbrev pub done : {Tok Cx St Er V : Type 0} → Verdict V Er → Beginning Tok Cx St → Outcome V Er St
done v b = record { verdict = v; end = b.start; state = b.state; events = []; emitted = [] }

module _ {Tok Cx St Mk Er V : Type 0} (mark : St → Mk) (back : St → Mk → St) (safe : Type 0) (part : Meaning Tok Cx St Er V) (b : Beginning Tok Cx St) (o : Outcome V Er St) (v : Option V) where
  -- what says yes is not gone back from
  stays_yes : part b o → o.verdict ≡ Yes v → OrElse mark back safe part SaysNo b o
  stays_yes m e = record { cases = inr (record { attempt = o; meant = m; then_else = subst (λ w. ElseFrom back safe (mark b.state) w SaysNo b o o) (sym e) refl }) }

module _ {Tok Cx St Er S A : Type 0} (step : Meaning Tok Cx St Er (Next S A)) (b : Beginning Tok Cx St) (p : Outcome (Next S A) Er St) where
  made_more : (x : A) (s : S) → b.wanted ≡ true → step b p → p.verdict ≡ Yes (Some (More (Some x) s)) → MakesItem step b p
  made_more x s t m e =
      let here : b ≡ record b { wanted = true } = ap (λ w. record b { wanted = w }) t in
      let run : MakesItem step b (after p (only (Some (More (wanting b.wanted x) s)) (from b p))) =
      yes_both (Asked true step) (AfterStep Offers (Given (Some End))) b p (Some (More (Some x) s))
      (only (Some (More (wanting b.wanted x) s)) (from b p)) (record { run = subst (λ c. step c p) here m }) e
      refl in
      let same : after p (only (Some (More (wanting b.wanted x) s)) (from b p)) ≡ p = ap (λ w. after p (only (Some (More (wanting w x) s)) (from b p))) t ∙ after-only b p (Some (More (Some x) s)) e in
      subst (MakesItem step b) same run

  made_last : b.wanted ≡ true → step b p → p.verdict ≡ Yes (Some End) → MakesItem step b p
  made_last t m e =
      let here : b ≡ record b { wanted = true } = ap (λ w. record b { wanted = w }) t in
      let run : MakesItem step b (after p (only (Some End) (from b p))) =
      yes_both (Asked true step) (AfterStep Offers (Given (Some End))) b p (Some End) (only (Some End) (from b p))
      (record { run = subst (λ c. step c p) here m }) e refl in
      subst (MakesItem step b) (after-only b p (Some End) e) run

module _ {Tok Cx St Er S O D : Type 0} (gives : S → Meaning Tok Cx St Er (Next S O)) where
  -- these collections are given, each from where the one before it ended, and then the end
  abbrev Chain : List O → S → Beginning Tok Cx St → Outcome D Er St → Type 0
  Chain [] s b o = (p : Outcome (Next S O) Er St) × gives s b p × (p.verdict ≡ Yes (Some End)) × (o ≡ after p (done o.verdict (from b p)))
  Chain (c ∷ os) s b o = (p : Outcome (Next S O) Er St) × (t : S) × (q : Outcome D Er St) × gives s b p × (p.verdict ≡ Yes (Some (More (Some c) t))) × Chain os t (from b p) q × (o ≡ after p q)

module _ {Tok Cx St Er S O C : Type 0} (gives : S → Meaning Tok Cx St Er (Next S O)) (outer : List O → C → Type 0) (quiet : Type 0) (c : C) where
  none_ended : (b : Beginning Tok Cx St) (o : Outcome C Er St) → Collected outer None b o → o.verdict ≡ Yes (Some c) → ⊥
  none_ended b o m a = subst (HoldsAll outer None) (same_yes (ap (λ (x : Outcome C Er St). x.verdict) m.given) a) m.is

  none_full : (v : Option (Next S O)) (b : Beginning Tok Cx St) (o : Outcome C Er St) → AfterStep (λ _ _. Stops CountTooLarge) (Collected outer None) v b o → o.verdict ≡ Yes (Some c) → ⊥
  none_full (Some (More x t)) b o m a = subst IsYes (ap (λ (y : Outcome C Er St). y.verdict) m) (is_yes a)
  none_full (Some End) b o m a = none_ended b o m a
  none_full None b o m a = m

  none_more : (room : ℕ) → ((t : S) (d : Beginning Tok Cx St) (q : Outcome C Er St) → AllSteps gives (Appends quiet) (Collected outer) room None t d q → q.verdict ≡ Yes (Some c) → ⊥)
      → (v : Option (Next S O)) (b : Beginning Tok Cx St) (o : Outcome C Er St)
      → AfterStep
      (λ y t. Chained (Appends quiet None y) (λ l. AllSteps gives (Appends quiet) (Collected outer) room l t))
      (Collected outer None) v b o
      → o.verdict ≡ Yes (Some c) → ⊥
  none_more room ih (Some (More x t)) b o m a =
      let y = both_yes (Given None) (λ l. AllSteps gives (Appends quiet) (Collected outer) room l t) b o (Some c) m a in
      let none : None ≡ y.value = same_yes (ap (λ (z : Outcome (List O) Er St). z.verdict) y.meant) y.said in
      ih t (from b y.first) y.second (subst (λ l. AllSteps gives (Appends quiet) (Collected outer) room l t (from b y.first) y.second) (sym none) y.follows) y.answers
  none_more room ih (Some End) b o m a = none_ended b o m a
  none_more room ih None b o m a = m

  -- once a collection is not there, nothing is collected
  none_collected : (room : ℕ) (s : S) (b : Beginning Tok Cx St) (o : Outcome C Er St) → AllSteps gives (Appends quiet) (Collected outer) room None s b o → o.verdict ≡ Yes (Some c) → ⊥
  none_collected zero s b o m a =
      let y = both_yes (gives s) (AfterStep (λ _ _. Stops CountTooLarge) (Collected outer None)) b o (Some c) m a in
      none_full y.value (from b y.first) y.second y.follows y.answers
  none_collected (suc room) s b o m a =
      let y = both_yes (gives s) (AfterStep (λ v t. Chained (Appends quiet None v) (λ l. AllSteps gives (Appends quiet) (Collected outer) room l t)) (Collected outer None)) b o (Some c) m a in
      none_more room (none_collected room) y.value (from b y.first) y.second y.follows y.answers

  -- what is collected from here on, as a chain
  abbrev Chained_from : ℕ → List O → S → Beginning Tok Cx St → Outcome C Er St → Type 0
  Chained_from room ys s b o = (os : List O) × outer (ys ++ os) c × Chain gives os s b o × (length os ≤ room)

  chain_end : (room : ℕ) (ys : List O) (s : S) (b : Beginning Tok Cx St) (o : Outcome C Er St)
      (p : Outcome (Next S O) Er St) (q : Outcome C Er St)
      → gives s b p → p.verdict ≡ Yes (Some End) → Collected outer (Some ys) (from b p) q → q.verdict ≡ Yes (Some c)
      → o ≡ after p q → o.verdict ≡ Yes (Some c) → Chained_from room ys s b o
  chain_end room ys s b o p q m e f a w z =
      let k = collected-value outer ys (from b p) q c f a in
      ([], subst (λ l. outer l c) (sym (append-nil ys)) k.0, (p, m, e, w ∙ ap (after p) k.1 ∙ ap (λ v. after p (done v (from b p))) (sym z)), omega arith)

  chain_full : (ys : List O) (s : S) (b : Beginning Tok Cx St) (o : Outcome C Er St) (p : Outcome (Next S O) Er St)
      (v : Option (Next S O)) (q : Outcome C Er St)
      → gives s b p → p.verdict ≡ Yes v
      → AfterStep (λ _ _. Stops CountTooLarge) (Collected outer (Some ys)) v (from b p) q → q.verdict ≡ Yes (Some c)
      → o ≡ after p q → o.verdict ≡ Yes (Some c) → Chained_from 0 ys s b o
  chain_full ys s b o p (Some (More x t)) q m e f a w z = absurd (subst IsYes (ap (λ (y : Outcome C Er St). y.verdict) f) (is_yes a))
  chain_full ys s b o p (Some End) q m e f a w z = chain_end 0 ys s b o p q m e f a w z
  chain_full ys s b o p None q m e f a w z = absurd f

  chain_more : (room : ℕ)
      →
      ((ys : List O) (t : S) (d : Beginning Tok Cx St) (q : Outcome C Er St)
      → AllSteps gives (Appends quiet) (Collected outer) room (Some ys) t d q → q.verdict ≡ Yes (Some c)
      → Chained_from room ys t d q)
      → (ys : List O) (s : S) (b : Beginning Tok Cx St) (o : Outcome C Er St) (p : Outcome (Next S O) Er St) (v : Option (Next S O)) (q : Outcome C Er St) → gives s b p → p.verdict ≡ Yes v
      → AfterStep
      (λ y t. Chained (Appends quiet (Some ys) y) (λ l. AllSteps gives (Appends quiet) (Collected outer) room l t))
      (Collected outer (Some ys)) v (from b p) q
      → q.verdict ≡ Yes (Some c) → o ≡ after p q → o.verdict ≡ Yes (Some c) → Chained_from (suc room) ys s b o
  chain_more room ih ys s b o p (Some (More (Some x) t)) q m e f a w z =
      let y = both_yes (Appends quiet (Some ys) (Some x)) (λ l. AllSteps gives (Appends quiet) (Collected outer) room l t) (from b p) q (Some c) f a in
      let g = appended quiet ys x (from b p) y.first y.value y.meant y.said in
      let is : y.value ≡ Some (ys ++ x ∷ []) = same_yes y.said (ap (λ (r : Outcome (List O) Er St). r.verdict) g) in
      let one = subst (λ l. AllSteps gives (Appends quiet) (Collected outer) room l t (from (from b p) y.first) y.second) is y.follows in
      let two : AllSteps gives (Appends quiet) (Collected outer) room (Some (ys ++ x ∷ [])) t (from b p) y.second =
      subst
      (λ (r : Outcome (List O) Er St). AllSteps gives (Appends quiet) (Collected outer) room
      (Some (ys ++ x ∷ [])) t (from (from b p) r) y.second)
      g one in
      let rest = ih (ys ++ x ∷ []) t (from b p) y.second two y.answers in
      let same : q ≡ y.second = y.whole ∙ ap (λ (r : Outcome (List O) Er St). after r y.second) g in
      (x ∷ rest.0, subst (λ l. outer l c) (append_assoc ys (x ∷ []) rest.0) rest.1, (p, t, y.second, m, e, rest.2, w ∙ ap (after p) same), omega (arith, rest.3))
  chain_more room ih ys s b o p (Some (More None t)) q m e f a w z =
      let y = both_yes (Given None) (λ l. AllSteps gives (Appends quiet) (Collected outer) room l t) (from b p) q (Some c) f a in
      let none : None ≡ y.value = same_yes (ap (λ (r : Outcome (List O) Er St). r.verdict) y.meant) y.said in
      absurd
      (none_collected room t (from (from b p) y.first) y.second
      (subst
      (λ l. AllSteps gives (Appends quiet) (Collected outer) room l t (from (from b p) y.first) y.second)
      (sym none) y.follows)
      y.answers)
  chain_more room ih ys s b o p (Some End) q m e f a w z = chain_end (suc room) ys s b o p q m e f a w z
  chain_more room ih ys s b o p None q m e f a w z = absurd f

  -- collections that are collected are given one after another
  chain_of : (room : ℕ) (ys : List O) (s : S) (b : Beginning Tok Cx St) (o : Outcome C Er St)
      → AllSteps gives (Appends quiet) (Collected outer) room (Some ys) s b o → o.verdict ≡ Yes (Some c)
      → Chained_from room ys s b o
  chain_of zero ys s b o m a =
      let y = both_yes (gives s) (AfterStep (λ _ _. Stops CountTooLarge) (Collected outer (Some ys))) b o (Some c) m a in
      chain_full ys s b o y.first y.value y.second y.meant y.said y.follows y.answers y.whole a
  chain_of (suc room) ys s b o m a =
      let y =
      both_yes (gives s)
      (AfterStep
      (λ v t. Chained (Appends quiet (Some ys) v) (λ l. AllSteps gives (Appends quiet) (Collected outer) room l t))
      (Collected outer (Some ys)))
      b o (Some c) m a in
      chain_more room (chain_of room) ys s b o y.first y.value y.second y.meant y.said y.follows y.answers y.whole a

longer : {O : Type 0} (n : ℕ) (c : O) (os : List O) → length (c ∷ os) ≤ n → length os ≤ n
longer n c os l = omega (arith, l)

module _ {Tok Cx St Mk Er S O J A : Type 0} (mark : St → Mk) (back : St → Mk → St) (safe : Type 0)
    (makes : O → J → Type 0) (nexts : J → Option A → J → Type 0) (gives : S → Meaning Tok Cx St Er (Next S O)) where
  -- a step inside whose collection is at its end, has a first item, or is empty
  ended_first : (room : ℕ) (s : S) (b : Beginning Tok Cx St) (p : Outcome (Next S O) Er St) → gives s b p
      → p.verdict ≡ Yes (Some End)
      → FirstSteps mark back safe makes nexts gives room s b (after p (only (Some End) (from b p)))
  ended_first zero s b p m e =
      yes_both (Inside mark back safe gives s)
      (AfterStep (FirstElse makes nexts (Stops CountTooLarge)) (Given (Some End))) b p (Some End)
      (only (Some End) (from b p)) (stays_yes mark back safe (gives s) b p (Some End) m e) e refl
  ended_first (suc room) s b p m e =
      yes_both (Inside mark back safe gives s)
      (AfterStep (λ v t. FirstElse makes nexts (FirstSteps mark back safe makes nexts gives room t) v t) (Given (Some End)))
      b p (Some End) (only (Some End) (from b p)) (stays_yes mark back safe (gives s) b p (Some End) m e) e refl

  found_first : (room : ℕ) (s t : S) (b : Beginning Tok Cx St) (p : Outcome (Next S O) Er St) (c : O) (x : A) (j k : J)
      → gives s b p → p.verdict ≡ Yes (Some (More (Some c) t)) → makes c j → nexts j (Some x) k
      → FirstSteps mark back safe makes nexts gives room s b (after p (only (Some (More (Some x) (t, Some k))) (from b p)))
  found_first zero s t b p c x j k m e i n =
      yes_both (Inside mark back safe gives s)
      (AfterStep (FirstElse makes nexts (Stops CountTooLarge)) (Given (Some End))) b p (Some (More (Some c) t))
      (only (Some (More (Some x) (t, Some k))) (from b p))
      (stays_yes mark back safe (gives s) b p (Some (More (Some c) t)) m e) e (inl (x, j, k, i, n, refl))
  found_first (suc room) s t b p c x j k m e i n =
      yes_both (Inside mark back safe gives s)
      (AfterStep (λ v u. FirstElse makes nexts (FirstSteps mark back safe makes nexts gives room u) v u) (Given (Some End)))
      b p (Some (More (Some c) t)) (only (Some (More (Some x) (t, Some k))) (from b p))
      (stays_yes mark back safe (gives s) b p (Some (More (Some c) t)) m e) e (inl (x, j, k, i, n, refl))

  passed_first : (room : ℕ) (s t : S) (b : Beginning Tok Cx St) (p : Outcome (Next S O) Er St) (c : O)
      (r : Outcome (Next (S × Option J) A) Er St)
      → gives s b p → p.verdict ≡ Yes (Some (More (Some c) t)) → CollectionHas makes nexts c []
      → FirstSteps mark back safe makes nexts gives room t (from b p) r
      → FirstSteps mark back safe makes nexts gives (suc room) s b (after p r)
  passed_first room s t b p c r m e h f =
      yes_both (Inside mark back safe gives s)
      (AfterStep (λ v u. FirstElse makes nexts (FirstSteps mark back safe makes nexts gives room u) v u) (Given (Some End)))
      b p (Some (More (Some c) t)) r (stays_yes mark back safe (gives s) b p (Some (More (Some c) t)) m e) e
      (inr (h, f))

  module _ {D : Type 0} where
    -- the first item of these collections, or the end of them, and what is then left
    abbrev First : ℕ → ℕ → List A → S → Beginning Tok Cx St → Outcome D Er St → Type 0
    First room most [] s b o =
        (p : Outcome (Next (S × Option J) A) Er St) × FirstSteps mark back safe makes nexts gives room s b p
        × (p.verdict ≡ Yes (Some End)) × (o ≡ after p (done o.verdict (from b p)))
    First room most (x ∷ xs) s b o =
        (p : Outcome (Next (S × Option J) A) Er St) × (t : S) × (k : J) × (ws : List A) × (zs : List A) × (cs : List O) × (q : Outcome D Er St)
        × FirstSteps mark back safe makes nexts gives room s b p
        × (p.verdict ≡ Yes (Some (More (Some x) (t, Some k)))) × Drains nexts k ws × Chain gives cs t (from b p) q
        × HaveItems makes nexts cs zs × (xs ≡ ws ++ zs) × (o ≡ after p q) × (length cs ≤ most)

    first_none : (room most : ℕ) (s : S) (b : Beginning Tok Cx St) (o : Outcome D Er St) (p : Outcome (Next S O) Er St)
        → gives s b p → p.verdict ≡ Yes (Some End) → o ≡ after p (done o.verdict (from b p))
        → First room most [] s b o
    first_none room most s b o p m e w = (
      after p (only (Some End) (from b p)),
      ended_first room s b p m e,
      refl,
      w ∙ sym (afters p (only {V = Next (S × Option J) A} (Some End) (from b p)) (done o.verdict (from b p))),
    )

    first_some : (room most : ℕ) (s t : S) (b : Beginning Tok Cx St) (o q : Outcome D Er St)
        (p : Outcome (Next S O) Er St) (c : O) (os : List O) (y : A) (ys zs xs : List A)
        → gives s b p → p.verdict ≡ Yes (Some (More (Some c) t)) → Chain gives os t (from b p) q
        → CollectionHas makes nexts c (y ∷ ys) → HaveItems makes nexts os zs → xs ≡ ys ++ zs → o ≡ after p q
        → length os ≤ most → First room most (y ∷ xs) s b o
    first_some room most s t b o q p c os y ys zs xs m e f h k z w l =
        let run = h.2.1.1 in
        let r : Outcome (Next (S × Option J) A) Er St = only (Some (More (Some y) (t, Some run.0))) (from b p) in
        (after p r, t, run.0, ys, zs, os, q, found_first room s t b p c y h.0 run.0 m e h.1 run.1, refl, (h.2.0, (h.2.1.0, run.2, h.2.1.2)), f, k, z, w ∙ sym (afters p r q), l)

    first_passed : (room most : ℕ) (s t : S) (b : Beginning Tok Cx St) (o q : Outcome D Er St)
        (p : Outcome (Next S O) Er St) (c : O) (xs : List A)
        → gives s b p → p.verdict ≡ Yes (Some (More (Some c) t)) → CollectionHas makes nexts c [] → o ≡ after p q
        → First room most xs t (from b p) q → First (suc room) most xs s b o
    first_passed room most s t b o q p c [] m e h w f = (
      after p f.0,
      passed_first room s t b p c f.0 m e h f.1,
      f.2,
      w
          ∙ ap (after p) (f.3 ∙ ap (λ v. after f.0 (done v (from (from b p) f.0))) (sym (ap (λ (x : Outcome D Er St). x.verdict) w)))
          ∙ sym (afters p f.0 (done o.verdict (from (from b p) f.0))),
    )
    first_passed room most s t b o q p c (x ∷ xs) m e h w f =
        (after p f.0, f.1, f.2, f.3, f.4, f.5, f.6, passed_first room s t b p c f.0 m e h f.7, f.8, f.9, f.10, f.11, f.12, w ∙ ap (after p) f.13 ∙ sym (afters p f.0 f.6), f.14)

    first_by : (c : O) (os : List O) (ys zs : List A) (room most : ℕ) (xs : List A) (s : S) (b : Beginning Tok Cx St) (o : Outcome D Er St)
        → Chain gives (c ∷ os) s b o → CollectionHas makes nexts c ys → HaveItems makes nexts os zs → xs ≡ ys ++ zs
        → length (c ∷ os) ≤ room → length (c ∷ os) ≤ most
        →
        ((r n : ℕ) (ws : List A) (t : S) (d : Beginning Tok Cx St) (q : Outcome D Er St) → Chain gives os t d q
        → HaveItems makes nexts os ws → length os ≤ r → length os ≤ n → First r n ws t d q)
        → First room most xs s b o
    first_by c os [] zs zero most xs s b o f h k z l n ih = absurd (omega (arith, l))
    first_by c os [] zs (suc room) most xs s b o f h k z l n ih =
        subst (λ ys. First (suc room) most ys s b o) (sym z)
        (first_passed room most s f.1 b o f.2 f.0 c zs f.3 f.4 h f.6
        (ih room most zs f.1 (from b f.0) f.2 f.5 k (omega (arith, l)) (longer most c os n)))
    first_by c os (y ∷ ys) zs room most xs s b o f h k z l n ih =
        subst (λ ws. First room most ws s b o) (sym z)
        (first_some room most s f.1 b o f.2 f.0 c os y ys zs (ys ++ zs) f.3 f.4 f.5 h k refl f.6 (longer most c os n))

    first_of : (os : List O) (room most : ℕ) (xs : List A) (s : S) (b : Beginning Tok Cx St) (o : Outcome D Er St)
        → Chain gives os s b o → HaveItems makes nexts os xs → length os ≤ room → length os ≤ most
        → First room most xs s b o
    first_of [] room most xs s b o f h l n = subst (λ ys. First room most ys s b o) (sym h) (first_none room most s b o f.0 f.1 f.2 f.3)
    first_of (c ∷ os) room most xs s b o f h l n = first_by c os h.0 h.1 room most xs s b o f h.2 h.3 h.4 l n (first_of os)

  -- what is left of the collection in hand
  abbrev Hand : Option J → List A → Type 0
  Hand None ws = ws ≡ []
  Hand (Some j) ws = Drains nexts j ws

  -- nothing is left in hand, so the collections that follow are next
  hand_empty : (room : ℕ) → room + 1 ≡ 2 ^ 64
      → (h : Option J) (s : S) (b : Beginning Tok Cx St) (p : Outcome (Next (S × Option J) A) Er St) → Hand h []
      → FirstSteps mark back safe makes nexts gives room s b p → InHandOrNext mark back safe makes nexts gives h s b p
  hand_empty room full None s b p h f = record { room = room; full = full; first = first-listed mark back safe makes nexts gives room s b p f }
  hand_empty room full (Some j) s b p h f =
      inr (
        h.0,
        subst (λ t. nexts t None h.0) (sym h.1.1) h.1.2,
        record { room = room; full = full; first = first-listed mark back safe makes nexts gives room s b p f },
      )

  module _ {D : Type 0} (holds : List A → D → Type 0) (still : Type 0) (d : D) (most : ℕ) (full : most + 1 ≡ 2 ^ 64) where
    abbrev Gives : ℕ → List A → S × Option J → Meaning Tok Cx St Er D
    Gives room ys s = AllSteps (Flattens mark back safe makes nexts gives) (Appends still) (Collected holds) room (Some ys) s

    abbrev Gives_from : ℕ → Option (List A) → S × Option J → Meaning Tok Cx St Er D
    Gives_from room l u = AllSteps (Flattens mark back safe makes nexts gives) (Appends still) (Collected holds) room l u

    gives_end : (room : ℕ) (ys : List A) (s : S × Option J) (b : Beginning Tok Cx St) (p : Outcome (Next (S × Option J) A) Er St)
        → Flattens mark back safe makes nexts gives s b p → p.verdict ≡ Yes (Some End) → holds ys d
        → Gives room ys s b (after p (only (Some d) (from b p)))
    gives_end zero ys s b p m e h =
        yes_both (Flattens mark back safe makes nexts gives s)
        (AfterStep (λ _ _. Stops CountTooLarge) (Collected holds (Some ys))) b p (Some End)
        (only (Some d) (from b p)) m e (record { value = Some d; is = h; given = refl })
    gives_end (suc room) ys s b p m e h =
        yes_both (Flattens mark back safe makes nexts gives s)
        (AfterStep (λ v u. Chained (Appends still (Some ys) v) (λ l. Gives_from room l u)) (Collected holds (Some ys)))
        b p (Some End) (only (Some d) (from b p)) m e (record { value = Some d; is = h; given = refl })

    gives_more : (room : ℕ) (ys : List A) (x : A) (s u : S × Option J) (b : Beginning Tok Cx St)
        (p : Outcome (Next (S × Option J) A) Er St) (q : Outcome D Er St)
        → Flattens mark back safe makes nexts gives s b p → p.verdict ≡ Yes (Some (More (Some x) u))
        → Gives room (ys ++ x ∷ []) u (from b p) q → Gives (suc room) ys s b (after p q)
    gives_more room ys x s u b p q m e g =
        let making : Chained (Appends still (Some ys) (Some x)) (λ l. Gives_from room l u) (from b p) q =
        record { first = only (Some (ys ++ x ∷ [])) (from b p); meant = inr refl; follows = (q, g, refl) } in
        yes_both (Flattens mark back safe makes nexts gives s)
        (AfterStep (λ v w. Chained (Appends still (Some ys) v) (λ l. Gives_from room l w)) (Collected holds (Some ys)))
        b p (Some (More (Some x) u)) q m e making

    module _ {E : Type 0} where
      -- the collections that follow
      gives_next : (room : ℕ) (ys : List A) (h : Option J) (s : S) (xs : List A) (b : Beginning Tok Cx St) (o : Outcome E Er St)
          → b.wanted ≡ true → Hand h [] → First most most xs s b o → length xs ≤ room → holds (ys ++ xs) d
          →
          ((zs : List A) (k : J) (ws : List A) (t : S) (cs : List O) (vs : List A) (c : Beginning Tok Cx St) (q : Outcome E Er St) (less : ℕ)
          → suc less ≡ room → c.wanted ≡ true → Drains nexts k ws → Chain gives cs t c q
          → HaveItems makes nexts cs vs → length cs ≤ most → length (ws ++ vs) ≤ less
          → holds (zs ++ (ws ++ vs)) d → Gives less zs (t, Some k) c (retold (Yes (Some d)) q))
          → Gives room ys (s, h) b (retold (Yes (Some d)) o)
      gives_next room ys h s [] b o t hand f l k ih =
          let step = made_last (InHandOrNext mark back safe makes nexts gives h s) b f.0 t (hand_empty most full h s b f.0 hand f.1) f.2 in
          let run = gives_end room ys (s, h) b f.0 (record { step = step }) f.2 (subst (λ zs. holds zs d) (append-nil ys) k) in
          subst (Gives room ys (s, h) b) (sym (ap (λ (z : Outcome E Er St). retold (Yes (Some d)) z) f.3)) run
      gives_next zero ys h s (x ∷ xs) b o t hand f l k ih = absurd (omega (arith, l))
      gives_next (suc room) ys h s (x ∷ xs) b o t hand f l k ih =
          let u : S × Option J = (f.1, Some f.2) in
          let step = made_more (InHandOrNext mark back safe makes nexts gives h s) b f.0 x u t (hand_empty most full h s b f.0 hand f.7) f.8 in
          let left : length (f.3 ++ f.4) ≤ room = subst (λ zs. length zs ≤ room) f.12 (omega (arith, l)) in
          let held : holds ((ys ++ x ∷ []) ++ (f.3 ++ f.4)) d = subst (λ zs. holds ((ys ++ x ∷ []) ++ zs) d) f.12 (subst (λ zs. holds zs d) (sym (append_assoc ys (x ∷ []) xs)) k) in
          let rest = ih (ys ++ x ∷ []) f.2 f.3 f.1 f.5 f.4 (from b f.0) f.6 room refl t f.9 f.10 f.11 f.14 left held in
          let run = gives_more room ys x (s, h) u b f.0 (retold (Yes (Some d)) f.6) (record { step = step }) f.8 rest in
          subst (Gives (suc room) ys (s, h) b) (sym (ap (λ (z : Outcome E Er St). retold (Yes (Some d)) z) f.13)) run

      -- the items of what is in hand, and then those of the collections that follow
      gives_all : (room : ℕ) (ys : List A) (h : Option J) (ws : List A) (s : S) (os : List O) (xs : List A)
          (b : Beginning Tok Cx St) (o : Outcome E Er St)
          → b.wanted ≡ true → Hand h ws → Chain gives os s b o → HaveItems makes nexts os xs → length os ≤ most
          → length (ws ++ xs) ≤ room → holds (ys ++ (ws ++ xs)) d → Gives room ys (s, h) b (retold (Yes (Some d)) o)
      gives_all zero ys h [] s os xs b o t hand c i n l k =
          gives_next zero ys h s xs b o t hand (first_of os most most xs s b o c i n n) l k
          (λ zs k' ws u cs vs e q less z. (let no : ⊥ = omega (arith, z) in absurd no))
      gives_all (suc room) ys h [] s os xs b o t hand c i n l k =
          gives_next (suc room) ys h s xs b o t hand (first_of os most most xs s b o c i n n) l k
          (λ zs j ws u cs vs e q less z t' r c' i' n' l' k'. (let is : less ≡ room = omega (arith, z) in subst (λ y. Gives y zs (u, Some j) e (retold (Yes (Some d)) q)) (sym is) (gives_all room zs (Some j) ws u cs vs e q t' r c' i' n' (subst (λ y. length (ws ++ vs) ≤ y) is l') k')))
      gives_all room ys None (w ∷ ws) s os xs b o t hand c i n l k = let no : ⊥ = cc in absurd no
      gives_all zero ys (Some j) (w ∷ ws) s os xs b o t hand c i n l k = absurd (omega (arith, l))
      gives_all (suc room) ys (Some j) (w ∷ ws) s os xs b o t hand c i n l k =
          let run = hand.1.1 in
          let p : Outcome (Next (S × Option J) A) Er St = only (Some (More (Some w) (s, Some run.0))) b in
          let step = made_more (InHandOrNext mark back safe makes nexts gives (Some j) s) b p w (s, Some run.0) t (inl (w, run.0, run.1, refl)) refl in
          let held : holds ((ys ++ w ∷ []) ++ (ws ++ xs)) d = subst (λ zs. holds zs d) (sym (append_assoc ys (w ∷ []) (ws ++ xs))) k in
          let rest = gives_all room (ys ++ w ∷ []) (Some run.0) ws s os xs b o t (hand.0, (hand.1.0, run.2, hand.1.2)) c i n (omega (arith, l)) held in
          gives_more room ys w (s, Some j) (s, Some run.0) b p (retold (Yes (Some d)) o) (record { step = step }) refl rest

module _ {Tok Cx St Mk Er S O J A C D : Type 0} (mark : St → Mk) (back : St → Mk → St) (safe : Type 0)
    (makes : O → J → Type 0) (nexts : J → Option A → J → Type 0) (begins : Meaning Tok Cx St Er S)
    (gives : S → Meaning Tok Cx St Er (Next S O)) (outer : List O → C → Type 0) (quiet : Type 0)
    (holds : List A → D → Type 0) (still : Type 0) where
  begun_inside : (b : Beginning Tok Cx St) (p : Outcome S Er St) (s : S) → begins b p → p.verdict ≡ Yes (Some s) → BeginsInside {J = J} begins b (after p (only (Some (s, None)) (from b p)))
  begun_inside b p s m e = yes_both begins (λ v. Given (option_map (λ t. (t, None)) v)) b p (Some s) (only (Some (s, None)) (from b p)) m e refl

  module _ (one_list : (xs ys : List O) (c : C) → outer xs c → outer ys c → xs ≡ ys) (b : Beginning Tok Cx St)
      (o q : Outcome C Er St) (c : C) (os : List O) (xs : List A) (d : D) (t : b.wanted ≡ true) (ho : outer os c)
      (hx : HaveItems makes nexts os xs) (hd : holds xs d) (few : length xs < 2 ^ 64) (room : ℕ)
      (full : room + 1 ≡ 2 ^ 64) (p : Outcome S Er St) where
    given_by : (v : Option S) → begins (record b { wanted = true }) p → p.verdict ≡ Yes v
        → FromMade gives (Appends quiet) (Collected outer) room (wanting b.wanted []) v (from b p) q
        → q.verdict ≡ Yes (Some c) → o ≡ after p q
        → Collects (Flattens mark back safe makes nexts gives) (BeginsInside begins) holds still b (retold (Yes (Some d)) o)
    given_by (Some s) m e f a w =
        let steps : AllSteps gives (Appends quiet) (Collected outer) room (Some []) s (from b p) q =
        subst (λ z. AllSteps gives (Appends quiet) (Collected outer) room (wanting z []) s (from b p) q) t
        (unlisted gives (Appends quiet) (Collected outer) room (wanting b.wanted []) s (from b p) q f) in
        let k = chain_of gives outer quiet c room [] s (from b p) q steps a in
        let have : HaveItems makes nexts k.0 xs = subst (λ cs. HaveItems makes nexts cs xs) (one_list os k.0 c ho k.1) hx in
        let run = gives_all mark back safe makes nexts gives holds still d room full room [] None [] s k.0 xs (from b p) q t refl k.2 have k.3 (omega (arith, few, full)) hd in
        let r : Outcome D Er St = retold (Yes (Some d)) q in
        let made : FromMade (Flattens mark back safe makes nexts gives) (Appends still) (Collected holds) room
        (Some []) (Some (s, None)) (from b p) r =
        listed (Flattens mark back safe makes nexts gives) (Appends still) (Collected holds) room (Some [])
        (s, None) (from b p) r run in
        let as_wanted = subst (λ z. FromMade (Flattens mark back safe makes nexts gives) (Appends still) (Collected holds) room (wanting z []) (Some (s, None)) (from b p) r) (sym t) made in
        let begun : Outcome (S × Option J) Er St = after p (only (Some (s, None)) (from (record b { wanted = true }) p)) in
        let whole : Chained (Asked true (BeginsInside begins))
        (FromMade (Flattens mark back safe makes nexts gives) (Appends still) (Collected holds) room (wanting b.wanted []))
        b (after begun r) =
        yes_both (Asked true (BeginsInside begins))
        (FromMade (Flattens mark back safe makes nexts gives) (Appends still) (Collected holds) room (wanting b.wanted []))
        b begun (Some (s, None)) r (record { run = begun_inside (record b { wanted = true }) p s m e })
        refl as_wanted in
        let same : after begun r ≡ retold (Yes (Some d)) o =
        afters {V = S × Option J} p (only (Some (s, None)) (from (record b { wanted = true }) p)) r
        ∙ ap (λ (z : Outcome C Er St). retold (Yes (Some d)) z) (sym w) in
        record {
          room = room;
          full = full;
          run =
              subst
              (Chained (Asked true (BeginsInside begins))
              (FromMade (Flattens mark back safe makes nexts gives) (Appends still) (Collected holds) room (wanting b.wanted []))
              b)
              same whole;
        }
    given_by None m e f a w = absurd f

  -- what is collected of flattened items
  pub flattened-collected : ((xs ys : List O) (c : C) → outer xs c → outer ys c → xs ≡ ys)
      → FlattensCollected makes nexts outer holds (Collects gives begins outer quiet)
      (Collects (Flattens mark back safe makes nexts gives) (BeginsInside begins) holds still)
  flattened-collected one_list =
      record {
        apart = flattened-apart mark back safe makes nexts begins gives outer quiet holds still;
        together = λ b o c os xs d t m a ho hx hd few.
            (let y = both_yes (Asked true begins) (FromMade gives (Appends quiet) (Collected outer) m.room (wanting b.wanted [])) b o (Some c) m.run a in
            given_by one_list b o y.second c os xs d t ho hx hd few m.room m.full y.first y.value y.meant.run y.said y.follows y.answers y.whole);
      }
