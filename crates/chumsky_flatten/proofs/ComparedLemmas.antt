-- Why the items of an output are those that it has, and those of flattened items the items of each collection.
use Rattle.std.proofs.Common.{◌≡◌, ◌∙◌, ℕ, zero, suc, ◌+◌, ◌^◌, ◌<◌, ◌≤◌, true, Option, Some, None, option_map, List, [], ◌∷◌, ◌++◌, length, refl, sym, ap, subst, arith, inl, inr, append_assoc}
use Rattle.std.specs.Prelude.{⊤}
use Rattle.std.proofs.lemmas.List.{append-nil}
use Rattle.std.specs.Iterator.{Drains}
use Rattle.chumsky_input.specs.declared.stop.Stop.TheVariants.{CountTooLarge}
use Rattle.chumsky_input.specs.Outcome.{Meaning, Beginning, Outcome, Verdict, Yes}
use Rattle.chumsky_parser.specs.Chained.{Chained, Given, Asked, from, retold, after}
use Rattle.chumsky_parser.specs.Failure.{Stops, wanting}
use Rattle.chumsky_parser.specs.Items.{Next, More, End, AfterStep, FromMade}
use Rattle.chumsky_parser.specs.Steps.{AllSteps, listed, unlisted}
use Rattle.chumsky_items.specs.Consumers.{Appends, Collected, Collects}
use Rattle.chumsky_parser.specs.Progress.{IsYes}
use Rattle.chumsky_flatten.specs.Collections.{CollectionHas}
use Rattle.chumsky_flatten.specs.Compared.{HaveItems, GivesItemsOf}
use Rattle.chumsky_flatten.specs.Flattening.{BeginsInside, FirstElse, Inside, InHandOrNext, Flattens}
use Rattle.chumsky_flatten.specs.FlatteningSteps.{FirstSteps, first-unlisted}
use Rattle.chumsky_flatten.specs.IntoItems.{Offers, MakesItem, IteratorOf, BeginsOver, NextOf, GivesNext}
use Rattle.chumsky_parser.proofs.YesLemmas.{some-same, same_yes, is_yes, both_yes, yes_both}
use Rattle.chumsky_flatten.proofs.YesLemmas.{collected-value, appended, not_undone}

-- what is given and nothing done
abbrev pub only : {Tok Cx St Er V : Type 0} → Option V → Beginning Tok Cx St → Outcome V Er St
only v b = record { verdict = Yes v; end = b.start; state = b.state; events = []; emitted = [] }

module _ {J A : Type 0} (nexts : J → Option A → J → Type 0) where
  drains-more : (j k : J) (x : A) (xs : List A) → nexts j (Some x) k → Drains nexts k xs → Drains nexts j (x ∷ xs)
  drains-more j k x xs n d = (d.0, (d.1.0, (k, n, d.1.1), d.1.2))

  drains-none : (j k : J) → nexts j None k → Drains nexts j []
  drains-none j k n = (k, (j, refl, n))

module _ {Tok Cx St Er V : Type 0} (b : Beginning Tok Cx St) (q : Outcome V Er St) (v : Option V) where
  -- what was done, and then nothing
  pub after-only : q.verdict ≡ Yes v → after q (only v (from b q)) ≡ q
  after-only e =
      ap (λ es. record { verdict = Yes v; end = q.end; state = q.state; events = es; emitted = q.emitted ++ [] }) (append-nil q.events)
      ∙ ap (λ es. record { verdict = Yes v; end = q.end; state = q.state; events = q.events; emitted = es }) (append-nil q.emitted)
      ∙ ap (λ x. record q { verdict = x }) (sym e)

module _ {St Er U V W : Type 0} where
  pub afters : (p : Outcome U Er St) (r : Outcome V Er St) (q : Outcome W Er St) → after (after p r) q ≡ after p (after r q)
  afters p r q =
      ap (λ es. record q { events = es; emitted = (p.emitted ++ r.emitted) ++ q.emitted }) (append_assoc p.events r.events q.events)
      ∙ ap (λ es. record q { events = p.events ++ (r.events ++ q.events); emitted = es }) (append_assoc p.emitted r.emitted q.emitted)

module _ {S A : Type 0} where
  -- an item that was made, or the end
  abbrev pub IsMade : Next S A → Type 0
  IsMade (More (Some x) s) = ⊤
  IsMade (More None s) = ⊥
  IsMade End = ⊤

module _ {Tok Cx St Er S A : Type 0} (step : Meaning Tok Cx St Er (Next S A)) (b : Beginning Tok Cx St) (p : Outcome (Next S A) Er St) (n : Next S A) where
  -- where an item is wanted, what makes one is the step itself
  record Made : Type 0 where
    pub steps : step b p
    pub is_made : IsMade n

  made_item : (q : Outcome (Next S A) Er St) (x : A) (s : S) → b.wanted ≡ true → step b q
      → q.verdict ≡ Yes (Some (More (Some x) s)) → p ≡ after q (only (Some (More (wanting b.wanted x) s)) (from b q))
      → p.verdict ≡ Yes (Some n) → Made
  made_item q x s t m e w a =
      let given : p ≡ after q (only (Some (More (Some x) s)) (from b q)) = w ∙ ap (λ z. after q (only (Some (More (wanting z x) s)) (from b q))) t in
      let as_said : p ≡ q = given ∙ after-only b q (Some (More (Some x) s)) e in
      record { steps = subst (step b) (sym as_said) m; is_made = subst IsMade (some-same (same_yes (ap (λ (y : Outcome (Next S A) Er St). y.verdict) given) a)) tt }

  made_end : (q : Outcome (Next S A) Er St) → step b q → q.verdict ≡ Yes (Some End) → p ≡ after q (only (Some End) (from b q)) → p.verdict ≡ Yes (Some n) → Made
  made_end q m e w a =
      let as_said : p ≡ q = w ∙ after-only b q (Some End) e in
      record { steps = subst (step b) (sym as_said) m; is_made = subst IsMade (some-same (same_yes (ap (λ (y : Outcome (Next S A) Er St). y.verdict) w) a)) tt }

  made_by : (q : Outcome (Next S A) Er St) (r : Outcome (Next S A) Er St) (v : Option (Next S A)) → b.wanted ≡ true
      → step b q → q.verdict ≡ Yes v → AfterStep Offers (Given (Some End)) v (from b q) r → p ≡ after q r
      → p.verdict ≡ Yes (Some n) → Made
  made_by q r (Some (More (Some x) s)) t m e f w a = made_item q x s t m e (w ∙ ap (after q) f) a
  made_by q r (Some (More None s)) t m e f w a = absurd f
  made_by q r (Some End) t m e f w a = made_end q m e (w ∙ ap (after q) f) a
  made_by q r None t m e f w a = absurd f

  makes-made : b.wanted ≡ true → MakesItem step b p → p.verdict ≡ Yes (Some n) → Made
  makes-made t m a =
      let y = both_yes (Asked true step) (AfterStep Offers (Given (Some End))) b p (Some n) m a in
      let here : record b { wanted = true } ≡ b = ap (λ w. record b { wanted = w }) (sym t) in
      made_by y.first y.second y.value t (subst (λ c. step c y.first) here y.meant.run) y.said y.follows y.whole a

module _ {Tok Cx St Er S O C : Type 0} (gives : S → Meaning Tok Cx St Er (Next S O)) (outer : List O → C → Type 0) (quiet : Type 0) where
  end_at : (s : S) (b : Beginning Tok Cx St) (p : Outcome (Next S O) Er St) → gives s b p → p.verdict ≡ Yes (Some End)
      → (room : ℕ) (ys : List O) (c : C) → outer ys c
      → AllSteps gives (Appends quiet) (Collected outer) room (Some ys) s b (after p (only (Some c) (from b p)))
  end_at s b p m e zero ys c h =
      yes_both (gives s) (AfterStep (λ _ _. Stops CountTooLarge) (Collected outer (Some ys))) b p (Some End)
      (only (Some c) (from b p)) m e (record { value = Some c; is = h; given = refl })
  end_at s b p m e (suc room) ys c h =
      yes_both (gives s)
      (AfterStep
      (λ v t. Chained (Appends quiet (Some ys) v) (λ l. AllSteps gives (Appends quiet) (Collected outer) room l t))
      (Collected outer (Some ys)))
      b p (Some End) (only (Some c) (from b p)) m e (record { value = Some c; is = h; given = refl })

  -- these collections are collected from here on, in the way of an outcome
  record Goes {D : Type 0} (os : List O) (s : S) (b : Beginning Tok Cx St) (o : Outcome D Er St) : Type 0 where
    pub all : (room : ℕ) → length os ≤ room → (ys : List O) (c : C) → outer (ys ++ os) c → AllSteps gives (Appends quiet) (Collected outer) room (Some ys) s b (retold (Yes (Some c)) o)

  module _ {D : Type 0} (s : S) (b : Beginning Tok Cx St) (p : Outcome (Next S O) Er St) (m : gives s b p) where
    goes-end : p.verdict ≡ Yes (Some End) → (d : D) → Goes [] s b (after p (only (Some d) (from b p)))
    goes-end e d = record { all = λ room l ys c h. end_at s b p m e room ys c (subst (λ zs. outer zs c) (append-nil ys) h) }

    more_at : (x : O) (t : S) (e : p.verdict ≡ Yes (Some (More (Some x) t))) (os : List O) (q : Outcome D Er St)
        → Goes os t (from b p) q → (room : ℕ) → length (x ∷ os) ≤ room → (ys : List O) (c : C)
        → outer (ys ++ x ∷ os) c
        → AllSteps gives (Appends quiet) (Collected outer) room (Some ys) s b (retold (Yes (Some c)) (after p q))
    more_at x t e os q g zero l ys c h = absurd (omega (arith, l))
    more_at x t e os q g (suc room) l ys c h =
        let rest = g.all room (omega (arith, l)) (ys ++ x ∷ []) c (subst (λ zs. outer zs c) (sym (append_assoc ys (x ∷ []) os)) h) in
        let making : Chained (Appends quiet (Some ys) (Some x))
        (λ y. AllSteps gives (Appends quiet) (Collected outer) room y t) (from b p) (retold (Yes (Some c)) q) =
        record { first = only (Some (ys ++ x ∷ [])) (from b p); meant = inr refl; follows = (retold (Yes (Some c)) q, rest, refl) }
        in
        yes_both (gives s)
        (AfterStep
        (λ v u. Chained (Appends quiet (Some ys) v) (λ y. AllSteps gives (Appends quiet) (Collected outer) room y u))
        (Collected outer (Some ys)))
        b p (Some (More (Some x) t)) (retold (Yes (Some c)) q) m e making

    goes-more : (x : O) (t : S) → p.verdict ≡ Yes (Some (More (Some x) t)) → (os : List O) (q : Outcome D Er St) → Goes os t (from b p) q → Goes (x ∷ os) s b (after p q)
    goes-more x t e os q g = record { all = more_at x t e os q g }

module _ {Tok Cx St Er S O J A C D : Type 0} (makes : O → J → Type 0) (nexts : J → Option A → J → Type 0)
    (gives : S → Meaning Tok Cx St Er (Next S O)) (outer : List O → C → Type 0) (quiet : Type 0) where
  -- these items are those of collections that are collected in the way of an outcome
  record Walked (s : S) (b : Beginning Tok Cx St) (o : Outcome D Er St) (ws : List A) : Type 0 where
    pub collections : List O
    pub have : HaveItems makes nexts collections ws
    pub goes : Goes gives outer quiet collections s b o

  -- the same after what is left of the one in hand
  abbrev Remains : Option J → S → Beginning Tok Cx St → Outcome D Er St → List A → Type 0
  Remains None s b q ws = Walked s b q ws
  Remains (Some j) s b q ws = (rest : List A) × (zs : List A) × Drains nexts j rest × Walked s b q zs × (ws ≡ rest ++ zs)

  -- what follows an item, or the end
  abbrev On : D → Next (S × Option J) A → Beginning Tok Cx St → Outcome D Er St → List A → Type 0
  On d (More (Some x) u) b q ws = (vs : List A) × Remains u.1 u.0 b q vs × (ws ≡ x ∷ vs)
  On d (More None u) b q ws = ⊥
  On d End b q ws = Given (Some d) b q × (ws ≡ [])

  passed_over : (s : S) (b : Beginning Tok Cx St) (p : Outcome (Next S O) Er St) → gives s b p
      → (q : Outcome D Er St) (ws : List A) (c : O) (t : S) → p.verdict ≡ Yes (Some (More (Some c) t))
      → CollectionHas makes nexts c [] → Walked t (from b p) q ws → Walked s b (after p q) ws
  passed_over s b p m q ws c t e n w = record { collections = c ∷ w.collections; have = ([], ws, n, w.have, refl); goes = goes-more gives outer quiet s b p m c t e w.collections q w.goes }

  walked_whole : (s : S) (b : Beginning Tok Cx St) (p : Outcome (Next (S × Option J) A) Er St)
      (f : Outcome (Next S O) Er St) (r : Outcome (Next (S × Option J) A) Er St) (q : Outcome D Er St) (ws : List A)
      → p ≡ after f r → Walked s b (after f (after r q)) ws → Walked s b (after p q) ws
  walked_whole s b p f r q ws e w =
      let other : Walked s b (after (after f r) q) ws =
      record {
        collections = w.collections;
        have = w.have;
        goes = subst (λ (y : Outcome D Er St). Goes gives outer quiet w.collections s b y) (sym (afters f r q)) w.goes;
      }
      in
      subst (λ (y : Outcome (Next (S × Option J) A) Er St). Walked s b (after y q) ws) (sym e) other

  module _ (d : D) (s : S) (b : Beginning Tok Cx St) (p : Outcome (Next S O) Er St) (m : gives s b p) (q : Outcome D Er St) (ws : List A) where
    first_found : (c : O) (t : S) (x : A) (j k : J) → p.verdict ≡ Yes (Some (More (Some c) t)) → makes c j
        → nexts j (Some x) k → On d (More (Some x) (t, Some k)) (from b p) q ws → Walked s b (after p q) ws
    first_found c t x j k e n h on =
        let left = on.1 in
        record {
          collections = c ∷ left.3.collections;
          have = (x ∷ left.0, left.1, (j, n, drains-more nexts j k x left.0 h left.2), left.3.have, on.2 ∙ ap (λ vs. x ∷ vs) left.4);
          goes = goes-more gives outer quiet s b p m c t e left.3.collections q left.3.goes;
        }

    ended : p.verdict ≡ Yes (Some End) → Given (Some d) (from b p) q → ws ≡ [] → Walked s b (after p q) ws
    ended e g z = record { collections = []; have = z; goes = subst (λ y. Goes gives outer quiet [] s b (after p y)) (sym g) (goes-end gives outer quiet s b p m e d) }

    module _ (n : Next (S × Option J) A) (else : S → Meaning Tok Cx St Er (Next (S × Option J) A))
        (rest : (t : S) (r : Outcome (Next (S × Option J) A) Er St) → else t (from b p) r → r.verdict ≡ Yes (Some n) → On d n (from (from b p) r) q ws → Walked t (from b p) (after r q) ws) where
      first_or_rest : (v : Option (Next S O)) (r : Outcome (Next (S × Option J) A) Er St) → p.verdict ≡ Yes v
          → AfterStep (λ y t. FirstElse makes nexts (else t) y t) (Given (Some End)) v (from b p) r
          → r.verdict ≡ Yes (Some n) → On d n (from (from b p) r) q ws → Walked s b (after p (after r q)) ws
      first_or_rest (Some (More (Some c) t)) r e (inl f) a on =
          let is : More (Some f.0) (t, Some f.2) ≡ n = some-same (same_yes (ap (λ (y : Outcome (Next (S × Option J) A) Er St). y.verdict) f.5) a) in
          let here : On d (More (Some f.0) (t, Some f.2)) (from b p) q ws =
          subst (λ y. On d y (from b p) q ws) (sym is)
          (subst (λ (y : Outcome (Next (S × Option J) A) Er St). On d n (from (from b p) y) q ws) f.5 on) in
          subst (λ (y : Outcome (Next (S × Option J) A) Er St). Walked s b (after p (after y q)) ws) (sym f.5) (first_found c t f.0 f.1 f.2 e f.3 f.4 here)
      first_or_rest (Some (More (Some c) t)) r e (inr f) a on = passed_over s b p m (after r q) ws c t e f.0 (rest t r f.1 a on)
      first_or_rest (Some (More None t)) r e f a on = absurd f
      first_or_rest (Some End) r e f a on =
          let is : End ≡ n = some-same (same_yes (ap (λ (y : Outcome (Next (S × Option J) A) Er St). y.verdict) f) a) in
          let here : On d End (from b p) q ws = subst (λ y. On d y (from b p) q ws) (sym is) (subst (λ (y : Outcome (Next (S × Option J) A) Er St). On d n (from (from b p) y) q ws) f on) in
          subst (λ (y : Outcome (Next (S × Option J) A) Er St). Walked s b (after p (after y q)) ws) (sym f) (ended e here.0 here.1)
      first_or_rest None r e f a on = absurd f

  module _ {Mk : Type 0} (mark : St → Mk) (back : St → Mk → St) (safe : Type 0) (d : D) where
    first-walk : (room : ℕ) (s : S) (b : Beginning Tok Cx St) (p : Outcome (Next (S × Option J) A) Er St)
        (q : Outcome D Er St) (n : Next (S × Option J) A) (ws : List A)
        → FirstSteps mark back safe makes nexts gives room s b p → p.verdict ≡ Yes (Some n) → On d n (from b p) q ws
        → Walked s b (after p q) ws
    first-walk zero s b p q n ws m a on =
        let y = both_yes (Inside mark back safe gives s) (AfterStep (FirstElse makes nexts (Stops CountTooLarge)) (Given (Some End))) b p (Some n) m a in
        let there : On d n (from (from b y.first) y.second) q ws = subst (λ (z : Outcome (Next (S × Option J) A) Er St). On d n (from b z) q ws) y.whole on in
        let w = first_or_rest d s b y.first (not_undone mark back safe (gives s) b y.first y.value y.meant y.said) q ws n (λ t. Stops CountTooLarge)
        (λ t r h e k. absurd (subst IsYes (ap (λ (x : Outcome (Next (S × Option J) A) Er St). x.verdict) h) (is_yes e))) y.value y.second y.said y.follows y.answers there in
        walked_whole s b p y.first y.second q ws y.whole w
    first-walk (suc room) s b p q n ws m a on =
        let y = both_yes (Inside mark back safe gives s) (AfterStep (λ v t. FirstElse makes nexts (FirstSteps mark back safe makes nexts gives room t) v t) (Given (Some End))) b p (Some n) m a in
        let there : On d n (from (from b y.first) y.second) q ws = subst (λ (z : Outcome (Next (S × Option J) A) Er St). On d n (from b z) q ws) y.whole on in
        let w = first_or_rest d s b y.first (not_undone mark back safe (gives s) b y.first y.value y.meant y.said) q ws n (FirstSteps mark back safe makes nexts gives room)
        (λ t r h e k. first-walk room t (from b y.first) r q n ws h e k) y.value y.second y.said y.follows y.answers there in
        walked_whole s b p y.first y.second q ws y.whole w

    hand-walk : (h : Option J) (s : S) (b : Beginning Tok Cx St) (p : Outcome (Next (S × Option J) A) Er St)
        (q : Outcome D Er St) (n : Next (S × Option J) A) (ws : List A)
        → InHandOrNext mark back safe makes nexts gives h s b p → p.verdict ≡ Yes (Some n) → On d n (from b p) q ws
        → Remains h s b (after p q) ws
    hand-walk None s b p q n ws m a on = first-walk m.room s b p q n ws (first-unlisted mark back safe makes nexts gives m.room s b p m.first) a on
    hand-walk (Some j) s b p q n ws (inl f) a on =
        let is : More (Some f.0) (s, Some f.1) ≡ n = some-same (same_yes (ap (λ (y : Outcome (Next (S × Option J) A) Er St). y.verdict) f.3) a) in
        let here : On d (More (Some f.0) (s, Some f.1)) b q ws = subst (λ y. On d y b q ws) (sym is) (subst (λ (y : Outcome (Next (S × Option J) A) Er St). On d n (from b y) q ws) f.3 on) in
        let left = here.1 in (
          f.0 ∷ left.0,
          left.1,
          drains-more nexts j f.1 f.0 left.0 f.2 left.2,
          subst (λ (y : Outcome (Next (S × Option J) A) Er St). Walked s b (after y q) left.1) (sym f.3) left.3,
          here.2 ∙ ap (λ vs. f.0 ∷ vs) left.4,
        )
    hand-walk (Some j) s b p q n ws (inr f) a on =
        ([], ws, drains-none nexts j f.0 f.1, first-walk f.2.room s b p q n ws (first-unlisted mark back safe makes nexts gives f.2.room s b p f.2.first) a on, refl)

    module _ (holds : List A → D → Type 0) (still : Type 0) where
      -- the items so far, and then what is left, are held
      abbrev Leads : List A → S × Option J → Beginning Tok Cx St → Outcome D Er St → Type 0
      Leads xs s b o = (ws : List A) × holds (xs ++ ws) d × Remains s.1 s.0 b o ws

      ends_so : (xs : List A) (s : S × Option J) (b : Beginning Tok Cx St) (p : Outcome (Next (S × Option J) A) Er St)
          (q o : Outcome D Er St)
          → b.wanted ≡ true → Flattens mark back safe makes nexts gives s b p → p.verdict ≡ Yes (Some End)
          → Collected holds (Some xs) (from b p) q → q.verdict ≡ Yes (Some d) → o ≡ after p q → Leads xs s b o
      ends_so xs s b p q o t m e f a w =
          let k = collected-value holds xs (from b p) q d f a in
          let made = makes-made (InHandOrNext mark back safe makes nexts gives s.1 s.0) b p End t m.step e in
          ([], subst (λ zs. holds zs d) (sym (append-nil xs)) k.0, subst (λ (y : Outcome D Er St). Remains s.1 s.0 b y []) (sym w) (hand-walk s.1 s.0 b p q End [] made.steps e (k.1, refl)))

      goes_on : (xs : List A) (s u : S × Option J) (x : A) (b : Beginning Tok Cx St)
          (p : Outcome (Next (S × Option J) A) Er St) (q o : Outcome D Er St)
          → InHandOrNext mark back safe makes nexts gives s.1 s.0 b p → p.verdict ≡ Yes (Some (More (Some x) u))
          → Leads (xs ++ x ∷ []) u (from b p) q → o ≡ after p q → Leads xs s b o
      goes_on xs s u x b p q o m e l w = (
        x ∷ l.0,
        subst (λ zs. holds zs d) (append_assoc xs (x ∷ []) l.0) l.1,
        subst (λ (y : Outcome D Er St). Remains s.1 s.0 b y (x ∷ l.0)) (sym w)
            (hand-walk s.1 s.0 b p q (More (Some x) u) (x ∷ l.0) m e (l.0, l.2, refl)),
      )

      appended_so : (xs : List A) (s u : S × Option J) (x : A) (b : Beginning Tok Cx St)
          (p : Outcome (Next (S × Option J) A) Er St) (r : Outcome (List A) Er St) (l : Option (List A))
          (q q' o : Outcome D Er St) (steps : Option (List A) → Meaning Tok Cx St Er D)
          → ((c : Beginning Tok Cx St) (z : Outcome D Er St) → c.wanted ≡ true → steps (Some (xs ++ x ∷ [])) c z → z.verdict ≡ Yes (Some d) → Leads (xs ++ x ∷ []) u c z)
          → b.wanted ≡ true → InHandOrNext mark back safe makes nexts gives s.1 s.0 b p
          → p.verdict ≡ Yes (Some (More (Some x) u)) → Appends still (Some xs) (Some x) (from b p) r
          → r.verdict ≡ Yes l → steps l (from (from b p) r) q → q.verdict ≡ Yes (Some d) → q' ≡ after r q
          → o ≡ after p q' → Leads xs s b o
      appended_so xs s u x b p r l q q' o steps ih t m e n k f a w z =
          let g = appended still xs x (from b p) r l n k in
          let is : l ≡ Some (xs ++ x ∷ []) = same_yes k (ap (λ (y : Outcome (List A) Er St). y.verdict) g) in
          let here : steps (Some (xs ++ x ∷ [])) (from b p) q =
          subst (λ (y : Outcome (List A) Er St). steps (Some (xs ++ x ∷ [])) (from (from b p) y) q) g
          (subst (λ y. steps y (from (from b p) r) q) is f) in
          let same : q' ≡ q = w ∙ ap (λ (y : Outcome (List A) Er St). after y q) g in
          goes_on xs s u x b p q o m e (ih (from b p) q t here a) (z ∙ ap (after p) same)

      more_so : (room : ℕ)
          →
          ((ys : List A) (u : S × Option J) (c : Beginning Tok Cx St) (z : Outcome D Er St) → c.wanted ≡ true
          → AllSteps (Flattens mark back safe makes nexts gives) (Appends still) (Collected holds) room (Some ys) u c z
          → z.verdict ≡ Yes (Some d) → Leads ys u c z)
          → (xs : List A) (s : S × Option J) (b : Beginning Tok Cx St) (p : Outcome (Next (S × Option J) A) Er St)
          (v : Option (Next (S × Option J) A)) (q o : Outcome D Er St)
          → b.wanted ≡ true → Flattens mark back safe makes nexts gives s b p → p.verdict ≡ Yes v
          → AfterStep
          (λ y u. Chained (Appends still (Some xs) y)
          (λ l. AllSteps (Flattens mark back safe makes nexts gives) (Appends still) (Collected holds) room l u))
          (Collected holds (Some xs)) v (from b p) q
          → q.verdict ≡ Yes (Some d) → o ≡ after p q → Leads xs s b o
      more_so room ih xs s b p (Some (More (Some x) u)) q o t m e f a w =
          let made = makes-made (InHandOrNext mark back safe makes nexts gives s.1 s.0) b p (More (Some x) u) t m.step e in
          let y = both_yes (Appends still (Some xs) (Some x)) (λ l. AllSteps (Flattens mark back safe makes nexts gives) (Appends still) (Collected holds) room l u) (from b p) q (Some d) f a in
          appended_so xs s u x b p y.first y.value y.second q o
          (λ l. AllSteps (Flattens mark back safe makes nexts gives) (Appends still) (Collected holds) room l u)
          (ih (xs ++ x ∷ []) u) t made.steps e y.meant y.said y.follows y.answers y.whole w
      more_so room ih xs s b p (Some (More None u)) q o t m e f a w = absurd (makes-made (InHandOrNext mark back safe makes nexts gives s.1 s.0) b p (More None u) t m.step e).is_made
      more_so room ih xs s b p (Some End) q o t m e f a w = ends_so xs s b p q o t m e f a w
      more_so room ih xs s b p None q o t m e f a w = absurd f

      full_so : (xs : List A) (s : S × Option J) (b : Beginning Tok Cx St) (p : Outcome (Next (S × Option J) A) Er St)
          (v : Option (Next (S × Option J) A)) (q o : Outcome D Er St)
          → b.wanted ≡ true → Flattens mark back safe makes nexts gives s b p → p.verdict ≡ Yes v
          → AfterStep (λ _ _. Stops CountTooLarge) (Collected holds (Some xs)) v (from b p) q → q.verdict ≡ Yes (Some d) → o ≡ after p q → Leads xs s b o
      full_so xs s b p (Some (More y u)) q o t m e f a w = absurd (subst IsYes (ap (λ (x : Outcome D Er St). x.verdict) f) (is_yes a))
      full_so xs s b p (Some End) q o t m e f a w = ends_so xs s b p q o t m e f a w
      full_so xs s b p None q o t m e f a w = absurd f

      flat-walk : (room : ℕ) (xs : List A) (s : S × Option J) (b : Beginning Tok Cx St) (o : Outcome D Er St)
          → b.wanted ≡ true
          → AllSteps (Flattens mark back safe makes nexts gives) (Appends still) (Collected holds) room (Some xs) s b o
          → o.verdict ≡ Yes (Some d) → Leads xs s b o
      flat-walk zero xs s b o t m a =
          let y = both_yes (Flattens mark back safe makes nexts gives s) (AfterStep (λ _ _. Stops CountTooLarge) (Collected holds (Some xs))) b o (Some d) m a in
          full_so xs s b y.first y.value y.second o t y.meant y.said y.follows y.answers y.whole
      flat-walk (suc room) xs s b o t m a =
          let y =
          both_yes (Flattens mark back safe makes nexts gives s)
          (AfterStep
          (λ v u. Chained (Appends still (Some xs) v)
          (λ l. AllSteps (Flattens mark back safe makes nexts gives) (Appends still) (Collected holds) room l u))
          (Collected holds (Some xs)))
          b o (Some d) m a in
          more_so room (λ ys u c z. flat-walk room ys u c z) xs s b y.first y.value y.second o t y.meant y.said y.follows y.answers y.whole

module _ {Tok Cx St Mk Er S O J A C D : Type 0} (mark : St → Mk) (back : St → Mk → St) (safe : Type 0)
    (makes : O → J → Type 0) (nexts : J → Option A → J → Type 0) (begins : Meaning Tok Cx St Er S)
    (gives : S → Meaning Tok Cx St Er (Next S O)) (outer : List O → C → Type 0) (quiet : Type 0)
    (holds : List A → D → Type 0) (still : Type 0) where
  -- an iteration that begins, with nothing in hand
  record Begun (b : Beginning Tok Cx St) (p : Outcome (S × Option J) Er St) (v : Option (S × Option J)) : Type 0 where
    pub inside : Outcome S Er St
    pub meant : begins b inside
    pub state : S
    pub said : inside.verdict ≡ Yes (Some state)
    pub is : v ≡ Some (state, None)
    pub whole : p ≡ after inside (only (Some (state, None)) (from b inside))

  begun_by : (b : Beginning Tok Cx St) (p : Outcome (S × Option J) Er St) (u : S × Option J) (q : Outcome S Er St)
      (r : Outcome (S × Option J) Er St) (v : Option S)
      → begins b q → q.verdict ≡ Yes v → Given (option_map (λ t. (t, None)) v) (from b q) r → r.verdict ≡ Yes (Some u)
      → p ≡ after q r → Begun b p (Some u)
  begun_by b p u q r (Some t) m e g a w = record { inside = q; meant = m; state = t; said = e; is = same_yes a (ap (λ (x : Outcome (S × Option J) Er St). x.verdict) g); whole = w ∙ ap (after q) g }
  begun_by b p u q r None m e g a w = let no : None ≡ Some u = same_yes (ap (λ (x : Outcome (S × Option J) Er St). x.verdict) g) a in let bad : ⊥ = cc in absurd bad

  begun : (b : Beginning Tok Cx St) (p : Outcome (S × Option J) Er St) (u : S × Option J) → BeginsInside begins b p → p.verdict ≡ Yes (Some u) → Begun b p (Some u)
  begun b p u m a =
      let y = both_yes begins (λ s. Given (option_map (λ t. (t, None)) s)) b p (Some u) m a in
      begun_by b p u y.first y.second y.value y.meant y.said y.follows y.answers y.whole

  record Parted (b : Beginning Tok Cx St) (o : Outcome D Er St) (d : D) : Type 0 where
    pub collections : List O
    pub items : List A
    pub have : HaveItems makes nexts collections items
    pub held : holds items d
    pub collected : length collections < 2 ^ 64 → (c : C) → outer collections c → Collects gives begins outer quiet b (retold (Yes (Some c)) o)

  begun_walk : (b : Beginning Tok Cx St) (p : Outcome (S × Option J) Er St) (q : Outcome D Er St) (u : S × Option J)
      (ws : List A) (g : Begun (record b { wanted = true }) p (Some u))
      → Remains makes nexts gives outer quiet u.1 u.0 (from b p) q ws
      → Walked makes nexts gives outer quiet g.state (from b g.inside) q ws
  begun_walk b p q u ws g w =
      let is : u ≡ (g.state, None) = some-same g.is in
      let there : Remains makes nexts gives outer quiet None g.state (from b p) q ws = subst (λ (z : S × Option J). Remains makes nexts gives outer quiet z.1 z.0 (from b p) q ws) is w in
      subst (λ (z : Outcome (S × Option J) Er St). Walked makes nexts gives outer quiet g.state (from b z) q ws) g.whole there

  collected_so : (b : Beginning Tok Cx St) (o q : Outcome D Er St) (p : Outcome (S × Option J) Er St)
      (u : S × Option J) (room : ℕ) (ws : List A) (g : Begun (record b { wanted = true }) p (Some u))
      (w : Walked makes nexts gives outer quiet g.state (from b g.inside) q ws)
      → room + 1 ≡ 2 ^ 64 → b.wanted ≡ true → o ≡ after p q
      → length w.collections < 2 ^ 64 → (c : C) → outer w.collections c → Collects gives begins outer quiet b (retold (Yes (Some c)) o)
  collected_so b o q p u room ws g w full t e l c h =
      let rest : FromMade gives (Appends quiet) (Collected outer) room (Some []) (Some g.state) (from b g.inside)
      (retold (Yes (Some c)) q) =
      listed gives (Appends quiet) (Collected outer) room (Some []) g.state (from b g.inside)
      (retold (Yes (Some c)) q) (w.goes.all room (omega (arith, l, full)) [] c h) in
      let as_wanted = subst (λ z. FromMade gives (Appends quiet) (Collected outer) room (wanting z []) (Some g.state) (from b g.inside) (retold (Yes (Some c)) q)) (sym t) rest in
      let run =
      yes_both (Asked true begins) (FromMade gives (Appends quiet) (Collected outer) room (wanting b.wanted [])) b
      g.inside (Some g.state) (retold (Yes (Some c)) q) (record { run = g.meant }) g.said as_wanted in
      let whole : o ≡ after g.inside q = e ∙ ap (λ z. after z q) g.whole ∙ afters {V = S × Option J} g.inside (only (Some (g.state, None)) (from (record b { wanted = true }) g.inside)) q in
      record {
        room = room;
        full = full;
        run =
            subst
            (Chained (Asked true begins) (FromMade gives (Appends quiet) (Collected outer) room (wanting b.wanted [])) b)
            (sym (ap (λ (z : Outcome D Er St). retold (Yes (Some c)) z) whole)) run;
      }

  made_parted : (b : Beginning Tok Cx St) (o q : Outcome D Er St) (d : D) (p : Outcome (S × Option J) Er St)
      (room : ℕ) (v : Option (S × Option J))
      → room + 1 ≡ 2 ^ 64 → b.wanted ≡ true → BeginsInside begins (record b { wanted = true }) p → p.verdict ≡ Yes v
      → FromMade (Flattens mark back safe makes nexts gives) (Appends still) (Collected holds) room (wanting b.wanted []) v (from b p) q → q.verdict ≡ Yes (Some d) → o ≡ after p q → Parted b o d
  made_parted b o q d p room (Some u) full t m e f a w =
      let steps : AllSteps (Flattens mark back safe makes nexts gives) (Appends still) (Collected holds) room (Some []) u (from b p) q =
      subst
      (λ z. AllSteps (Flattens mark back safe makes nexts gives) (Appends still) (Collected holds) room
      (wanting z []) u (from b p) q)
      t
      (unlisted (Flattens mark back safe makes nexts gives) (Appends still) (Collected holds) room (wanting b.wanted []) u (from b p) q f) in
      let l = flat-walk makes nexts gives outer quiet mark back safe d holds still room [] u (from b p) q t steps a in
      let g = begun (record b { wanted = true }) p u m e in
      let k = begun_walk b p q u l.0 g l.2 in
      record { collections = k.collections; items = l.0; have = k.have; held = l.1; collected = collected_so b o q p u room l.0 g k full t w }
  made_parted b o q d p room None full t m e f a w = absurd f

  parted : (b : Beginning Tok Cx St) (o : Outcome D Er St) (d : D) → b.wanted ≡ true
      → Collects (Flattens mark back safe makes nexts gives) (BeginsInside begins) holds still b o
      → o.verdict ≡ Yes (Some d) → Parted b o d
  parted b o d t m a =
      let y = both_yes (Asked true (BeginsInside begins)) (FromMade (Flattens mark back safe makes nexts gives) (Appends still) (Collected holds) m.room (wanting b.wanted [])) b o (Some d) m.run a in
      made_parted b o y.second d y.first m.room y.value m.full t y.meant.run y.said y.follows y.answers y.whole

  -- what is collected of flattened items
  pub flattened-apart : (b : Beginning Tok Cx St) (o : Outcome D Er St) (d : D) → b.wanted ≡ true
      → Collects (Flattens mark back safe makes nexts gives) (BeginsInside begins) holds still b o
      → o.verdict ≡ Yes (Some d)
      → (os : List O) × (xs : List A) × HaveItems makes nexts os xs × holds xs d × (length os < 2 ^ 64 → (c : C) → outer os c → Collects gives begins outer quiet b (retold (Yes (Some c)) o))
  flattened-apart b o d t m a = let k = parted b o d t m a in (k.collections, k.items, k.have, k.held, k.collected)

module _ {Tok Cx St Er U V W : Type 0} (w : Verdict W Er) (p : Outcome U Er St) (v : Option V) (c : Beginning Tok Cx St) where
  -- what was done, and then nothing, in the words of another verdict
  retold-only : (q : Outcome V Er St) → q ≡ only v (from c p) → retold w (after p q) ≡ retold w p
  retold-only q e =
      ap (λ (z : Outcome V Er St). retold w (after p z)) e
      ∙ ap (λ es. record { verdict = w; end = p.end; state = p.state; events = es; emitted = p.emitted ++ [] }) (append-nil p.events)
      ∙ ap (λ es. record { verdict = w; end = p.end; state = p.state; events = p.events; emitted = es }) (append-nil p.emitted)

module _ {J A : Type 0} (nexts : J → Option A → J → Type 0) where
  abbrev Took : J → Next J A → Type 0
  Took j (More (Some x) k) = nexts j (Some x) k
  Took j (More None k) = ⊥
  Took j End = ⊥

module _ {Tok Cx St Er J A D : Type 0} (nexts : J → Option A → J → Type 0) (holds : List A → D → Type 0) (still : Type 0) (d : D) where
  -- the items so far, and then those that an iterator has left, are held; and nothing is done
  abbrev Left : List A → J → Beginning Tok Cx St → Outcome D Er St → Type 0
  Left xs j b o = (ws : List A) × Drains nexts j ws × holds (xs ++ ws) d × (o ≡ only (Some d) b)

  left_end : (xs : List A) (j : J) (b : Beginning Tok Cx St) (p : Outcome (Next J A) Er St) (q o : Outcome D Er St)
      → NextOf nexts j b p → p.verdict ≡ Yes (Some End) → Collected holds (Some xs) (from b p) q
      → q.verdict ≡ Yes (Some d) → o ≡ after p q → Left xs j b o
  left_end xs j b p q o (inl f) e m a w = let no : Yes (Some (More (Some f.0) f.1)) ≡ Yes (Some End) = sym (ap (λ (y : Outcome (Next J A) Er St). y.verdict) f.3) ∙ e in let bad : ⊥ = cc in absurd bad
  left_end xs j b p q o (inr f) e m a w =
      let k = collected-value holds xs (from b p) q d m a in
      let given : q ≡ only (Some d) b = subst (λ (y : Outcome (Next J A) Er St). q ≡ only (Some d) (from b y)) f.2 k.1 in
      let whole : o ≡ q = subst (λ (y : Outcome (Next J A) Er St). o ≡ after y q) f.2 w in
      ([], drains-none nexts j f.0 f.1, subst (λ zs. holds zs d) (sym (append-nil xs)) k.0, whole ∙ given)

  left_more : (xs : List A) (j k : J) (x : A) (b : Beginning Tok Cx St) (p : Outcome (Next J A) Er St)
      (r : Outcome (List A) Er St) (l : Option (List A)) (z q o : Outcome D Er St)
      (steps : Option (List A) → J → Meaning Tok Cx St Er D)
      → ((c : Beginning Tok Cx St) (y : Outcome D Er St) → c.wanted ≡ true → steps (Some (xs ++ x ∷ [])) k c y → y.verdict ≡ Yes (Some d) → Left (xs ++ x ∷ []) k c y)
      → b.wanted ≡ true → NextOf nexts j b p → p.verdict ≡ Yes (Some (More (Some x) k))
      → Appends still (Some xs) (Some x) (from b p) r → r.verdict ≡ Yes l → steps l k (from (from b p) r) z
      → z.verdict ≡ Yes (Some d) → q ≡ after r z → o ≡ after p q → Left xs j b o
  left_more xs j k x b p r l z q o steps ih t (inr f) e n s m a w u =
      let no : Yes (Some End) ≡ Yes (Some (More (Some x) k)) = sym (ap (λ (y : Outcome (Next J A) Er St). y.verdict) f.2) ∙ e in
      let bad : ⊥ = cc in
      absurd bad
  left_more xs j k x b p r l z q o steps ih t (inl f) e n s m a w u =
      let is : More (Some f.0) f.1 ≡ More (Some x) k = some-same (same_yes (ap (λ (y : Outcome (Next J A) Er St). y.verdict) f.3) e) in
      let step : nexts j (Some x) k = subst (Took nexts j) is f.2 in
      let g = appended still xs x (from b p) r l n s in
      let list : l ≡ Some (xs ++ x ∷ []) = same_yes s (ap (λ (y : Outcome (List A) Er St). y.verdict) g) in
      let one : steps (Some (xs ++ x ∷ [])) k (from (from b p) r) z = subst (λ y. steps y k (from (from b p) r) z) list m in
      let two : steps (Some (xs ++ x ∷ [])) k (from b p) z = subst (λ (y : Outcome (List A) Er St). steps (Some (xs ++ x ∷ [])) k (from (from b p) y) z) g one in
      let here : steps (Some (xs ++ x ∷ [])) k b z = subst (λ (y : Outcome (Next J A) Er St). steps (Some (xs ++ x ∷ [])) k (from b y) z) f.3 two in
      let rest = ih b z t here a in
      let same : q ≡ z = w ∙ ap (λ (y : Outcome (List A) Er St). after y z) g in
      let whole : o ≡ q = u ∙ ap (λ (y : Outcome (Next J A) Er St). after y q) f.3 in
      (x ∷ rest.0, drains-more nexts j k x rest.0 step rest.1, subst (λ zs. holds zs d) (append_assoc xs (x ∷ []) rest.0) rest.2, whole ∙ same ∙ rest.3)

  next_made : (j : J) (b : Beginning Tok Cx St) (p : Outcome (Next J A) Er St) (n : Next J A) → b.wanted ≡ true → GivesNext nexts j b p → p.verdict ≡ Yes (Some n) → Made (NextOf nexts j) b p n
  next_made j b p n t m e = makes-made (NextOf nexts j) b p n t m.step e

  left_full : (xs : List A) (j : J) (b : Beginning Tok Cx St) (p : Outcome (Next J A) Er St) (v : Option (Next J A)) (q o : Outcome D Er St)
      → b.wanted ≡ true → GivesNext nexts j b p → p.verdict ≡ Yes v
      → AfterStep (λ _ _. Stops CountTooLarge) (Collected holds (Some xs)) v (from b p) q → q.verdict ≡ Yes (Some d)
      → o ≡ after p q → Left xs j b o
  left_full xs j b p (Some (More x k)) q o t m e f a w = absurd (subst IsYes (ap (λ (y : Outcome D Er St). y.verdict) f) (is_yes a))
  left_full xs j b p (Some End) q o t m e f a w = left_end xs j b p q o (next_made j b p End t m e).steps e f a w
  left_full xs j b p None q o t m e f a w = absurd f

  left_on : (room : ℕ)
      →
      ((ys : List A) (k : J) (c : Beginning Tok Cx St) (y : Outcome D Er St) → c.wanted ≡ true
      → AllSteps (GivesNext nexts) (Appends still) (Collected holds) room (Some ys) k c y
      → y.verdict ≡ Yes (Some d) → Left ys k c y)
      → (xs : List A) (j : J) (b : Beginning Tok Cx St) (p : Outcome (Next J A) Er St) (v : Option (Next J A)) (q o : Outcome D Er St) → b.wanted ≡ true → GivesNext nexts j b p → p.verdict ≡ Yes v
      → AfterStep
      (λ y k. Chained (Appends still (Some xs) y) (λ l. AllSteps (GivesNext nexts) (Appends still) (Collected holds) room l k))
      (Collected holds (Some xs)) v (from b p) q
      → q.verdict ≡ Yes (Some d) → o ≡ after p q → Left xs j b o
  left_on room ih xs j b p (Some (More (Some x) k)) q o t m e f a w =
      let y = both_yes (Appends still (Some xs) (Some x)) (λ l. AllSteps (GivesNext nexts) (Appends still) (Collected holds) room l k) (from b p) q (Some d) f a in
      left_more xs j k x b p y.first y.value y.second q o
      (λ l. AllSteps (GivesNext nexts) (Appends still) (Collected holds) room l) (ih (xs ++ x ∷ []) k) t
      (next_made j b p (More (Some x) k) t m e).steps e y.meant y.said y.follows y.answers y.whole w
  left_on room ih xs j b p (Some (More None k)) q o t m e f a w = absurd (next_made j b p (More None k) t m e).is_made
  left_on room ih xs j b p (Some End) q o t m e f a w = left_end xs j b p q o (next_made j b p End t m e).steps e f a w
  left_on room ih xs j b p None q o t m e f a w = absurd f

  left-walk : (room : ℕ) (xs : List A) (j : J) (b : Beginning Tok Cx St) (o : Outcome D Er St) → b.wanted ≡ true
      → AllSteps (GivesNext nexts) (Appends still) (Collected holds) room (Some xs) j b o → o.verdict ≡ Yes (Some d)
      → Left xs j b o
  left-walk zero xs j b o t m a =
      let y = both_yes (GivesNext nexts j) (AfterStep (λ _ _. Stops CountTooLarge) (Collected holds (Some xs))) b o (Some d) m a in
      left_full xs j b y.first y.value y.second o t y.meant y.said y.follows y.answers y.whole
  left-walk (suc room) xs j b o t m a =
      let y =
      both_yes (GivesNext nexts j)
      (AfterStep
      (λ v k. Chained (Appends still (Some xs) v) (λ l. AllSteps (GivesNext nexts) (Appends still) (Collected holds) room l k))
      (Collected holds (Some xs)))
      b o (Some d) m a in
      left_on room (λ ys k c z. left-walk room ys k c z) xs j b y.first y.value y.second o t y.meant y.said y.follows y.answers y.whole

module _ {Tok Cx St Er O J A D : Type 0} (makes : O → J → Type 0) (nexts : J → Option A → J → Type 0) (part : Meaning Tok Cx St Er O) (holds : List A → D → Type 0) (still : Type 0) where
  record Given_of (b : Beginning Tok Cx St) (o : Outcome D Er St) (d : D) : Type 0 where
    pub output : O
    pub items : List A
    pub has : CollectionHas makes nexts output items
    pub held : holds items d
    pub gives : part b (retold (Yes (Some output)) o)

  output_of : (b : Beginning Tok Cx St) (o q : Outcome D Er St) (d : D) (p : Outcome J Er St) (j : J) (ws : List A)
      (f : Outcome O Er St) (v : Option O) (r : Outcome J Er St)
      → b.wanted ≡ true → part (record b { wanted = true }) f → f.verdict ≡ Yes v
      → IteratorOf makes v (from (record b { wanted = true }) f) r → r.verdict ≡ Yes (Some j) → p ≡ after f r
      → Drains nexts j ws → holds ws d → q ≡ only (Some d) (from b p) → o ≡ after p q → Given_of b o d
  output_of b o q d p j ws f (Some c) r t m e i a w drains h k u =
      let same : i.0 ≡ j = some-same (same_yes (ap (λ (x : Outcome J Er St). x.verdict) i.2) a) in
      let here : record b { wanted = true } ≡ b = ap (λ z. record b { wanted = z }) (sym t) in
      let last : retold (Yes (Some c)) o ≡ retold (Yes (Some c)) p = ap (λ (x : Outcome D Er St). retold (Yes (Some c)) x) u ∙ retold-only (Yes (Some c)) p (Some d) b q k in
      let first : retold (Yes (Some c)) p ≡ retold (Yes (Some c)) f =
      ap (λ (x : Outcome J Er St). retold (Yes (Some c)) x) w
      ∙ retold-only (Yes (Some c)) f (Some i.0) (record b { wanted = true }) r i.2 in
      let said : retold (Yes (Some c)) f ≡ f = ap (λ x. record f { verdict = x }) (sym e) in
      record {
        output = c;
        items = ws;
        has = (j, subst (makes c) same i.1, drains);
        held = h;
        gives =
            subst (λ x. part x (retold (Yes (Some c)) o)) here
            (subst (part (record b { wanted = true })) (sym (last ∙ first ∙ said)) m);
      }
  output_of b o q d p j ws f None r t m e i a w drains h k u = absurd i

  made_given : (b : Beginning Tok Cx St) (o q : Outcome D Er St) (d : D) (p : Outcome J Er St) (room : ℕ) (v : Option J)
      → b.wanted ≡ true → BeginsOver makes part (record b { wanted = true }) p → p.verdict ≡ Yes v
      → FromMade (GivesNext nexts) (Appends still) (Collected holds) room (wanting b.wanted []) v (from b p) q → q.verdict ≡ Yes (Some d) → o ≡ after p q → Given_of b o d
  made_given b o q d p room (Some j) t m e f a w =
      let steps : AllSteps (GivesNext nexts) (Appends still) (Collected holds) room (Some []) j (from b p) q =
      subst (λ z. AllSteps (GivesNext nexts) (Appends still) (Collected holds) room (wanting z []) j (from b p) q)
      t
      (unlisted (GivesNext nexts) (Appends still) (Collected holds) room (wanting b.wanted []) j (from b p) q f)
      in
      let l = left-walk nexts holds still d room [] j (from b p) q t steps a in
      let y = both_yes part (IteratorOf makes) (record b { wanted = true }) p (Some j) m e in
      output_of b o q d p j l.0 y.first y.value y.second t y.meant y.said y.follows y.answers y.whole l.1 l.2 l.3 w
  made_given b o q d p room None t m e f a w = absurd f

  given_of : (b : Beginning Tok Cx St) (o : Outcome D Er St) (d : D) → b.wanted ≡ true → Collects (GivesNext nexts) (BeginsOver makes part) holds still b o → o.verdict ≡ Yes (Some d) → Given_of b o d
  given_of b o d t m a =
      let y = both_yes (Asked true (BeginsOver makes part)) (FromMade (GivesNext nexts) (Appends still) (Collected holds) m.room (wanting b.wanted [])) b o (Some d) m.run a in
      made_given b o y.second d y.first m.room y.value t y.meant.run y.said y.follows y.answers y.whole

  -- what is collected of the items of an output
  pub output-collected : GivesItemsOf makes nexts holds part (Collects (GivesNext nexts) (BeginsOver makes part) holds still)
  output-collected = record { apart = λ b o d t m a. (let k = given_of b o d t m a in (k.output, k.items, k.has, k.held, k.gives)) }
