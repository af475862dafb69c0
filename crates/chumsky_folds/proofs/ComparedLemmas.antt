-- Why a fold is the fold of what is collected, and why items are numbered from 0.
use Rattle.std.proofs.Common.{◌≡◌, ◌∙◌, ℕ, zero, suc, Bool, true, false, Option, Some, None, List, [], ◌∷◌, ◌++◌, reverse, refl, sym, ap, subst, inl, inr}
use Rattle.std.specs.Prelude.{⊤}
use Rattle.std.proofs.lemmas.List.{append-nil, reverse-append}
use Rattle.chumsky_input.specs.declared.stop.Stop.TheVariants.{CountTooLarge}
use Rattle.chumsky_input.specs.Outcome.{Meaning, Beginning, Outcome, Yes}
use Rattle.chumsky_parser.specs.Chained.{Chained, Given, Asked, Sequence, both, from, retold, after}
use Rattle.chumsky_parser.specs.Copied.{GivesCopy}
use Rattle.chumsky_parser.specs.Failure.{IsWanted, Stops, wanting}
use Rattle.chumsky_parser.specs.Items.{Next, More, End, AfterStep, FromMade}
use Rattle.chumsky_parser.specs.Steps.{AllSteps, listed, unlisted}
use Rattle.chumsky_items.specs.Consumers.{Appends, HoldsAll, Collected, Collects}
use Rattle.chumsky_parser.specs.Progress.{IsYes}
use Rattle.chumsky_folds.specs.Folding.{FoldsLeft, FoldsFrom, FoldsItems, FoldsFromCopy, FoldsFromPart}
use Rattle.chumsky_folds.specs.FoldingBack.{FoldsRight, FoldsHeld, FoldedBack, FoldsBack}
use Rattle.chumsky_folds.specs.Compared.{FoldsCollected}
use Rattle.chumsky_folds.specs.FoldingLaws.{folds_left-more}
use Rattle.chumsky_parser.proofs.YesLemmas.{some-same, same_yes, is_yes, both_yes, yes_both}

module _ {Tok Cx St Er V C : Type 0} (holds : List V → C → Type 0) where
  pub collected-value : (a : Option (List V)) (b : Beginning Tok Cx St) (o : Outcome C Er St) (c : C)
      → Collected holds a b o → o.verdict ≡ Yes (Some c) → HoldsAll holds a (Some c) × Given (Some c) b o
  collected-value a b o c m e =
      let v : m.value ≡ Some c = same_yes (ap (λ (x : Outcome C Er St). x.verdict) m.given) e in
      (subst (HoldsAll holds a) v m.is, subst (λ x. Given x b o) v m.given)

module _ {Tok Cx St Er V : Type 0} (quiet still : Type 0) where
  -- an item that was put behind the others may be so whatever memory it wants
  appends-still : (a : Option (List V)) (v : Option V) (b : Beginning Tok Cx St) (r : Outcome (List V) Er St) (l : Option (List V)) → Appends quiet a v b r → r.verdict ≡ Yes l → Appends still a v b r
  appends-still (Some xs) (Some v) b r l m e = elim m [ inl n ↦ absurd (subst IsYes n.1 (is_yes e)) | inr g ↦ inr g ]
  appends-still (Some xs) None b r l m e = m
  appends-still None v b r l m e = m

module _ {Tok Cx St Er V C D : Type 0} (holds : List V → C → Type 0) (other : List V → D → Type 0) where
  -- these are the items of a yes, and so it is with each other value for them
  pub record Again (whole : Meaning Tok Cx St Er D) (b : Beginning Tok Cx St) (o : Outcome C Er St) (c : C) : Type 0 where
    pub items : Option (List V)
    pub held : HoldsAll holds items (Some c)
    pub again : (d : D) → HoldsAll other items (Some d) → whole b (retold (Yes (Some d)) o)

  again-ended : (a : Option (List V)) (b : Beginning Tok Cx St) (o : Outcome C Er St) (c : C) → Collected holds a b o → o.verdict ≡ Yes (Some c) → Again (Collected other a) b o c
  again-ended a b o c m e =
      let k = collected-value holds a b o c m e in
      record { items = a; held = k.0; again = λ d h. record { value = Some d; is = h; given = ap (λ (x : Outcome C Er St). retold (Yes (Some d)) x) k.1 } }

  again-after : {P : Type 0} (part part' : Meaning Tok Cx St Er P) (next : Option P → Meaning Tok Cx St Er C)
      (next' : Option P → Meaning Tok Cx St Er D) (b : Beginning Tok Cx St) (o : Outcome C Er St) (c : C)
      → ((p : Outcome P Er St) (v : Option P) → part b p → p.verdict ≡ Yes v → part' b p)
      → ((p : Outcome P Er St) (v : Option P) (q : Outcome C Er St) → next v (from b p) q → q.verdict ≡ Yes (Some c) → Again (next' v) (from b p) q c)
      → Chained part next b o → o.verdict ≡ Yes (Some c) → Again (Chained part' next') b o c
  again-after part part' next next' b o c k h m e =
      let y = both_yes part next b o (Some c) m e in
      let r = h y.first y.value y.second y.follows y.answers in
      record {
        items = r.items;
        held = r.held;
        again =
            λ d g. subst (Chained part' next' b) (sym (ap (λ (x : Outcome C Er St). retold (Yes (Some d)) x) y.whole))
            (yes_both part' next' b y.first y.value (retold (Yes (Some d)) y.second)
            (k y.first y.value y.meant y.said) y.said (r.again d g));
      }

module _ {Tok Cx St Er S V C D : Type 0} (gives : S → Meaning Tok Cx St Er (Next S V))
    (begins : Meaning Tok Cx St Er S) (holds : List V → C → Type 0) (other : List V → D → Type 0)
    (quiet still : Type 0) where
  again-full : (a : Option (List V)) (x : Option (Next S V)) (b : Beginning Tok Cx St) (q : Outcome C Er St) (c : C)
      → AfterStep (λ _ _. Stops CountTooLarge) (Collected holds a) x b q → q.verdict ≡ Yes (Some c)
      → Again holds other (AfterStep (λ _ _. Stops CountTooLarge) (Collected other a) x) b q c
  again-full a (Some (More v t)) b q c m e = absurd (subst IsYes (ap (λ (x : Outcome C Er St). x.verdict) m) (is_yes e))
  again-full a (Some End) b q c m e = again-ended holds other a b q c m e
  again-full a None b q c m e = absurd m

  again-more : (room : ℕ) (a : Option (List V))
      →
      ((l : Option (List V)) (t : S) (d : Beginning Tok Cx St) (q : Outcome C Er St) (c : C)
      → AllSteps gives (Appends quiet) (Collected holds) room l t d q → q.verdict ≡ Yes (Some c)
      → Again holds other (AllSteps gives (Appends still) (Collected other) room l t) d q c)
      → (x : Option (Next S V)) (b : Beginning Tok Cx St) (q : Outcome C Er St) (c : C)
      → AfterStep
      (λ v t. Chained (Appends quiet a v) (λ l. AllSteps gives (Appends quiet) (Collected holds) room l t))
      (Collected holds a) x b q
      → q.verdict ≡ Yes (Some c)
      → Again holds other (AfterStep (λ v t. Chained (Appends still a v) (λ l. AllSteps gives (Appends still) (Collected other) room l t)) (Collected other a) x) b q c
  again-more room a ih (Some (More v t)) b q c m e =
      again-after holds other (Appends quiet a v) (Appends still a v)
      (λ l. AllSteps gives (Appends quiet) (Collected holds) room l t)
      (λ l. AllSteps gives (Appends still) (Collected other) room l t) b q c
      (λ p l. appends-still quiet still a v b p l) (λ p l r n z. ih l t (from b p) r c n z) m e
  again-more room a ih (Some End) b q c m e = again-ended holds other a b q c m e
  again-more room a ih None b q c m e = absurd m

  again-steps : (room : ℕ) (a : Option (List V)) (s : S) (b : Beginning Tok Cx St) (o : Outcome C Er St) (c : C)
      → AllSteps gives (Appends quiet) (Collected holds) room a s b o → o.verdict ≡ Yes (Some c)
      → Again holds other (AllSteps gives (Appends still) (Collected other) room a s) b o c
  again-steps zero a s b o c m e =
      again-after holds other (gives s) (gives s) (AfterStep (λ _ _. Stops CountTooLarge) (Collected holds a))
      (AfterStep (λ _ _. Stops CountTooLarge) (Collected other a)) b o c (λ p v n z. n)
      (λ p x q n z. again-full a x (from b p) q c n z) m e
  again-steps (suc room) a s b o c m e =
      again-after holds other (gives s) (gives s)
      (AfterStep
      (λ v t. Chained (Appends quiet a v) (λ l. AllSteps gives (Appends quiet) (Collected holds) room l t))
      (Collected holds a))
      (AfterStep
      (λ v t. Chained (Appends still a v) (λ l. AllSteps gives (Appends still) (Collected other) room l t))
      (Collected other a))
      b o c
      (λ p v n z. n) (λ p x q n z. again-more room a (again-steps room) x (from b p) q c n z) m e

  again-made : (room : ℕ) (a : Option (List V)) (s : Option S) (b : Beginning Tok Cx St) (o : Outcome C Er St) (c : C)
      → FromMade gives (Appends quiet) (Collected holds) room a s b o → o.verdict ≡ Yes (Some c)
      → Again holds other (FromMade gives (Appends still) (Collected other) room a s) b o c
  again-made room a (Some s) b o c m e =
      let r = again-steps room a s b o c (unlisted gives (Appends quiet) (Collected holds) room a s b o m) e in
      record { items = r.items; held = r.held; again = λ d h. listed gives (Appends still) (Collected other) room a s b (retold (Yes (Some d)) o) (r.again d h) }
  again-made room a None b o c m e = absurd m

  -- a yes of collecting is one of collecting the same items in another way
  pub collects-again : (b : Beginning Tok Cx St) (o : Outcome C Er St) (c : C) → Collects gives begins holds quiet b o
      → o.verdict ≡ Yes (Some c) → Again holds other (Collects gives begins other still) b o c
  collects-again b o c m e =
      let r =
      again-after holds other (Asked true begins) (Asked true begins)
      (FromMade gives (Appends quiet) (Collected holds) m.room (wanting b.wanted []))
      (FromMade gives (Appends still) (Collected other) m.room (wanting b.wanted [])) b o c
      (λ p v n z. n) (λ p s q n z. again-made m.room (wanting b.wanted []) s (from b p) q c n z) m.run e in
      record { items = r.items; held = r.held; again = λ d h. record { room = m.room; full = m.full; run = r.again d h } }

module _ {A : Type 0} (copies : A → Type 0) where
  wanted_some : (w : Bool) (v : Option A) → w ≡ true → IsWanted copies w v → (a : A) × copies a × (v ≡ Some a)
  wanted_some true (Some a) t i = (a, i, refl)
  wanted_some true None t i = absurd i
  wanted_some false v t i = let no : ⊥ = cc in absurd no

module _ {Tok Cx St Er A W : Type 0} (copies : A → Type 0) (safe : Type 0) (next : Option A → Meaning Tok Cx St Er W) (b : Beginning Tok Cx St) (o : Outcome W Er St) where
  copied : b.wanted ≡ true → (p : Outcome A Er St) (v u : Option A) (q : Outcome W Er St) → IsWanted copies b.wanted v
      → Given v b p → p.verdict ≡ Yes u → next u (from b p) q → o ≡ after p q → (a : A) × copies a × next (Some a) b o
  copied t p v u q i g s n w =
      let k = wanted_some copies b.wanted v t i in
      let ua : u ≡ Some k.0 = same_yes s (ap (λ (x : Outcome A Er St). x.verdict) g) ∙ k.2 in
      let here : next u b q = subst (λ (x : Outcome A Er St). next u (from b x) q) g n in
      let same : o ≡ q = w ∙ ap (λ (x : Outcome A Er St). after x q) g in
      (k.0, k.1, subst (λ x. next x b o) ua (subst (next u b) (sym same) here))

  copy-apart : (w : Option W) → b.wanted ≡ true → Chained (GivesCopy copies safe) next b o → o.verdict ≡ Yes w → (a : A) × copies a × next (Some a) b o
  copy-apart w t m e =
      let y = both_yes (GivesCopy copies safe) next b o w m e in
      elim y.meant.cases [
        | inl r ↦ absurd (subst IsYes r.1 (is_yes y.said))
        | inr h ↦ copied t y.first h.value y.value y.second h.is_value h.given y.said y.follows y.whole
      ]

  copy-together : (a : A) → b.wanted ≡ true → copies a → next (Some a) b o → Chained (GivesCopy copies safe) next b o
  copy-together a t c n =
      record {
        first = record { verdict = Yes (Some a); end = b.start; state = b.state; events = []; emitted = [] };
        meant = record { cases = inr (record { value = Some a; is_value = subst (λ w. IsWanted copies w (Some a)) (sym t) c; given = refl }) };
        follows = (o, n, refl);
      }

module _ {Tok Cx St Er S V C A : Type 0} (gives : S → Meaning Tok Cx St Er (Next S V))
    (begins : Meaning Tok Cx St Er S) (holds : List V → C → Type 0)
    (one_list : (xs ys : List V) (c : C) → holds xs c → holds ys c → xs ≡ ys) (quiet : Type 0)
    (steps : A → V → A → Type 0) where
  -- a fold, apart: where it began, and the items that it folded, which are collected just so
  record Parted (a : Option A) (b : Beginning Tok Cx St) (o : Outcome A Er St) (z : A) : Type 0 where
    pub start : A
    pub begins_at : a ≡ Some start
    pub items : List V
    pub folds : FoldsLeft steps start items z
    pub again : (c : C) → holds items c → Collects gives begins holds quiet b (retold (Yes (Some c)) o)

  parted : (a : Option A) (b : Beginning Tok Cx St) (o : Outcome A Er St) (z : A) (l : Option (List V))
      → HoldsAll (FoldsFrom steps a) l (Some z)
      → ((c : C) → HoldsAll holds l (Some c) → Collects gives begins holds quiet b (retold (Yes (Some c)) o))
      → Parted a b o z
  parted (Some x) b o z (Some xs) h k = record { start = x; begins_at = refl; items = xs; folds = h; again = k }
  parted None b o z (Some xs) h k = absurd h
  parted a b o z None h k = absurd h

  folds-apart : (a : Option A) (b : Beginning Tok Cx St) (o : Outcome A Er St) (z : A) → FoldsItems gives begins steps a b o → o.verdict ≡ Yes (Some z) → Parted a b o z
  folds-apart a b o z m e =
      let r = collects-again gives begins (FoldsFrom steps a) holds ⊤ quiet b o z m e in
      parted a b o z r.items r.held r.again

  rejoined : (x : A) (c : C) (xs : List V) (z : A) → holds xs c → FoldsLeft steps x xs z → (l : Option (List V)) → HoldsAll holds l (Some c) → HoldsAll (FoldsFrom steps (Some x)) l (Some z)
  rejoined x c xs z h f (Some ys) k = subst (λ ws. FoldsLeft steps x ws z) (one_list xs ys c h k) f
  rejoined x c xs z h f None k = absurd k

  folds-together : (x : A) (b : Beginning Tok Cx St) (o : Outcome C Er St) (c : C) (xs : List V) (z : A)
      → Collects gives begins holds quiet b o → o.verdict ≡ Yes (Some c) → holds xs c → FoldsLeft steps x xs z
      → FoldsItems gives begins steps (Some x) b (retold (Yes (Some z)) o)
  folds-together x b o c xs z m e h f =
      let r = collects-again gives begins holds (FoldsFrom steps (Some x)) quiet ⊤ b o c m e in
      r.again z (rejoined x c xs z h f r.items r.held)

  pub fold-collected : (copies : A → Type 0) (safe : Type 0)
      → FoldsCollected holds (λ xs z. (a : A) × copies a × FoldsLeft steps a xs z) (Collects gives begins holds quiet)
      (FoldsFromCopy gives begins steps copies safe)
  fold-collected copies safe =
      record {
        apart = λ b o z t m e.
            let k = copy-apart copies safe (FoldsItems gives begins steps) b o (Some z) t m e in
            let r = folds-apart (Some k.0) b o z k.2 e in
            let same : k.0 ≡ r.start = some-same r.begins_at in
            (r.items, (k.0, k.1, subst (λ x. FoldsLeft steps x r.items z) (sym same) r.folds), r.again);
        together = λ b o c xs z t m e h f. copy-together copies safe (FoldsItems gives begins steps) b (retold (Yes (Some z)) o) f.0 t f.1 (folds-together f.0 b o c xs z m e h f.2);
      }

module _ {St Er V W : Type 0} where
  -- what ends with a yes that does nothing
  nothing_after : (p : Outcome V Er St) (w : Option W) → after p (record { verdict = Yes w; end = p.end; state = p.state; events = []; emitted = [] }) ≡ retold (Yes w) p
  nothing_after p w = rw (append-nil p.events, append-nil p.emitted) refl

module _ {Tok Cx St Er V W : Type 0} where
  -- a part, and then what is given of its value
  record LastGiven (part : Meaning Tok Cx St Er V) (f : Option V → Option W) (b : Beginning Tok Cx St) (o : Outcome W Er St) (w : Option W) : Type 0 where
    pub done : Outcome V Er St
    pub value : Option V
    pub meant : part b done
    pub said : done.verdict ≡ Yes value
    pub gives : f value ≡ w
    pub whole : o ≡ retold (Yes w) done

  last-apart : (part : Meaning Tok Cx St Er V) (f : Option V → Option W) (b : Beginning Tok Cx St) (o : Outcome W Er St) (w : Option W)
      → Chained part (λ v. Given (f v)) b o → o.verdict ≡ Yes w → LastGiven part f b o w
  last-apart part f b o w m e =
      let y = both_yes part (λ v. Given (f v)) b o w m e in
      let fw : f y.value ≡ w = same_yes (ap (λ (x : Outcome W Er St). x.verdict) y.follows) y.answers in
      let same : o ≡ retold (Yes (f y.value)) y.first = y.whole ∙ ap (after y.first) y.follows ∙ nothing_after y.first (f y.value) in
      record { done = y.first; value = y.value; meant = y.meant; said = y.said; gives = fw; whole = subst (λ x. o ≡ retold (Yes x) y.first) fw same }

  last-together : (part : Meaning Tok Cx St Er V) (f : Option V → Option W) (b : Beginning Tok Cx St)
      (p : Outcome V Er St) (v : Option V) (w : Option W)
      → part b p → p.verdict ≡ Yes v → f v ≡ w → Chained part (λ x. Given (f x)) b (retold (Yes w) p)
  last-together part f b p v w m e g =
      subst (Chained part (λ x. Given (f x)) b) (nothing_after p (f v) ∙ ap (λ x. retold (Yes x) p) g)
      (yes_both part (λ x. Given (f x)) b p v
      (record { verdict = Yes (f v); end = p.end; state = p.state; events = []; emitted = [] }) m e refl)

both-some : {V W : Type 0} (v : Option V) (w : Option W) (c : V × W) → both v w ≡ Some c → (v ≡ Some c.0) × (w ≡ Some c.1)
both-some (Some v) (Some w) c e = let same : (v, w) ≡ c = some-same e in (ap (λ x. Some x.0) same, ap (λ x. Some x.1) same)
both-some (Some v) None c e = let no : ⊥ = cc in absurd no
both-some None w c e = let no : ⊥ = cc in absurd no

some-both : {V W : Type 0} (v : Option V) (w : Option W) (c : V × W) → v ≡ Some c.0 → w ≡ Some c.1 → both v w ≡ Some c
some-both v w c e d = ap (λ x. both x w) e ∙ ap (both (Some c.0)) d

module _ {Tok Cx St Er S V C A : Type 0} (gives : S → Meaning Tok Cx St Er (Next S V))
    (begins : Meaning Tok Cx St Er S) (holds : List V → C → Type 0)
    (one_list : (xs ys : List V) (c : C) → holds xs c → holds ys c → xs ≡ ys) (quiet : Type 0)
    (steps : A → V → A → Type 0) (part : Meaning Tok Cx St Er A) where
  foldl-apart : (b : Beginning Tok Cx St) (o : Outcome A Er St) (z : A) → FoldsFromPart gives begins steps part b o → o.verdict ≡ Yes (Some z)
      → (l : A × List V) × FoldsLeft steps l.0 l.1 z × ((c : A × C) → (l.0 ≡ c.0) × holds l.1 c.1 → Sequence part (Collects gives begins holds quiet) b (retold (Yes (Some c)) o))
  foldl-apart b o z m e =
      let y = both_yes part (FoldsItems gives begins steps) b o (Some z) m e in
      let r = folds-apart gives begins holds one_list quiet steps y.value (from b y.first) y.second z y.follows y.answers in (
        (r.start, r.items),
        r.folds,
        λ c h.
            let inner =
            last-together (Collects gives begins holds quiet) (both y.value) (from b y.first)
            (retold (Yes (Some c.1)) y.second) (Some c.1) (Some c) (r.again c.1 h.1)
            refl (some-both y.value (Some c.1) c (r.begins_at ∙ ap Some h.0) refl) in
            subst (Sequence part (Collects gives begins holds quiet) b) (sym (ap (λ (x : Outcome A Er St). retold (Yes (Some c)) x) y.whole))
            (yes_both part (λ v. Chained (Collects gives begins holds quiet) (λ w. Given (both v w))) b y.first y.value (retold (Yes (Some c)) y.second) y.meant y.said inner),
      )

  foldl-together : (b : Beginning Tok Cx St) (o : Outcome (A × C) Er St) (c : A × C) (l : A × List V) (z : A)
      → Sequence part (Collects gives begins holds quiet) b o → o.verdict ≡ Yes (Some c) → (l.0 ≡ c.0) × holds l.1 c.1
      → FoldsLeft steps l.0 l.1 z
      → FoldsFromPart gives begins steps part b (retold (Yes (Some z)) o)
  foldl-together b o c l z m e h f =
      let y = both_yes part (λ v. Chained (Collects gives begins holds quiet) (λ w. Given (both v w))) b o (Some c) m e in
      let i = last-apart (Collects gives begins holds quiet) (both y.value) (from b y.first) y.second (Some c) y.follows y.answers in
      let k = both-some y.value i.value c i.gives in
      let n = folds-together gives begins holds one_list quiet steps c.0 (from b y.first) i.done c.1 l.1 z i.meant (i.said ∙ ap Yes k.1) h.1 (subst (λ x. FoldsLeft steps x l.1 z) h.0 f) in
      let same : o ≡ after y.first (retold (Yes (Some c)) i.done) = y.whole ∙ ap (after y.first) i.whole in
      subst (FoldsFromPart gives begins steps part b) (sym (ap (λ (x : Outcome (A × C) Er St). retold {W = A} (Yes (Some z)) x) same))
      (yes_both part (FoldsItems gives begins steps) b y.first y.value (retold (Yes (Some z)) i.done) y.meant y.said
      (subst (λ u. FoldsItems gives begins steps u (from b y.first) (retold (Yes (Some z)) i.done)) (sym k.0) n))

  pub foldl-collected : FoldsCollected (λ (l : A × List V) (c : A × C). (l.0 ≡ c.0) × holds l.1 c.1)
      (λ (l : A × List V) (z : A). FoldsLeft steps l.0 l.1 z) (Sequence part (Collects gives begins holds quiet))
      (FoldsFromPart gives begins steps part)
  foldl-collected = record { apart = λ b o z t. foldl-apart b o z; together = λ b o c l z t. foldl-together b o c l z }

module _ {A V : Type 0} (steps : V → A → A → Type 0) where
  -- the left fold of a list with one more item, apart
  left-last : (xs : List V) (x : V) (a z : A) → FoldsLeft (λ b y w. steps y b w) a (xs ++ x ∷ []) z → (b : A) × FoldsLeft (λ b y w. steps y b w) a xs b × steps x b z
  left-last [] x a z f = (a, refl, subst (λ y. steps x a y) (sym f.2) f.1)
  left-last (y ∷ ys) x a z f = let r = left-last ys x f.0 z f.2 in (r.0, (f.0, f.1, r.1), r.2)

  reversed : (x : V) (xs : List V) → reverse (x ∷ xs) ≡ reverse xs ++ x ∷ []
  reversed x xs = reverse-append (x ∷ []) xs

  -- the right fold is the left fold of the reverse
  right-left : (xs : List V) (a z : A) → FoldsRight steps a xs z → FoldsLeft (λ b y w. steps y b w) a (reverse xs) z
  right-left [] a z f = f
  right-left (x ∷ xs) a z f = subst (λ l. FoldsLeft (λ b y w. steps y b w) a l z) (sym (reversed x xs)) (folds_left-more (λ b y w. steps y b w) (reverse xs) a f.0 z x (right-left xs a f.0 f.1) f.2)

  left-right : (xs : List V) (a z : A) → FoldsLeft (λ b y w. steps y b w) a (reverse xs) z → FoldsRight steps a xs z
  left-right [] a z f = f
  left-right (x ∷ xs) a z f = let r = left-last (reverse xs) x a z (subst (λ l. FoldsLeft (λ b y w. steps y b w) a l z) (reversed x xs) f) in (r.0, left-right xs a r.0 r.1, r.2)

module _ {V C A : Type 0} (holds : List V → C → Type 0) (steps : V → A → A → Type 0) where
  -- what was folded back
  record HeldParts (c : Option C) (a : Option A) (z : A) : Type 0 where
    pub collection : C
    pub start : A
    pub is_collection : c ≡ Some collection
    pub is_start : a ≡ Some start
    pub items : List V
    pub held : holds items collection
    pub folds : FoldsRight steps start items z

  held-parts : (c : Option C) (a : Option A) (z : A) → FoldsHeld holds steps c a (Some z) → HeldParts c a z
  held-parts (Some c) (Some a) z f = record { collection = c; start = a; is_collection = refl; is_start = refl; items = f.0; held = f.1; folds = f.2 }
  held-parts (Some c) None z f = let no : ⊥ = cc in absurd no
  held-parts None a z f = let no : ⊥ = cc in absurd no

module _ {Tok Cx St Er S V C A : Type 0} (gives : S → Meaning Tok Cx St Er (Next S V))
    (begins : Meaning Tok Cx St Er S) (holds : List V → C → Type 0)
    (one_list : (xs ys : List V) (c : C) → holds xs c → holds ys c → xs ≡ ys) (quiet : Type 0)
    (part : Meaning Tok Cx St Er A) (steps : V → A → A → Type 0) where
  -- another collection of the same items
  held_again : (xs : List V) (c d : C) → holds xs c → holds xs d → (l : Option (List V)) → HoldsAll holds l (Some c) → HoldsAll holds l (Some d)
  held_again xs c d h k (Some ys) g = subst (λ ws. holds ws d) (one_list xs ys c h g) k
  held_again xs c d h k None g = absurd g

  foldr-apart : (b : Beginning Tok Cx St) (o : Outcome A Er St) (z : A) → FoldsBack gives begins holds quiet part steps b o → o.verdict ≡ Yes (Some z)
      → (l : List V × A) × FoldsLeft (λ a x w. steps x a w) l.1 (reverse l.0) z
      × ((c : C × A) → holds l.0 c.0 × (l.1 ≡ c.1) → Sequence (Collects gives begins holds quiet) part b (retold (Yes (Some c)) o))
  foldr-apart b o z m e =
      let collects = Collects gives begins holds quiet in
      let y = both_yes collects (λ c. Chained part (FoldedBack holds steps c)) b o (Some z) m e in
      let i = both_yes part (FoldedBack holds steps y.value) (from b y.first) y.second (Some z) y.follows y.answers in
      let is_z : i.follows.value ≡ Some z = same_yes (ap (λ (x : Outcome A Er St). x.verdict) i.follows.given) i.answers in
      let h = held-parts holds steps y.value i.value z (subst (FoldsHeld holds steps y.value i.value) is_z i.follows.is) in
      let r = collects-again gives begins holds holds quiet quiet b y.first h.collection y.meant (y.said ∙ ap Yes h.is_collection) in (
        (h.items, h.start),
        right-left steps h.items h.start z h.folds,
        λ c k.
            let first : Outcome C Er St = retold (Yes (Some c.0)) y.first in
            let inner = last-together part (both (Some c.0)) (from b y.first) i.first i.value (Some c) i.meant i.said (some-both (Some c.0) i.value c refl (h.is_start ∙ ap Some k.1)) in
            let last : retold (Yes (Some c)) y.second ≡ retold (Yes (Some c)) i.first =
            ap (λ (x : Outcome A Er St). retold (Yes (Some c)) x) (i.whole ∙ ap (after i.first) i.follows.given ∙ nothing_after i.first i.follows.value) in
            let same : retold (Yes (Some c)) o ≡ after first (retold (Yes (Some c)) i.first) = ap (λ (x : Outcome A Er St). retold (Yes (Some c)) x) y.whole ∙ ap (after y.first) last in
            subst (Sequence collects part b) (sym same)
            (yes_both collects (λ v. Chained part (λ w. Given (both v w))) b first (Some c.0)
            (retold (Yes (Some c)) i.first)
            (r.again c.0 (held_again h.items h.collection c.0 h.held k.0 r.items r.held)) refl inner),
      )

  foldr-together : (b : Beginning Tok Cx St) (o : Outcome (C × A) Er St) (c : C × A) (l : List V × A) (z : A)
      → Sequence (Collects gives begins holds quiet) part b o → o.verdict ≡ Yes (Some c) → holds l.0 c.0 × (l.1 ≡ c.1)
      → FoldsLeft (λ a x w. steps x a w) l.1 (reverse l.0) z
      → FoldsBack gives begins holds quiet part steps b (retold (Yes (Some z)) o)
  foldr-together b o c l z m e h f =
      let collects = Collects gives begins holds quiet in
      let y = both_yes collects (λ v. Chained part (λ w. Given (both v w))) b o (Some c) m e in
      let i = last-apart part (both y.value) (from b y.first) y.second (Some c) y.follows y.answers in
      let k = both-some y.value i.value c i.gives in
      let right : FoldsRight steps c.1 l.0 z = subst (λ a. FoldsRight steps a l.0 z) h.1 (left-right steps l.0 l.1 z f) in
      let held : FoldsHeld holds steps y.value i.value (Some z) =
      subst (λ v. FoldsHeld holds steps v i.value (Some z)) (sym k.0)
      (subst (λ w. FoldsHeld holds steps (Some c.0) w (Some z)) (sym k.1) (l.0, h.0, right)) in
      let given : Outcome A Er St = record { verdict = Yes (Some z); end = i.done.end; state = i.done.state; events = []; emitted = [] } in
      let inner : Chained part (FoldedBack holds steps y.value) (from b y.first) (retold (Yes (Some z)) i.done) =
      subst (Chained part (FoldedBack holds steps y.value) (from b y.first)) (nothing_after i.done (Some z))
      (yes_both part (FoldedBack holds steps y.value) (from b y.first) i.done i.value given i.meant i.said (record { value = Some z; is = held; given = refl })) in
      let same : o ≡ after y.first (retold (Yes (Some c)) i.done) = y.whole ∙ ap (after y.first) i.whole in
      subst (FoldsBack gives begins holds quiet part steps b) (sym (ap (λ (x : Outcome (C × A) Er St). retold {W = A} (Yes (Some z)) x) same))
      (yes_both collects (λ v. Chained part (FoldedBack holds steps v)) b y.first y.value (retold (Yes (Some z)) i.done) y.meant y.said inner)

  pub foldr-collected : FoldsCollected (λ (l : List V × A) (c : C × A). holds l.0 c.0 × (l.1 ≡ c.1))
      (λ (l : List V × A) (z : A). FoldsLeft (λ a x w. steps x a w) l.1 (reverse l.0) z)
      (Sequence (Collects gives begins holds quiet) part) (FoldsBack gives begins holds quiet part steps)
  foldr-collected = record { apart = λ b o z t. foldr-apart b o z; together = λ b o c l z t. foldr-together b o c l z }
