-- Why the items that a run gives one after another are the first of those that are collected.
use Rattle.std.proofs.Common.{
  ◌≡◌,
  ◌∙◌,
  ℕ,
  zero,
  suc,
  ◌+◌,
  ◌^◌,
  Bool,
  true,
  false,
  nat_lt,
  Option,
  Some,
  None,
  List,
  [],
  ◌∷◌,
  ◌++◌,
  length,
  refl,
  sym,
  ap,
  subst,
  append_assoc,
  arith,
  Result,
  Ok,
  Err,
  inl,
  inr,
}
use Rattle.std.specs.Prelude.{⊤}
use Rattle.std.specs.Bool.{MatchBool}
use Rattle.std.proofs.lemmas.List.{append-nil}
use Rattle.chumsky_input.specs.declared.stop.Stop.TheVariants.{CountTooLarge}
use Rattle.chumsky_input.specs.declared.stop.Fault.{Fault}
use Rattle.chumsky_input.specs.declared.stop.Fault.TheVariants as fault
use Rattle.chumsky_input.specs.Held.{Held}
use Rattle.chumsky_input.specs.Outcome.{Meaning, Beginning, Outcome, Verdict, Yes, No, Halt, Clash, SameValue, SameAnswer, Alike}
use Rattle.chumsky_input.specs.Run.{Ran, LeavesBy, begin}
use Rattle.chumsky_parser.specs.Chained.{Follows, from, after}
use Rattle.chumsky_parser.specs.Items.{Next, More, End, SameNext, ItemsAgree, AfterStep, Item, next_after, made_of, room_after, after_all, past, past_all, Linked, Unmade, AllItems, FromMade}
use Rattle.chumsky_items.specs.Consumers.{Appends, HoldsAll, Collected, Collects}
use Rattle.chumsky_parse_iter.specs.declared.parse_iter.Phase.{Phase}
use Rattle.chumsky_parse_iter.specs.declared.parse_iter.Phase.TheVariants.{Unbegun, Running, Ended, Refused}
use Rattle.chumsky_parse_iter.specs.Finish.{Called, StaysNone, IsStartOf}
use Rattle.chumsky_parse_iter.specs.Walk.{with_next, GivesCounted, GivesMade, GivesFirst, WalksOn}
use Rattle.chumsky_parse_iter.proofs.WalkLemmas.{yes_of}

module _ {Tok Cx St Er V : Type 0} (quiet : Type 0) where
  -- putting an item behind the others moves nothing
  stays_there : (a : Option (List V)) (v : Option V) (b : Beginning Tok Cx St) (r : Outcome (List V) Er St) (l : Option (List V))
      → Appends quiet a v b r → r.verdict ≡ Yes l → (r.end ≡ b.start) × (r.state ≡ b.state)
  stays_there (Some xs) (Some v) b r l m e =
      elim m [
        | inl n ↦ (let f = n.1 in let no : ⊥ = cc in absurd no)
        | inr g ↦ (ap (λ (x : Outcome (List V) Er St). x.end) g, ap (λ (x : Outcome (List V) Er St). x.state) g)
      ]
  stays_there (Some xs) None b r l m e = (ap (λ (x : Outcome (List V) Er St). x.end) m, ap (λ (x : Outcome (List V) Er St). x.state) m)
  stays_there None v b r l m e = (ap (λ (x : Outcome (List V) Er St). x.end) m, ap (λ (x : Outcome (List V) Er St). x.state) m)

  one_more : (xs : List V) (v : Option V) (b : Beginning Tok Cx St) (r : Outcome (List V) Er St) (l : List V)
      → Appends quiet (Some xs) v b r → r.verdict ≡ Yes (Some l) → (y : V) × (v ≡ Some y) × (l ≡ xs ++ y ∷ [])
  one_more xs (Some v) b r l m e =
      elim m [
        | inl n ↦ (let f = n.1 in let no : ⊥ = cc in absurd no)
        | inr g ↦ (let f = ap (λ (x : Outcome (List V) Er St). x.verdict) g in (v, refl, cc))
      ]
  one_more xs None b r l m e = let f = ap (λ (x : Outcome (List V) Er St). x.verdict) m in let no : ⊥ = cc in absurd no

  none_more : (v : Option V) (b : Beginning Tok Cx St) (r : Outcome (List V) Er St) (l : Option (List V)) → Appends quiet None v b r → r.verdict ≡ Yes l → l ≡ None
  none_more v b r l m e = let f = ap (λ (x : Outcome (List V) Er St). x.verdict) m in cc

module _ {Er St S V : Type 0} where
  -- these are the values of the items
  abbrev Valued : List (Item Er St S V (List V)) → List V → Type 0
  Valued [] [] = ⊤
  Valued [] (y ∷ ys) = ⊥
  Valued (x ∷ xs) [] = ⊥
  Valued (x ∷ xs) (y ∷ ys) = (x.value ≡ Some y) × Valued xs ys

  -- and these lists were made of them, one behind another
  record Values (xs : List V) (items : List (Item Er St S V (List V))) (zs : List V) : Type 0 where
    pub ys : List V
    pub whole : zs ≡ xs ++ ys
    pub are : Valued items ys

module _ {Tok Cx St Er S V : Type 0} (gives : S → Meaning Tok Cx St Er (Next S V)) (quiet : Type 0) where
  none_made : (items : List (Item Er St S V (List V))) (s : S) (b : Beginning Tok Cx St) → Linked gives (Appends quiet) None s b items → made_of None items ≡ None
  none_made [] s b l = refl
  none_made (x ∷ xs) s b l =
      let e : x.made ≡ None = none_more quiet x.value (from b x.step) x.making x.made l.0.makes l.0.goes_on in
      ap (λ a. made_of a xs) e ∙ none_made xs x.next (past b x) (subst (λ a. Linked gives (Appends quiet) a x.next (past b x) xs) e l.1)

  more_values : (xs : List V) (x : Item Er St S V (List V)) (rest : List (Item Er St S V (List V))) (b : Beginning Tok Cx St) (zs : List V)
      → Appends quiet (Some xs) x.value (from b x.step) x.making → x.making.verdict ≡ Yes x.made
      → (made : Option (List V)) → x.made ≡ made → Linked gives (Appends quiet) made x.next (past b x) rest
      → made_of made rest ≡ Some zs
      →
      ((ms : List V) → Linked gives (Appends quiet) (Some ms) x.next (past b x) rest
      → made_of (Some ms) rest ≡ Some zs → Values ms rest zs)
      → Values xs (x ∷ rest) zs
  more_values xs x rest b zs m g (Some ms) e l k ih =
      let one = one_more quiet xs x.value (from b x.step) x.making ms m (g ∙ ap (λ z. Yes z) e) in
      let all = ih ms l k in
      record { ys = one.0 ∷ all.ys; whole = all.whole ∙ ap (λ z. z ++ all.ys) one.2 ∙ append_assoc xs (one.0 ∷ []) all.ys; are = (one.1, all.are) }
  more_values xs x rest b zs m g None e l k ih =
      let n = none_made rest x.next (past b x) l in
      let no : ⊥ = cc in
      absurd no

  values : (items : List (Item Er St S V (List V))) (xs : List V) (s : S) (b : Beginning Tok Cx St)
      → Linked gives (Appends quiet) (Some xs) s b items → (zs : List V) → made_of (Some xs) items ≡ Some zs
      → Values xs items zs
  values [] xs s b l zs e =
      let same : zs ≡ xs = cc in
      record { ys = []; whole = same ∙ sym (append-nil xs); are = tt }
  values (x ∷ rest) xs s b l zs e = more_values xs x rest b zs l.0.makes l.0.goes_on x.made refl l.1 e (λ ms k z. values rest ms x.next (past b x) k zs z)

  module _ {C : Type 0} where
    unmade_by : (p : Outcome (List V) Er St) (b : Beginning Tok Cx St) (q : Outcome C Er St) (w : Option C) (u : Verdict (List V) Er) → Follows u (λ _ _ _. ⊥) b p q → q.verdict ≡ Yes w → ⊥
    unmade_by p b q w (Yes x) f e = f.1
    unmade_by p b q w No f e = let g = ap (λ (x : Outcome C Er St). x.verdict) f in cc
    unmade_by p b q w (Halt s) f e = let g = ap (λ (x : Outcome C Er St). x.verdict) f in cc
    unmade_by p b q w (Clash x) f e = let g = ap (λ (x : Outcome C Er St). x.verdict) f in cc

    unmade_no : (left : ℕ) (a : Option (List V)) (v : Option V) (b : Beginning Tok Cx St) (q : Outcome C Er St) (w : Option C) → Unmade left (Appends quiet a v) b q → q.verdict ≡ Yes w → ⊥
    unmade_no zero a v b q w m e = let f = ap (λ (x : Outcome C Er St). x.verdict) m in cc
    unmade_no (suc left) a v b q w m e = unmade_by m.first b q w m.first.verdict m.follows e

  -- after these items, from where they ended, comes the end
  record EndsAfter (items : List (Item Er St S V (List V))) (s : S) (b : Beginning Tok Cx St) : Type 0 where
    pub step : Outcome (Next S V) Er St
    pub gives_end : gives (next_after s items) (past_all b items) step
    pub is_end : step.verdict ≡ Yes (Some End)

module _ {Tok Cx St Er S V C : Type 0} (gives : S → Meaning Tok Cx St Er (Next S V)) (quiet : Type 0) (holds : List V → C → Type 0) where
  -- a list that was collected is that of its items
  record Whole (a : Option (List V)) (s : S) (b : Beginning Tok Cx St) (c : C) : Type 0 where
    pub step : Outcome (Next S V) Er St
    pub gives_end : gives s b step
    pub is_end : step.verdict ≡ Yes (Some End)
    pub list : List V
    pub are : a ≡ Some list
    pub held : holds list c

  held_by : (a : Option (List V)) (v : Option C) (c : C) → v ≡ Some c → HoldsAll holds a v → (l : List V) × (a ≡ Some l) × holds l c
  held_by (Some xs) (Some d) c e h =
      let same : d ≡ c = cc in
      (xs, refl, subst (holds xs) same h)
  held_by (Some xs) None c e h = absurd h
  held_by None (Some d) c e h = absurd h
  held_by None None c e h = let no : ⊥ = cc in absurd no

  module _ (left : ℕ) (a : Option (List V)) (s : S) (b : Beginning Tok Cx St) (o : Outcome C Er St) (c : C) (said : o.verdict ≡ Yes (Some c)) (p : Outcome (Next S V) Er St) (m : gives s b p) where
    closed_by : (u : Verdict (Next S V) Er) → p.verdict ≡ u → Follows u (AfterStep (λ v _. Unmade left (Appends quiet a v)) (Collected holds a)) b p o → Whole a s b c
    closed_by (Yes (Some (More x t))) e f = absurd (unmade_no gives quiet left a x (from b p) f.0 (Some c) f.1 (sym (ap (λ (x : Outcome C Er St). x.verdict) f.2) ∙ said))
    closed_by (Yes (Some End)) e f =
        let k = f.1 in
        let last = ap (λ (x : Outcome C Er St). x.verdict) k.given in
        let whole = ap (λ (x : Outcome C Er St). x.verdict) f.2 in
        let v : k.value ≡ Some c = cc in
        let l = held_by a k.value c v k.is in
        record { step = p; gives_end = m; is_end = e; list = l.0; are = l.1; held = l.2 }
    closed_by (Yes None) e f = absurd f.1
    closed_by No e f = let g = ap (λ (x : Outcome C Er St). x.verdict) f in let no : ⊥ = cc in absurd no
    closed_by (Halt z) e f = let g = ap (λ (x : Outcome C Er St). x.verdict) f in let no : ⊥ = cc in absurd no
    closed_by (Clash z) e f = let g = ap (λ (x : Outcome C Er St). x.verdict) f in let no : ⊥ = cc in absurd no

  last_said : (items : List (Item Er St S V (List V))) (q : Outcome C Er St) → (after_all items q).verdict ≡ q.verdict
  last_said [] q = refl
  last_said (x ∷ xs) q = last_said xs q

  -- the items of a list that was collected, with their values, and the end after them
  record Collection (s : S) (b : Beginning Tok Cx St) (c : C) : Type 0 where
    pub items : List (Item Er St S V (List V))
    pub linked : Linked gives (Appends quiet) (Some []) s b items
    pub list : List V
    pub valued : Valued items list
    pub held : holds list c
    pub ends : EndsAfter gives quiet items s b

  collection : (room : ℕ) (s : S) (b : Beginning Tok Cx St) (o : Outcome C Er St) (c : C)
      → AllItems gives (Appends quiet) (Collected holds) room (Some []) s b o → o.verdict ≡ Yes (Some c)
      → Collection s b c
  collection room s b o c m e =
      let said : m.last.verdict ≡ Yes (Some c) = sym (last_said m.items m.last) ∙ sym (ap (λ (x : Outcome C Er St). x.verdict) m.whole) ∙ e in
      let k = m.closes in
      let w = closed_by (room_after m.items room) (made_of (Some []) m.items) (next_after s m.items) (past_all b m.items) m.last c said k.first k.meant k.first.verdict refl k.follows in
      let v = values gives quiet m.items [] s b m.linked w.list w.are in
      let same : w.list ≡ v.ys = v.whole in
      record { items = m.items; linked = m.linked; list = v.ys; valued = v.are; held = subst (λ l. holds l c) same w.held; ends = record { step = w.step; gives_end = w.gives_end; is_end = w.is_end } }

module _ {Tok Cx St Er S V : Type 0} (merged : Er → Er → Er) (safe : Type 0) (old new : Held Tok Cx St Er) (x : V) (n m : ℕ) where
  -- a call that gave an item after n others: its step
  record Gave (step : Meaning Tok Cx St Er (Next S V)) (p : Phase S) : Type 0 where
    pub next : S
    pub outcome : Outcome (Next S V) Er St
    pub meant : step (begin true old) outcome
    pub says : outcome.verdict ≡ Yes (Some (More (Some x) next))
    pub place : new.place ≡ outcome.end
    pub state : new.state ≡ outcome.state
    pub tokens : new.tokens ≡ old.tokens
    pub context : new.context ≡ old.context
    pub goes : p ≡ Running next
    pub counts : m ≡ n + 1

  gave_item : (step : Meaning Tok Cx St Er (Next S V)) (y : V) (s : S) (p : Phase S) → x ≡ y → p ≡ Running s → m ≡ n + 1 → Ran merged safe step true old new (Ok (Some (More (Some y) s))) → Gave step p
  gave_item step y s p e g i h =
      let yes : h.outcome.verdict ≡ Yes (Some (More (Some y) s)) = yes_of h.outcome.verdict (Some (More (Some y) s)) h.answered in
      let left = subst (λ u. LeavesBy merged safe u h.outcome old new) yes h.left in
      record {
        next = s;
        outcome = h.outcome;
        meant = h.meant;
        says = yes ∙ ap (λ z. Yes (Some (More (Some z) s))) (sym e);
        place = left.end;
        state = h.state;
        tokens = h.same.tokens;
        context = h.same.context;
        goes = g;
        counts = i;
      }

  gave_fit : (step : Meaning Tok Cx St Er (Next S V)) (fit : Bool) (y : V × S) (p : Phase S)
      → MatchBool fit ((Some x ≡ Some y.0) × (p ≡ Running y.1) × (m ≡ n + 1))
      ((Some x ≡ None) × (p ≡ Refused (fault.Stop CountTooLarge)) × (m ≡ n))
      → Ran merged safe step true old new (Ok (Some (More (Some y.0) y.1))) → Gave step p
  gave_fit step true y p h k =
      let e = h.0 in
      let same : x ≡ y.0 = cc in
      gave_item step y.0 y.1 p same h.1 h.2 k
  gave_fit step false y p h k = let e = h.0 in let no : ⊥ = cc in absurd no

  gave_by : (step : Meaning Tok Cx St Er (Next S V)) (a : Result (Option (V × S)) Fault) (p : Phase S) → Ran merged safe step true old new (with_next a) → GivesCounted n a (Some x) p m → Gave step p
  gave_by step (Ok (Some y)) p h c = gave_fit step (nat_lt (n + 1) (2 ^ 64)) y p c h
  gave_by step (Ok None) p h c = let e = c.0 in let no : ⊥ = cc in absurd no
  gave_by step (Err f) p h c = let e = c.0 in let no : ⊥ = cc in absurd no

module _ {Tok Cx St Er S V : Type 0} (begins : Meaning Tok Cx St Er S) (gives : S → Meaning Tok Cx St Er (Next S V))
    (quiet : Type 0) (same : V → V → Type 0) (alike : S → S → Type 0)
    (agree : ItemsAgree same alike begins gives) where
  -- two steps that succeed, of iterations that are alike
  two_steps : (s t : S) → alike s t → (b c : Beginning Tok Cx St) → Alike b c → (q p : Outcome (Next S V) Er St)
      → gives s b q → gives t c p → (n k : Next S V) → q.verdict ≡ Yes (Some n) → p.verdict ≡ Yes (Some k)
      → SameNext same alike n k × (q.end ≡ p.end) × (q.state ≡ p.state)
  two_steps s t l b c z q p m n x y e d =
      let g = agree.step s t l b c q p z m n (rw e tt) (rw d tt) in
      let h : SameAnswer (SameNext same alike) q.verdict p.verdict = g.answer in
      (rw (e, d) at h, g.end, g.state)

  -- of the values of items that begin where calls go on
  abbrev GoesOn : (List V → Type 0) → S → Beginning Tok Cx St → Type 0
  GoesOn P s d =
      (t : S) (b : Beginning Tok Cx St) (a : Option (List V)) (items : List (Item Er St S V (List V))) (ys : List V)
      → alike s t → Alike d b → Linked gives (Appends quiet) a t b items → Valued items ys
      → EndsAfter gives quiet items t b → P ys

  -- a step that gives an item, and then they go on
  one_item : (P Q : List V → Type 0) (x : V) (s next : S) (d e : Beginning Tok Cx St) (q : Outcome (Next S V) Er St)
      → ((y : V) (ys : List V) → same x y → P ys → Q (y ∷ ys)) → gives s d q
      → q.verdict ≡ Yes (Some (More (Some x) next)) → e.tokens ≡ d.tokens → e.context ≡ d.context → e.start ≡ q.end
      → e.state ≡ q.state → GoesOn P next e → GoesOn Q s d
  one_item P Q x s next d e q more m v et ec es ee on t b a [] [] l z links vals stop =
      let k = two_steps s t l d b z q stop.step m stop.gives_end (More (Some x) next) End v stop.is_end in
      absurd k.0
  one_item P Q x s next d e q more m v et ec es ee on t b a [] (y ∷ ys) l z links vals stop = absurd vals
  one_item P Q x s next d e q more m v et ec es ee on t b a (i ∷ is) [] l z links vals stop = absurd vals
  one_item P Q x s next d e q more m v et ec es ee on t b a (i ∷ is) (y ∷ ys) l z links vals stop =
      let k = two_steps s t l d b z q i.step m links.0.steps (More (Some x) next) (More i.value i.next) v links.0.gives in
      let both : SameValue same (Some x) i.value × alike next i.next = k.0 in
      let stays = stays_there quiet a i.value (from b i.step) i.making i.made links.0.makes links.0.goes_on in
      let there : Alike e (past b i) = record { tokens = et ∙ z.tokens; start = es ∙ k.1 ∙ sym stays.0; context = ec ∙ z.context; state = ee ∙ k.2 ∙ sym stays.1 } in
      more y ys (subst (λ w. SameValue same (Some x) w) vals.0 both.0)
      (on i.next (past b i) i.made is ys both.1 there links.1 vals.1 (record { step = stop.step; gives_end = stop.gives_end; is_end = stop.is_end }))

  -- a step that gives the end: no items begin there
  no_item : (s : S) (d : Beginning Tok Cx St) (q : Outcome (Next S V) Er St) → gives s d q → q.verdict ≡ Yes (Some End) → GoesOn (λ ys. length ys ≡ 0) s d
  no_item s d q m v t b a [] [] l z links vals stop = refl
  no_item s d q m v t b a [] (y ∷ ys) l z links vals stop = absurd vals
  no_item s d q m v t b a (i ∷ is) [] l z links vals stop = absurd vals
  no_item s d q m v t b a (i ∷ is) (y ∷ ys) l z links vals stop =
      let k = two_steps s t l d b z q i.step m links.0.steps End (More i.value i.next) v links.0.gives in
      absurd k.0

  -- the first step, before which an iteration was made, is a step of one that is alike
  record Made (d : Beginning Tok Cx St) (r : Outcome S Er St) (t : S) (q : Outcome (Next S V) Er St) : Type 0 where
    pub iteration : S
    pub alike_is : alike iteration t
    pub start : Beginning Tok Cx St
    pub there : Alike start (from d r)
    pub tokens : start.tokens ≡ d.tokens
    pub context : start.context ≡ d.context
    pub step : Outcome (Next S V) Er St
    pub meant : gives iteration start step
    pub says : step.verdict ≡ q.verdict
    pub end : q.end ≡ step.end
    pub state : q.state ≡ step.state

  module _ (d : Beginning Tok Cx St) (q : Outcome (Next S V) Er St) (n : Option (Next S V)) (v : q.verdict ≡ Yes n)
      (r : Outcome S Er St) (k : begins (record d { wanted = true }) r) (t : S) (y : r.verdict ≡ Yes (Some t)) where
    made_by : (p : Outcome S Er St) (u : Verdict S Er) → p.verdict ≡ u → begins (record d { wanted = true }) p → Follows u (GivesMade begins gives) d p q → Made d r t q
    made_by p (Yes (Some s)) w m f =
        let here : Alike (record d { wanted = true }) (record d { wanted = true }) = record { tokens = refl; start = refl; context = refl; state = refl } in
        let g = agree.begin (record d { wanted = true }) (record d { wanted = true }) p r here m k (rw w tt) (rw y tt) in
        let h : SameAnswer alike p.verdict r.verdict = g.answer in
        let whole : q ≡ after p f.0 = f.2 in
        record {
          iteration = s;
          alike_is = rw (w, y) at h;
          start = from d p;
          there = record { tokens = refl; start = g.end; context = refl; state = g.state };
          tokens = refl;
          context = refl;
          step = f.0;
          meant = f.1;
          says = sym (ap (λ (z : Outcome (Next S V) Er St). z.verdict) whole);
          end = ap (λ (z : Outcome (Next S V) Er St). z.end) whole;
          state = ap (λ (z : Outcome (Next S V) Er St). z.state) whole;
        }
    made_by p (Yes None) w m f = absurd f.1
    made_by p No w m f = let z = ap (λ (z : Outcome (Next S V) Er St). z.verdict) f in let no : ⊥ = cc in absurd no
    made_by p (Halt h) w m f = let z = ap (λ (z : Outcome (Next S V) Er St). z.verdict) f in let no : ⊥ = cc in absurd no
    made_by p (Clash h) w m f = let z = ap (λ (z : Outcome (Next S V) Er St). z.verdict) f in let no : ⊥ = cc in absurd no

    made : GivesFirst begins gives d q → Made d r t q
    made m = made_by m.first m.first.verdict refl m.meant.run m.follows

module _ {Tok Cx St Er S V T K : Type 0} (merged : Er → Er → Er) (safe : Type 0) (begins : K → Meaning Tok Cx St Er S) (gives : K → S → Meaning Tok Cx St Er (Next S V))
    (nexts : T → Option V → T → Type 0) (key : T → K) (phase : T → Phase S) (holds_at : T → Held Tok Cx St Er) (given : T → ℕ)
    (walks : (w : T) (r : Option V) (v : T) → nexts w r v
    → (key v ≡ key w)
    × WalksOn merged safe (begins (key w)) (gives (key w)) (phase w) (holds_at w) (given w) r (phase v) (holds_at v) (given v))
  where
    -- after the end no item is given, and after a fault it stands
    ends_stay : (rs : List (Option V)) (w u : T) → Called nexts w rs u → phase w ≡ Ended → given u ≡ given w
    ends_stay [] w u c e = ap given (sym c)
    ends_stay (r ∷ rs) w u c e =
        let z : WalksOn merged safe (begins (key w)) (gives (key w)) Ended (holds_at w) (given w) r (phase c.0) (holds_at c.0) (given c.0) =
        subst
        (λ y. WalksOn merged safe (begins (key w)) (gives (key w)) y (holds_at w) (given w) r (phase c.0) (holds_at c.0) (given c.0))
        e (walks w r c.0 c.1).1 in
        ends_stay rs c.0 u c.2 z.1 ∙ z.3

    fault_stays : (rs : List (Option V)) (w u : T) (f : Fault) → Called nexts w rs u → phase w ≡ Refused f → phase u ≡ Refused f
    fault_stays [] w u f c e = ap phase (sym c) ∙ e
    fault_stays (r ∷ rs) w u f c e =
        let z : WalksOn merged safe (begins (key w)) (gives (key w)) (Refused f) (holds_at w) (given w) r (phase c.0)
        (holds_at c.0) (given c.0) =
        subst
        (λ y. WalksOn merged safe (begins (key w)) (gives (key w)) y (holds_at w) (given w) r (phase c.0) (holds_at c.0) (given c.0))
        e (walks w r c.0 c.1).1 in
        fault_stays rs c.0 u f c.2 z.1

    faulted : (rs : List (Option V)) (v u : T) (f : Fault) → Called nexts v rs u → phase v ≡ Refused f → phase u ≡ Ended → ⊥
    faulted rs v u f c e d = let z = fault_stays rs v u f c e in cc

    -- a call that gave none, of a run that ends: its step was the end
    module _ (step : Meaning Tok Cx St Er (Next S V)) (rs : List (Option V)) (w v u : T) (calls : Called nexts v rs u)
        (done : phase u ≡ Ended) (left : ℕ)
        (none : (q : Outcome (Next S V) Er St) → step (begin true (holds_at w)) q → q.verdict ≡ Yes (Some End) → left ≡ 0) where
      ended_fit : (fit : Bool) (y : V × S) (r : Option V) → r ≡ None
          → MatchBool fit ((r ≡ Some y.0) × (phase v ≡ Running y.1) × (given v ≡ given w + 1))
          ((r ≡ None) × (phase v ≡ Refused (fault.Stop CountTooLarge)) × (given v ≡ given w))
          → given u ≡ given w + left
      ended_fit true y r i h = let e = h.0 in let no : ⊥ = cc in absurd no
      ended_fit false y r i h = absurd (faulted rs v u (fault.Stop CountTooLarge) calls h.1 done)

      ended_by : (a : Result (Option (V × S)) Fault) → Ran merged safe step true (holds_at w) (holds_at v) (with_next a) → GivesCounted (given w) a None (phase v) (given v) → given u ≡ given w + left
      ended_by (Ok (Some y)) h c = ended_fit (nat_lt (given w + 1) (2 ^ 64)) y None refl c
      ended_by (Ok None) h c =
          let l : left ≡ 0 = none h.outcome h.meant (yes_of h.outcome.verdict (Some End) h.answered) in
          let g : given u ≡ given v = ends_stay rs v u calls c.1 in
          let k : given v ≡ given w = c.2 in
          omega (arith, l, g, k)
      ended_by (Err f) h c = absurd (faulted rs v u f calls c.1 done)

    module _ (k : K) (quiet : Type 0) (same : V → V → Type 0) (alike : S → S → Type 0) (agree : ItemsAgree same alike (begins k) (gives k)) where
      walk_at : (w v : T) (r : Option V) (p : Phase S) → key w ≡ k → phase w ≡ p → nexts w r v
          → (key v ≡ k) × WalksOn merged safe (begins k) (gives k) p (holds_at w) (given w) r (phase v) (holds_at v) (given v)
      walk_at w v r p e f n =
          let z = walks w r v n in
          let at_k : WalksOn merged safe (begins k) (gives k) (phase w) (holds_at w) (given w) r (phase v) (holds_at v) (given v) =
          subst
          (λ y. WalksOn merged safe (begins y) (gives y) (phase w) (holds_at w) (given w) r (phase v) (holds_at v) (given v))
          e z.1 in
          (z.0 ∙ e, subst (λ y. WalksOn merged safe (begins k) (gives k) y (holds_at w) (given w) r (phase v) (holds_at v) (given v)) f at_k)

      -- calls that lead to a run gave the first of these items, after n others, and all of them where it has ended
      abbrev Gives : List (Option V) → ℕ → T → List V → Type 0
      Gives rs n u ys = IsStartOf same rs ys × (phase u ≡ Ended → given u ≡ n + length ys)

      one_more_given : (rs : List (Option V)) (x : V) (n m : ℕ) (u : T) → m ≡ n + 1 → (y : V) (ys : List V) → same x y → Gives rs m u ys → Gives (Some x ∷ rs) n u (y ∷ ys)
      one_more_given rs x n m u e y ys s g = ((s, g.0), λ d. (let all : given u ≡ m + length ys = g.1 d in omega (arith, all, e)))

      -- calls of a run whose iteration was made
      running : (rs : List (Option V)) (w u : T) (s : S) → key w ≡ k → phase w ≡ Running s → Called nexts w rs u
          → StaysNone rs
          → GoesOn (begins k) (gives k) quiet same alike agree (Gives rs (given w) u) s (begin true (holds_at w))
      running [] w u s e f c n t b a items ys l z links vals stop = (tt, λ d. (let y = ap phase c in let no : ⊥ = cc in absurd no))
      running (None ∷ rs) w u s e f c n t b a items ys l z links vals stop =
          let y = walk_at w c.0 None (Running s) e f c.1 in (
            n,
            λ d. ended_by (gives k s) rs w c.0 u c.2 d (length ys)
                (λ q m v. no_item (begins k) (gives k) quiet same alike agree s (begin true (holds_at w)) q m v t b a
                items ys l z links vals stop)
                y.1.answer y.1.ran y.1.counted,
          )
      running (Some x ∷ rs) w u s e f c n t b a items ys l z links vals stop =
          let y = walk_at w c.0 (Some x) (Running s) e f c.1 in
          let g = gave_by merged safe (holds_at w) (holds_at c.0) x (given w) (given c.0) (gives k s) y.1.answer (phase c.0) y.1.ran y.1.counted in
          one_item (begins k) (gives k) quiet same alike agree (Gives rs (given c.0) u)
          (Gives (Some x ∷ rs) (given w) u) x s g.next (begin true (holds_at w)) (begin true (holds_at c.0))
          g.outcome (one_more_given rs x (given w) (given c.0) u g.counts) g.meant g.says g.tokens g.context g.place
          g.state
          (running rs c.0 u g.next y.0 g.goes c.2 n) t b a items ys l z links vals stop

      -- calls of a run that begins
      unbegun : (rs : List (Option V)) (w u : T) → key w ≡ k → phase w ≡ Unbegun → Called nexts w rs u → StaysNone rs
          → (r : Outcome S Er St) → begins k (begin true (holds_at w)) r → (t : S) → r.verdict ≡ Yes (Some t)
          → (a : Option (List V)) (items : List (Item Er St S V (List V))) (ys : List V)
          → Linked (gives k) (Appends quiet) a t (from (begin true (holds_at w)) r) items → Valued items ys
          → EndsAfter (gives k) quiet items t (from (begin true (holds_at w)) r) → Gives rs (given w) u ys
      unbegun [] w u e f c n r m t y a items ys links vals stop = (tt, λ d. (let z = ap phase c in let no : ⊥ = cc in absurd no))
      unbegun (None ∷ rs) w u e f c n r m t y a items ys links vals stop =
          let z = walk_at w c.0 None Unbegun e f c.1 in (
            n,
            λ d. ended_by (GivesFirst (begins k) (gives k)) rs w c.0 u c.2 d (length ys) (λ q j v.
                (let p = made (begins k) (gives k) quiet same alike agree (begin true (holds_at w)) q (Some End) v r m t y j in
                no_item (begins k) (gives k) quiet same alike agree p.iteration p.start p.step p.meant (p.says ∙ v) t
                (from (begin true (holds_at w)) r) a items ys p.alike_is p.there links vals stop)) z.1.answer
                z.1.ran z.1.counted,
          )
      unbegun (Some x ∷ rs) w u e f c n r m t y a items ys links vals stop =
          let z = walk_at w c.0 (Some x) Unbegun e f c.1 in
          let g = gave_by merged safe (holds_at w) (holds_at c.0) x (given w) (given c.0) (GivesFirst (begins k) (gives k)) z.1.answer (phase c.0) z.1.ran z.1.counted in
          let p = made (begins k) (gives k) quiet same alike agree (begin true (holds_at w)) g.outcome (Some (More (Some x) g.next)) g.says r m t y g.meant in
          one_item (begins k) (gives k) quiet same alike agree (Gives rs (given c.0) u)
          (Gives (Some x ∷ rs) (given w) u) x p.iteration g.next p.start (begin true (holds_at c.0)) p.step
          (one_more_given rs x (given w) (given c.0) u g.counts) p.meant (p.says ∙ g.says) (g.tokens ∙ sym p.tokens)
          (g.context ∙ sym p.context)
          (g.place ∙ p.end) (g.state ∙ p.state) (running rs c.0 u g.next z.0 g.goes c.2 n) t (from (begin true (holds_at w)) r) a items ys p.alike_is p.there links vals stop

      module _ {C : Type 0} (holds : List V → C → Type 0) (rs : List (Option V)) (w u : T) (e : key w ≡ k)
          (f : phase w ≡ Unbegun) (calls : Called nexts w rs u) (n : StaysNone rs) (c : C) (o : Outcome C Er St)
          (said : o.verdict ≡ Yes (Some c)) where
        start_by : (room : ℕ) (r : Outcome S Er St) (v : Verdict S Er) → r.verdict ≡ v
            → begins k (begin true (holds_at w)) r
            → Follows v (FromMade (gives k) (Appends quiet) (Collected holds) room (Some [])) (begin true (holds_at w)) r o
            → (ys : List V) × holds ys c × Gives rs (given w) u ys
        start_by room r (Yes (Some t)) y m g =
            let all = collection (gives k) quiet holds room t (from (begin true (holds_at w)) r) g.0 c g.1 (sym (ap (λ (x : Outcome C Er St). x.verdict) g.2) ∙ said) in
            (all.list, all.held, unbegun rs w u e f calls n r m t y (Some []) all.items all.list all.linked all.valued all.ends)
        start_by room r (Yes None) y m g = absurd g.1
        start_by room r No y m g = let z = ap (λ (x : Outcome C Er St). x.verdict) g in let no : ⊥ = cc in absurd no
        start_by room r (Halt h) y m g = let z = ap (λ (x : Outcome C Er St). x.verdict) g in let no : ⊥ = cc in absurd no
        start_by room r (Clash h) y m g = let z = ap (λ (x : Outcome C Er St). x.verdict) g in let no : ⊥ = cc in absurd no

        -- the items of calls are the first of those that are collected from where the run begins, and all of them at its end
        pub is-start : Collects (gives k) (begins k) holds quiet (begin true (holds_at w)) o → (ys : List V) × holds ys c × Gives rs (given w) u ys
        is-start m = start_by m.room m.run.first m.run.first.verdict refl m.run.meant.run m.run.follows

        -- a run that has ended has given as many
        pub is-all : Collects (gives k) (begins k) holds quiet (begin true (holds_at w)) o → given w ≡ 0 → phase u ≡ Ended → (ys : List V) × holds ys c × (given u ≡ length ys)
        is-all m z d =
            let s = is-start m in
            let all : given u ≡ given w + length s.0 = s.2.1 d in
            (s.0, s.1, omega (arith, all, z))
