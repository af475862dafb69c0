-- Why what is folded back is folded back by a folder that takes no notice of the run, from where runs may stand.
use Rattle.std.proofs.Common.{◌≡◌, ◌≤◌, ◌∙◌, ℕ, zero, suc, Bool, true, false, Option, Some, None, option_map, List, [], ◌∷◌, ◌++◌, map, length, refl, sym, ap, subst, inl, inr, arith}
use Rattle.std.specs.Prelude.{⊤}
use Rattle.std.proofs.lemmas.List.{map-append, length-map}
use Rattle.std.specs.declared.alloc.Global.{Global}
use Rattle.std.specs.declared.vec.Vec.{Vec}
use Rattle.chumsky_input.specs.Layout.{Layout}
use Rattle.chumsky_input.specs.declared.input.Input as input_trait
use Rattle.chumsky_input.specs.declared.inspector.Inspector as inspector_trait
use Rattle.chumsky_input.specs.declared.stop.Stop.TheVariants.{CountTooLarge, Memory}
use Rattle.chumsky_input.specs.Extra.{Shown}
use Rattle.chumsky_input.specs.Outcome.{Meaning, Beginning, Outcome, Verdict, Yes, No, Halt, Clash, IsAnswer, EndsAfterStart}
use Rattle.chumsky_parser.specs.Chained.{Chained, Follows, Given, Asked, from, after, retold}
use Rattle.chumsky_parser.specs.Failure.{Stops, wanting}
use Rattle.chumsky_parser.specs.Items.{Next, More, End, AfterStep, FromMade, ItemsEnd}
use Rattle.chumsky_parser.specs.Steps.{AllSteps, listed, unlisted}
use Rattle.chumsky_parser.specs.Showing.{GivesShown, shown_since}
use Rattle.chumsky_items.specs.Consumers.{Appends, HoldsAll, Collected, Collects}
use Rattle.chumsky_parser.specs.Progress.{IsYes}
use Rattle.chumsky_folds.specs.Compared.{IsBlind, EndsWhere, StandsFrom, SameOutcomesFrom}
use Rattle.chumsky_folds.specs.FoldingBack.{FoldsRight, FoldsHeld, FoldedBack, FoldsBack}
use Rattle.chumsky_folds.specs.FoldingBackShown.{FoldsRightShown, FoldedBackShown, FoldsBackShown}
use Rattle.chumsky_folds.specs.Standing.{AtCursor}
use Rattle.chumsky_folds.specs.Placed.{Placed, HoldsPlaced, places_of}
use Rattle.chumsky_folds.proofs.BlindLemmas.{after_given, before_given}
use Rattle.chumsky_folds.proofs.BlindBackLemmas.{blind-back}
use Rattle.chumsky_parser.proofs.YesLemmas.{is_yes}
use Rattle.chumsky_folds.proofs.PlacedLemmas.{placed_more, placed_end, placed_no, placed_halt, placed_clash}

-- items without their places
abbrev bare : {V : Type 0} → List (V × ℕ) → List V
bare xs = map (λ x. x.0) xs

-- the verdict, with another value where it is a yes
abbrev revalued : {D C Er : Type 0} → Verdict D Er → Option C → Verdict C Er
revalued (Yes v) c = Yes c
revalued No c = No
revalued (Halt s) c = Halt s
revalued (Clash e) c = Clash e

module _ {Tok St V : Type 0} (stands : Layout Tok → ℕ → St → Type 0) where
  -- an item began where a run may stand, not past this place
  abbrev Began : Layout Tok → ℕ → V × ℕ → Type 0
  Began ts n x = (x.1 ≤ n) × ((s : St) × stands ts x.1 s)

  abbrev AllBegan : Layout Tok → ℕ → List (V × ℕ) → Type 0
  AllBegan ts n [] = ⊤
  AllBegan ts n (x ∷ xs) = Began ts n x × AllBegan ts n xs

  began-later : (ts : Layout Tok) (m n : ℕ) (ps : List (V × ℕ)) → m ≤ n → AllBegan ts m ps → AllBegan ts n ps
  began-later ts m n [] l h = tt
  began-later ts m n (x ∷ ps) l h = ((omega (arith, h.0.0, l), h.0.1), began-later ts m n ps l h.1)

  began-more : (ts : Layout Tok) (n : ℕ) (ps : List (V × ℕ)) (x : V × ℕ) → AllBegan ts n ps → Began ts n x → AllBegan ts n (ps ++ x ∷ [])
  began-more ts n [] x h k = (k, tt)
  began-more ts n (y ∷ ps) x h k = (h.0, began-more ts n ps x h.1 k)

  -- the items so far, without their places and with them
  abbrev BothLists : Layout Tok → ℕ → Option (List V) → Option (List (V × ℕ)) → Type 0
  BothLists ts n (Some xs) (Some ps) = (bare ps ≡ xs) × AllBegan ts n ps
  BothLists ts n (Some xs) None = ⊥
  BothLists ts n None (Some ps) = ⊥
  BothLists ts n None None = ⊤

  lists-later : (ts : Layout Tok) (m n : ℕ) (l : Option (List V)) (p : Option (List (V × ℕ))) → m ≤ n → BothLists ts m l p → BothLists ts n l p
  lists-later ts m n (Some xs) (Some ps) e h = (h.0, began-later ts m n ps e h.1)
  lists-later ts m n (Some xs) None e h = absurd h
  lists-later ts m n None (Some ps) e h = absurd h
  lists-later ts m n None None e h = tt

module _ {Tok St : Type 0} (stands : Layout Tok → ℕ → St → Type 0) (V : Type 0) where
  no_lists : (ts : Layout Tok) (n : ℕ) (w : Bool) → BothLists {V = V} stands ts n (wanting w []) (wanting w [])
  no_lists ts n true = (refl, tt)
  no_lists ts n false = tt

module _ {Tok Cx St V A : Type 0} {stands : Layout Tok → ℕ → St → Type 0} (folds : GivesShown Tok Cx St (V × A) A) (steps : V → A → A → Type 0) (blind : IsBlind stands folds steps) where
  -- items that began where runs may stand are folded back by a folder that takes no notice of the run
  shown-back : (run : Shown Tok Cx St) (a : A) (ps : List (V × ℕ)) (z : A) → stands run.tokens run.to run.state
      → AllBegan stands run.tokens run.to ps → FoldsRight steps a (bare ps) z
      → FoldsRightShown folds run a ps z run.state
  shown-back run a [] z h k f = (f, refl)
  shown-back run a (x ∷ ps) z h k f =
      let first : folds (x.0, f.0) (record run { from = x.1 }) z run.state = blind.answers (x.0, f.0) (record run { from = x.1 }) k.0.1.0 z k.0.1.1 h k.0.0 f.2 in
      (f.0, run.state, shown-back run a ps f.0 h k.1 f.1, first)

module _ {Tok St V C D : Type 0} (held : List (V × ℕ) → C → Type 0) (holds : List V → D → Type 0) (stands : Layout Tok → ℕ → St → Type 0) where
  -- two collections of the same items
  abbrev BothHold : Layout Tok → ℕ → Option D → Option C → Type 0
  BothHold ts n (Some d) (Some c) = (ps : List (V × ℕ)) × AllBegan stands ts n ps × holds (bare ps) d × held ps c
  BothHold ts n (Some d) None = ⊥
  BothHold ts n None (Some c) = ⊥
  BothHold ts n None None = ⊤

  hold-later : (ts : Layout Tok) (m n : ℕ) (d : Option D) (c : Option C) → m ≤ n → BothHold ts m d c → BothHold ts n d c
  hold-later ts m n (Some d) (Some c) l k = (k.0, began-later stands ts m n k.0 l k.1, k.2, k.3)
  hold-later ts m n (Some d) None l k = absurd k
  hold-later ts m n None (Some c) l k = absurd k
  hold-later ts m n None None l k = tt

  abbrev BothAnswer : {Er : Type 0} → Layout Tok → ℕ → Verdict D Er → Option C → Type 0
  BothAnswer ts n (Yes d) c = BothHold ts n d c
  BothAnswer ts n No c = ⊤
  BothAnswer ts n (Halt s) c = ⊤
  BothAnswer ts n (Clash e) c = ⊤

  -- each list of items that began where runs may stand has a collection with their places, where it has one without
  abbrev CanHold : Type 0
  CanHold = (ts : Layout Tok) (n : ℕ) (ps : List (V × ℕ)) (d : D) → AllBegan stands ts n ps → holds (bare ps) d → (c : C) × held ps c

module _ {Tok Cx St Er V C D : Type 0} (held : List (V × ℕ) → C → Type 0) (holds : List V → D → Type 0) (stands : Layout Tok → ℕ → St → Type 0) where
  -- the outcome, with the collection of the same items and their places
  record Placing (whole : Meaning Tok Cx St Er C) (b : Beginning Tok Cx St) (o : Outcome D Er St) : Type 0 where
    pub value : Option C
    pub both : BothAnswer held holds stands b.tokens o.end o.verdict value
    pub stood : IsYes o.verdict → stands b.tokens o.end o.state
    pub meant : whole b (retold (revalued o.verdict value) o)

  module _ {P : Type 0} (part : Meaning Tok Cx St Er P) (next : Option P → Meaning Tok Cx St Er D) (next' : Option P → Meaning Tok Cx St Er C) (b : Beginning Tok Cx St)
      (h : (x : Option P) (p : Outcome P Er St) (q : Outcome D Er St) → part b p → p.verdict ≡ Yes x → next x (from b p) q → Placing (next' x) (from b p) q) where
    chained-by : (p : Outcome P Er St) (v : Verdict P Er) (o : Outcome D Er St) → part b p → p.verdict ≡ v → Follows v next b p o → Placing (Chained part next') b o
    chained-by p (Yes x) o m e f =
        let r = h x p f.0 m e f.1 in
        let last : Outcome C Er St = retold (revalued f.0.verdict r.value) f.0 in
        let follows : Follows p.verdict next' b p (after p last) = subst (λ v. Follows v next' b p (after p last)) (sym e) (last, r.meant, refl) in
        subst (Placing (Chained part next') b) (sym f.2) (record { value = r.value; both = r.both; stood = r.stood; meant = record { first = p; meant = m; follows = follows } })
    chained-by p No o m e f =
        subst (Placing (Chained part next') b) (sym f)
        (record { value = None; both = tt; stood = λ x. absurd x; meant = record { first = p; meant = m; follows = subst (λ v. Follows v next' b p (retold No p)) (sym e) refl } })
    chained-by p (Halt s) o m e f =
        subst (Placing (Chained part next') b) (sym f)
        (record { value = None; both = tt; stood = λ x. absurd x; meant = record { first = p; meant = m; follows = subst (λ v. Follows v next' b p (retold (Halt s) p)) (sym e) refl } })
    chained-by p (Clash x) o m e f =
        subst (Placing (Chained part next') b) (sym f)
        (record { value = None; both = tt; stood = λ x. absurd x; meant = record { first = p; meant = m; follows = subst (λ v. Follows v next' b p (retold (Clash x) p)) (sym e) refl } })

    -- a part that stays, and what follows it
    chained-placing : (o : Outcome D Er St) → Chained part next b o → Placing (Chained part next') b o
    chained-placing o m = chained-by m.first m.first.verdict o m.meant refl m.follows

  module _ {S : Type 0} (step : Meaning Tok Cx St Er (Next S V)) (on : Option V → S → Meaning Tok Cx St Er D)
      (on' : Option (V × ℕ) → S → Meaning Tok Cx St Er C) (ended : Meaning Tok Cx St Er D)
      (ended' : Meaning Tok Cx St Er C) (b : Beginning Tok Cx St)
      (more : (v : Option V) (t : S) (p : Outcome (Next S V) Er St) (q : Outcome D Er St) → step b p
      → p.verdict ≡ Yes (Some (More v t)) → on v t (from b p) q
      → Placing (on' (option_map (λ y. (y, b.start)) v) t) (from b p) q)
      (end : (p : Outcome (Next S V) Er St) (q : Outcome D Er St) → step b p → p.verdict ≡ Yes (Some End) → ended (from b p) q → Placing ended' (from b p) q) where
    abbrev whole_step : Meaning Tok Cx St Er C
    whole_step = Chained (Placed step) (AfterStep on' ended')

    step-by : (p : Outcome (Next S V) Er St) (v : Verdict (Next S V) Er) (o : Outcome D Er St) → step b p → p.verdict ≡ v → Follows v (AfterStep on ended) b p o → Placing whole_step b o
    step-by p (Yes (Some (More x t))) o m e f =
        let r = more x t p f.0 m e f.1 in
        let last : Outcome C Er St = retold (revalued f.0.verdict r.value) f.0 in
        subst (Placing whole_step b) (sym f.2)
        (record { value = r.value; both = r.both; stood = r.stood; meant = record { first = retold (Yes (Some (More (option_map (λ y. (y, b.start)) x) t))) p; meant = placed_more step b p m x t e; follows = (last, r.meant, refl) } })
    step-by p (Yes (Some End)) o m e f =
        let r = end p f.0 m e f.1 in
        let last : Outcome C Er St = retold (revalued f.0.verdict r.value) f.0 in
        subst (Placing whole_step b) (sym f.2)
        (record { value = r.value; both = r.both; stood = r.stood; meant = record { first = retold (Yes (Some End)) p; meant = placed_end step b p m e; follows = (last, r.meant, refl) } })
    step-by p (Yes None) o m e f = absurd f.1
    step-by p No o m e f =
        subst (Placing whole_step b) (sym f)
        (record { value = None; both = tt; stood = λ x. absurd x; meant = record { first = retold No p; meant = placed_no step b p m e; follows = refl } })
    step-by p (Halt s) o m e f =
        subst (Placing whole_step b) (sym f)
        (record { value = None; both = tt; stood = λ x. absurd x; meant = record { first = retold (Halt s) p; meant = placed_halt step b p m s e; follows = refl } })
    step-by p (Clash x) o m e f =
        subst (Placing whole_step b) (sym f)
        (record { value = None; both = tt; stood = λ x. absurd x; meant = record { first = retold (Clash x) p; meant = placed_clash step b p m x e; follows = refl } })

    -- a step, and what follows it
    step-placing : (o : Outcome D Er St) → Chained step (AfterStep on ended) b o → Placing whole_step b o
    step-placing o m = step-by m.first m.first.verdict o m.meant refl m.follows

  stops-placing : (b : Beginning Tok Cx St) (o : Outcome D Er St) → Stops CountTooLarge b o → Placing (Stops CountTooLarge) b o
  stops-placing b o m = subst (Placing (Stops CountTooLarge) b) (sym m) (record { value = None; both = tt; stood = λ x. absurd x; meant = refl })

  module _ (can : CanHold held holds stands) where
    given-placing : (ps : List (V × ℕ)) (v : Option D) (b : Beginning Tok Cx St) → stands b.tokens b.start b.state
        → AllBegan stands b.tokens b.start ps → HoldsAll holds (Some (bare ps)) v
        → Placing (Collected held (Some ps)) b (record { verdict = Yes v; end = b.start; state = b.state; events = []; emitted = [] })
    given-placing ps (Some d) b k a h =
        let c = can b.tokens b.start ps d a h in
        record { value = Some c.0; both = (ps, a, h, c.1); stood = λ _. k; meant = record { value = Some c.0; is = c.1; given = refl } }
    given-placing ps None b k a h = absurd h

    none-placing : (v : Option D) (b : Beginning Tok Cx St) → stands b.tokens b.start b.state → HoldsAll holds None v
        → Placing (Collected held None) b (record { verdict = Yes v; end = b.start; state = b.state; events = []; emitted = [] })
    none-placing (Some d) b k h = absurd h
    none-placing None b k h = record { value = None; both = tt; stood = λ _. k; meant = record { value = None; is = tt; given = refl } }

    collected-placing : (l : Option (List V)) (p : Option (List (V × ℕ))) (b : Beginning Tok Cx St) (o : Outcome D Er St)
        → stands b.tokens b.start b.state → BothLists stands b.tokens b.start l p → Collected holds l b o
        → Placing (Collected held p) b o
    collected-placing (Some xs) (Some ps) b o k h m =
        subst (Placing (Collected held (Some ps)) b) (sym m.given)
        (given-placing ps m.value b k h.1 (subst (λ l. HoldsAll holds (Some l) m.value) (sym h.0) m.is))
    collected-placing (Some xs) None b o k h m = absurd h
    collected-placing None (Some ps) b o k h m = absurd h
    collected-placing None None b o k h m = subst (Placing (Collected held None) b) (sym m.given) (none-placing m.value b k m.is)

    module _ (next : Option (List V) → Meaning Tok Cx St Er D)
        (next' : Option (List (V × ℕ)) → Meaning Tok Cx St Er C) (b : Beginning Tok Cx St) (o : Outcome D Er St)
        (h : (l : Option (List V)) (p : Option (List (V × ℕ))) → BothLists stands b.tokens b.start l p → next l b o → Placing (next' p) b o)
      where
        same_list : (l : Option (List V)) (p : Option (List (V × ℕ))) (part : Meaning Tok Cx St Er (List (V × ℕ)))
            → BothLists stands b.tokens b.start l p
            → part b (record { verdict = Yes p; end = b.start; state = b.state; events = []; emitted = [] })
            → Chained (Given l) next b o → Placing (Chained part next') b o
        same_list l p part k n m =
            let r = h l p k (after_given next b o l m) in
            record { value = r.value; both = r.both; stood = r.stood; meant = before_given next' b (retold (revalued o.verdict r.value) o) p part n r.meant }

        appends-placing : (l : Option (List V)) (p : Option (List (V × ℕ))) (v : Option V) (n : ℕ)
            → BothLists stands b.tokens b.start l p → n ≤ b.start → ((s : St) × stands b.tokens n s)
            → Chained (Appends ⊥ l v) next b o → Placing (Chained (Appends ⊥ p (option_map (λ y. (y, n)) v)) next') b o
        appends-placing (Some xs) (Some ps) (Some v) n k e s m =
            elim m.meant [
              | inl r ↦ let f : o ≡ retold (Halt Memory) m.first = subst (λ w. Follows w next b m.first o) r.1 m.follows in
                  subst (Placing (Chained (Appends ⊥ (Some ps) (Some (v, n))) next') b) (sym f)
                  (record { value = None; both = tt; stood = λ x. absurd x; meant = record { first = retold (Halt Memory) m.first; meant = inl (r.0, refl, r.2); follows = refl } })
              | inr g ↦ let both : bare (ps ++ (v, n) ∷ []) ≡ xs ++ v ∷ [] = map-append (λ (y : V × ℕ). y.0) ps ((v, n) ∷ []) ∙ ap (λ l. l ++ v ∷ []) k.0 in
                  same_list (Some (xs ++ v ∷ [])) (Some (ps ++ (v, n) ∷ [])) (Appends ⊥ (Some ps) (Some (v, n))) (both, began-more stands b.tokens b.start ps (v, n) k.1 (e, s)) (inr refl)
                  (record { first = m.first; meant = g; follows = m.follows })
            ]
        appends-placing (Some xs) (Some ps) None n k e s m = same_list None None (Appends ⊥ (Some ps) None) tt refl m
        appends-placing (Some xs) None v n k e s m = absurd k
        appends-placing None (Some ps) v n k e s m = absurd k
        appends-placing None None v n k e s m = same_list None None (Appends ⊥ None (option_map (λ y. (y, n)) v)) tt refl m

    module _ {S : Type 0} (gives : S → Meaning Tok Cx St Er (Next S V)) (ends : (s : S) → EndsAfterStart (gives s)) (stay : (s : S) → EndsWhere stands (gives s)) where
      abbrev placed_run : ℕ → Option (List (V × ℕ)) → S → Meaning Tok Cx St Er C
      placed_run = AllSteps (λ s. Placed (gives s)) (Appends ⊥) (Collected held)

      abbrev bare_run : ℕ → Option (List V) → S → Meaning Tok Cx St Er D
      bare_run = AllSteps gives (Appends ⊥) (Collected holds)

      further : (s : S) (b : Beginning Tok Cx St) (p : Outcome (Next S V) Er St) (x : Option (Next S V)) → gives s b p → p.verdict ≡ Yes x → b.start ≤ p.end
      further s b p x m e = ends s b p m (subst IsAnswer (sym e) tt)

      steps-placing : (room : ℕ) (l : Option (List V)) (p : Option (List (V × ℕ))) (s : S) (b : Beginning Tok Cx St) (o : Outcome D Er St)
          → BothLists stands b.tokens b.start l p → stands b.tokens b.start b.state → bare_run room l s b o
          → Placing (placed_run room p s) b o
      steps-placing zero l p s b o h k m =
          step-placing (gives s) (λ _ _. Stops CountTooLarge) (λ _ _. Stops CountTooLarge) (Collected holds l) (Collected held p) b
          (λ v t r q n e f. stops-placing (from b r) q f)
          (λ r q n e f. collected-placing l p (from b r) q (stay s b r k n (is_yes e)) (lists-later stands b.tokens b.start r.end l p (further s b r (Some End) n e) h) f) o m
      steps-placing (suc room) l p s b o h k m =
          step-placing (gives s) (λ v t. Chained (Appends ⊥ l v) (λ k. bare_run room k t)) (λ v t. Chained (Appends ⊥ p v) (λ k. placed_run room k t)) (Collected holds l) (Collected held p) b
          (λ v t r q n e f.
          let on = further s b r (Some (More v t)) n e in
          let there : stands b.tokens r.end r.state = stay s b r k n (is_yes e) in
          appends-placing (λ k. bare_run room k t) (λ k. placed_run room k t) (from b r) q
          (λ i j d g. steps-placing room i j t (from b r) q d there g) l p v b.start
          (lists-later stands b.tokens b.start r.end l p on h) on (b.state, k) f)
          (λ r q n e f. collected-placing l p (from b r) q (stay s b r k n (is_yes e)) (lists-later stands b.tokens b.start r.end l p (further s b r (Some End) n e) h) f) o m

      made-placing : (room : ℕ) (l : Option (List V)) (p : Option (List (V × ℕ))) (s : Option S)
          (b : Beginning Tok Cx St) (o : Outcome D Er St)
          → BothLists stands b.tokens b.start l p → stands b.tokens b.start b.state
          → FromMade gives (Appends ⊥) (Collected holds) room l s b o
          → Placing (FromMade (λ t. Placed (gives t)) (Appends ⊥) (Collected held) room p s) b o
      made-placing room l p (Some s) b o h k m =
          let r = steps-placing room l p s b o h k (unlisted gives (Appends ⊥) (Collected holds) room l s b o m) in
          record { value = r.value; both = r.both; stood = r.stood; meant = listed (λ t. Placed (gives t)) (Appends ⊥) (Collected held) room p s b (retold (revalued o.verdict r.value) o) r.meant }
      made-placing room l p None b o h k m = absurd m

      -- items collected are collected with their places
      collects-placing : (begins : Meaning Tok Cx St Er S) → EndsWhere stands begins
          → (b : Beginning Tok Cx St) (o : Outcome D Er St) → stands b.tokens b.start b.state
          → Collects gives begins holds ⊥ b o → Placing (Collects (λ s. Placed (gives s)) begins held ⊥) b o
      collects-placing begins begin b o k m =
          let r =
          chained-placing (Asked true begins)
          (FromMade gives (Appends ⊥) (Collected holds) m.room (wanting b.wanted []))
          (FromMade (λ t. Placed (gives t)) (Appends ⊥) (Collected held) m.room (wanting b.wanted [])) b
          (λ x p q n e f. made-placing m.room (wanting b.wanted []) (wanting b.wanted []) x (from b p) q
          (no_lists stands V b.tokens p.end b.wanted) (begin (record b { wanted = true }) p k n.run (is_yes e)) f)
          o m.run in
          record { value = r.value; both = r.both; stood = r.stood; meant = record { room = m.room; full = m.full; run = r.meant } }

  module _ {A : Type 0} (folds : GivesShown Tok Cx St (V × A) A) (steps : V → A → A → Type 0)
      (blind : IsBlind stands folds steps) (one : (xs ys : List V) (d : D) → holds xs d → holds ys d → xs ≡ ys) where
    given-back : (d : Option D) (c : Option C) (a : Option A) (b : Beginning Tok Cx St) (o : Outcome A Er St)
        → stands b.tokens b.start b.state → BothHold held holds stands b.tokens b.start d c → (v : Option A)
        → FoldsHeld holds steps d a v → Given v b o → FoldedBackShown held folds c a b o
    given-back (Some d) (Some c) (Some a) b o h k (Some z) f g =
        let same : f.0 ≡ bare k.0 = one f.0 (bare k.0) d f.1 k.2 in
        record { by_value = (k.0, z, b.state, k.3, shown-back folds steps blind (shown_since b.start b) a k.0 z h k.1 (subst (λ l. FoldsRight steps a l z) same f.2), g) }
    given-back (Some d) (Some c) (Some a) b o h k None f g = absurd f
    given-back (Some d) (Some c) None b o h k v f g = record { by_value = subst (λ x. Given x b o) f g }
    given-back (Some d) None a b o h k v f g = absurd k
    given-back None (Some c) a b o h k v f g = absurd k
    given-back None None a b o h k v f g = record { by_value = subst (λ x. Given x b o) f g }

    module _ (part : Meaning Tok Cx St Er A) (last : EndsAfterStart part) (end : EndsWhere stands part) where
      after_part : (d : Option D) (c : Option C) (b : Beginning Tok Cx St) (p o : Outcome A Er St) (v : Verdict A Er)
          → stands b.tokens b.start b.state → BothHold held holds stands b.tokens b.start d c → part b p
          → p.verdict ≡ v → Follows v (FoldedBack holds steps d) b p o
          → Follows v (FoldedBackShown held folds c) b p o
      after_part d c b p o (Yes a) h k m e f =
          let on : b.start ≤ p.end = last b p m (subst IsAnswer (sym e) tt) in
          (f.0, given-back d c a (from b p) f.0 (end b p h m (is_yes e)) (hold-later held holds stands b.tokens b.start p.end d c on k) f.1.value f.1.is f.1.given, f.2)
      after_part d c b p o No h k m e f = f
      after_part d c b p o (Halt s) h k m e f = f
      after_part d c b p o (Clash x) h k m e f = f

      part-placing : (d : Option D) (c : Option C) (b : Beginning Tok Cx St) (o : Outcome A Er St)
          → stands b.tokens b.start b.state → BothHold held holds stands b.tokens b.start d c
          → Chained part (FoldedBack holds steps d) b o → Chained part (FoldedBackShown held folds c) b o
      part-placing d c b o h k m = record { first = m.first; meant = m.meant; follows = after_part d c b m.first o m.first.verdict h k m.meant refl m.follows }

      after_items : (b : Beginning Tok Cx St) (p : Outcome D Er St) (o : Outcome A Er St) (v : Verdict D Er) (c : Option C)
          → (IsYes v → stands b.tokens p.end p.state) → BothAnswer held holds stands b.tokens p.end v c
          → Follows v (λ d. Chained part (FoldedBack holds steps d)) b p o
          → Follows (revalued v c) (λ c. Chained part (FoldedBackShown held folds c)) b (retold (revalued v c) p) o
      after_items b p o (Yes d) c h k f = (f.0, part-placing d c (from b p) f.0 (h tt) k f.1, f.2)
      after_items b p o No c h k f = f
      after_items b p o (Halt s) c h k f = f
      after_items b p o (Clash e) c h k f = f

module _ {Tok Cx St Er S V C D A : Type 0} (gives : S → Meaning Tok Cx St Er (Next S V))
    (begins : Meaning Tok Cx St Er S) (held : List (V × ℕ) → C → Type 0) (holds : List V → D → Type 0)
    {stands : Layout Tok → ℕ → St → Type 0} (folds : GivesShown Tok Cx St (V × A) A) (steps : V → A → A → Type 0)
    (blind : IsBlind stands folds steps)
    (plain : C → D) (keeps : (xs : List (V × ℕ)) (c : C) → held xs c → holds (map (λ x. x.0) xs) (plain c))
    (one : (xs ys : List V) (d : D) → holds xs d → holds ys d → xs ≡ ys) (can : CanHold held holds stands) where
  -- what is folded back by a folder that takes no notice of the run is what is folded back
  pub back-alike : (part : Meaning Tok Cx St Er A) → ItemsEnd begins gives → EndsAfterStart part
      → SameOutcomesFrom (StandsFrom stands begins gives part) (FoldsBackShown gives begins held folds part)
      (FoldsBack gives begins holds ⊥ part steps)
  back-alike part ends last =
      record {
        narrower = blind-back gives begins held holds plain keeps folds steps blind part;
        wider = λ b o k m.
            let r = collects-placing held holds stands can gives ends.step k.step begins k.begin b m.first k.here m.meant in
            record {
              first = retold (revalued m.first.verdict r.value) m.first;
              meant = r.meant;
              follows = after_items held holds stands folds steps blind one part last k.part b m.first o m.first.verdict r.value r.stood r.both m.follows;
            };
      }

module _ {I Cu Tok Sp St Mk V : Type 0} (source : input_trait.Ghosts I Cu Tok Sp) (states : inspector_trait.Ghosts St I Mk Tok Sp) where
  -- items that began at cursors, with those cursors
  cursors : (ts : Layout Tok) (n : ℕ) (ps : List (V × ℕ)) → AllBegan (AtCursor source states) ts n ps → (xs : List (V × Cu)) × (places_of source xs ≡ ps)
  cursors ts n [] h = ([], refl)
  cursors ts n (x ∷ ps) h =
      let rest = cursors ts n ps h.1 in
      let c = h.0.1.1 in
      ((x.0, c.cursor) ∷ rest.0, ap (λ (l : List (V × ℕ)). (x.0, source.place c.cursor) ∷ l) rest.1 ∙ ap (λ (k : ℕ). (x.0, k) ∷ ps) c.is_at)

  pub vec-holds : CanHold (HoldsPlaced source) (λ (xs : List V) (v : Vec V Global). v.items ≡ xs) (AtCursor source states)
  vec-holds ts n ps v h e =
      let xs = cursors ts n ps h in
      let long : length v.items ≡ length xs.0 = ap length (e ∙ ap (map (λ (x : V × ℕ). x.0)) (sym xs.1)) ∙ length-map _ _ ∙ length-map _ _ in
      (record { ptr = v.ptr; len = v.len; cap = v.cap; alloc = v.alloc; items = xs.0; ok = (v.ok.0 ∙ long, v.ok.1); small = v.small }, xs.1)
