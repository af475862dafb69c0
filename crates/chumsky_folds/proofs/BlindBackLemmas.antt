-- Why a folder that takes no notice of the run folds from the last item back as any other.
use Rattle.std.proofs.Common.{◌≡◌, ◌∙◌, ℕ, zero, suc, Bool, true, false, Option, Some, None, option_map, List, [], ◌∷◌, map, refl, sym, ap, subst, inl, inr}
use Rattle.std.proofs.lemmas.List.{append-nil, map-append}
use Rattle.chumsky_input.specs.Layout.{Layout}
use Rattle.chumsky_input.specs.declared.stop.Stop.TheVariants.{CountTooLarge}
use Rattle.chumsky_input.specs.Extra.{Shown}
use Rattle.chumsky_input.specs.Outcome.{Meaning, Beginning, Outcome, Verdict, Yes, No, Halt, Clash}
use Rattle.chumsky_parser.specs.Chained.{Chained, Follows, Given, Asked, from, after, retold}
use Rattle.chumsky_parser.specs.Failure.{Stops, wanting}
use Rattle.chumsky_parser.specs.Items.{Next, More, End, AfterStep, FromMade}
use Rattle.chumsky_parser.specs.Steps.{AllSteps, listed, unlisted}
use Rattle.chumsky_parser.specs.Showing.{GivesShown, shown_since}
use Rattle.chumsky_items.specs.Consumers.{Appends, HoldsAll, Collected, Collects}
use Rattle.chumsky_folds.specs.Compared.{IsBlind}
use Rattle.chumsky_folds.specs.FoldingBack.{FoldsRight, FoldedBack, FoldsBack}
use Rattle.chumsky_folds.specs.FoldingBackShown.{FoldsRightShown, GivenBack, FoldedBackShown, FoldsBackShown}
use Rattle.chumsky_folds.specs.Placed.{PairedWith, Placed}

module _ {V W Er : Type 0} (f : V → W) where
  -- a verdict and an outcome, the value put through a function
  abbrev mapped : Verdict V Er → Verdict W Er
  mapped (Yes v) = Yes (option_map f v)
  mapped No = No
  mapped (Halt s) = Halt s
  mapped (Clash e) = Clash e

  abbrev carried : {St : Type 0} → Outcome V Er St → Outcome W Er St
  carried o = retold (mapped o.verdict) o

module _ {Tok Cx St Er V V' W W' : Type 0} (f : V → V') (h : W → W') (next : Option V → Meaning Tok Cx St Er W) (next' : Option V' → Meaning Tok Cx St Er W') (b : Beginning Tok Cx St)
    (on : (x : Option V) (c : Beginning Tok Cx St) (q : Outcome W Er St) → next x c q → next' (option_map f x) c (carried h q)) where
  follows-carried : (v : Verdict V Er) (p : Outcome V Er St) (o : Outcome W Er St) → Follows v next b p o → Follows (mapped f v) next' b (carried f p) (carried h o)
  follows-carried (Yes x) p o m = (carried h m.0, on x (from b p) m.0 m.1, ap (λ (y : Outcome W Er St). carried h y) m.2)
  follows-carried No p o m = ap (λ (y : Outcome W Er St). carried h y) m
  follows-carried (Halt s) p o m = ap (λ (y : Outcome W Er St). carried h y) m
  follows-carried (Clash e) p o m = ap (λ (y : Outcome W Er St). carried h y) m

  -- a part and what follows it, where both are carried
  chained-carried : (part : Meaning Tok Cx St Er V) (part' : Meaning Tok Cx St Er V')
      → ((p : Outcome V Er St) → part b p → part' b (carried f p)) → (o : Outcome W Er St) → Chained part next b o
      → Chained part' next' b (carried h o)
  chained-carried part part' k o m = record { first = carried f m.first; meant = k m.first m.meant; follows = follows-carried m.first.verdict m.first o m.follows }

module _ {Tok Cx St Er P W W' : Type 0} (h : W → W') (next : Option P → Meaning Tok Cx St Er W) (next' : Option P → Meaning Tok Cx St Er W') (b : Beginning Tok Cx St)
    (on : (x : Option P) (c : Beginning Tok Cx St) (q : Outcome W Er St) → next x c q → next' x c (carried h q)) where
  follows-on : (v : Verdict P Er) (p : Outcome P Er St) (o : Outcome W Er St) → Follows v next b p o → Follows v next' b p (carried h o)
  follows-on (Yes x) p o m = (carried h m.0, on x (from b p) m.0 m.1, ap (λ (y : Outcome W Er St). carried h y) m.2)
  follows-on No p o m = ap (λ (y : Outcome W Er St). carried h y) m
  follows-on (Halt s) p o m = ap (λ (y : Outcome W Er St). carried h y) m
  follows-on (Clash e) p o m = ap (λ (y : Outcome W Er St). carried h y) m

  -- the same of a part that stays
  chained-on : (part : Meaning Tok Cx St Er P) (o : Outcome W Er St) → Chained part next b o → Chained part next' b (carried h o)
  chained-on part o m = record { first = m.first; meant = m.meant; follows = follows-on m.first.verdict m.first o m.follows }

module _ {Tok Cx St Er V V' W : Type 0} (f : V → V') (next : Option V → Meaning Tok Cx St Er W) (next' : Option V' → Meaning Tok Cx St Er W) (b : Beginning Tok Cx St)
    (on : (x : Option V) (c : Beginning Tok Cx St) (q : Outcome W Er St) → next x c q → next' (option_map f x) c q) where
  -- the same where only the part is
  follows-part : (v : Verdict V Er) (p : Outcome V Er St) (o : Outcome W Er St) → Follows v next b p o → Follows (mapped f v) next' b (carried f p) o
  follows-part (Yes x) p o m = (m.0, on x (from b p) m.0 m.1, m.2)
  follows-part No p o m = m
  follows-part (Halt s) p o m = m
  follows-part (Clash e) p o m = m

-- an item without its place
abbrev unplaced : {S V : Type 0} → Next S (V × ℕ) → Next S V
unplaced (More x t) = More (option_map (λ y. y.0) x) t
unplaced End = End

module _ {Tok Cx St Er S V : Type 0} (step : Meaning Tok Cx St Er (Next S V)) (b : Beginning Tok Cx St) where
  module _ (p : Outcome (Next S V) Er St) (o : Outcome (Next S (V × ℕ)) Er St) where
    given_after : (x : Next S (V × ℕ)) (q : Outcome (Next S (V × ℕ)) Er St) → Given (Some x) (from b p) q → o ≡ after p q → p.verdict ≡ Yes (Some (unplaced x)) → carried unplaced o ≡ p
    given_after x q g w e =
        let given : Outcome (Next S (V × ℕ)) Er St = record { verdict = Yes (Some x); end = p.end; state = p.state; events = []; emitted = [] } in
        let bare : carried unplaced (after p given) ≡ retold (Yes (Some (unplaced x))) p = cc (append-nil p.events, append-nil p.emitted) in
        ap (λ (y : Outcome (Next S (V × ℕ)) Er St). carried unplaced y) (w ∙ ap (λ (y : Outcome (Next S (V × ℕ)) Er St). after p y) g) ∙ bare ∙ ap (λ y. retold y p) (sym e)

    unplaced-by : (v : Verdict (Next S V) Er) → p.verdict ≡ v → Follows v (AfterStep (PairedWith b.start) (Given (Some End))) b p o → carried unplaced o ≡ p
    unplaced-by (Yes (Some (More (Some x) t))) e f = given_after (More (Some (x, b.start)) t) f.0 f.1 f.2 e
    unplaced-by (Yes (Some (More None t))) e f = given_after (More None t) f.0 f.1 f.2 e
    unplaced-by (Yes (Some End)) e f = given_after End f.0 f.1 f.2 e
    unplaced-by (Yes None) e f = absurd f.1
    unplaced-by No e f = ap (λ (y : Outcome (Next S (V × ℕ)) Er St). carried unplaced y) f ∙ ap (λ y. retold y p) (sym e)
    unplaced-by (Halt s) e f = ap (λ (y : Outcome (Next S (V × ℕ)) Er St). carried unplaced y) f ∙ ap (λ y. retold y p) (sym e)
    unplaced-by (Clash x) e f = ap (λ (y : Outcome (Next S (V × ℕ)) Er St). carried unplaced y) f ∙ ap (λ y. retold y p) (sym e)

  -- a step that places its item is the step
  unplaced-step : (o : Outcome (Next S (V × ℕ)) Er St) → Placed step b o → step b (carried unplaced o)
  unplaced-step o m = subst (step b) (sym (unplaced-by m.run.first o m.run.first.verdict refl m.run.follows)) m.run.meant

module _ {Tok Cx St Er S V C D : Type 0} (gives : S → Meaning Tok Cx St Er (Next S V))
    (begins : Meaning Tok Cx St Er S) (held : List (V × ℕ) → C → Type 0) (holds : List V → D → Type 0) (plain : C → D)
    (keeps : (xs : List (V × ℕ)) (c : C) → held xs c → holds (map (λ x. x.0) xs) (plain c)) where
  abbrev bare : List (V × ℕ) → List V
  bare xs = map (λ x. x.0) xs

  holds-carried : (l : Option (List (V × ℕ))) (c : Option C) → HoldsAll held l c → HoldsAll holds (option_map bare l) (option_map plain c)
  holds-carried (Some xs) (Some c) h = keeps xs c h
  holds-carried (Some xs) None h = absurd h
  holds-carried None (Some c) h = absurd h
  holds-carried None None h = tt

  collected-carried : (l : Option (List (V × ℕ))) (b : Beginning Tok Cx St) (o : Outcome C Er St) → Collected held l b o → Collected holds (option_map bare l) b (carried plain o)
  collected-carried l b o m = record { value = option_map plain m.value; is = holds-carried l m.value m.is; given = ap (λ (y : Outcome C Er St). carried plain y) m.given }

  appends-carried : (l : Option (List (V × ℕ))) (v : Option (V × ℕ)) (b : Beginning Tok Cx St) (r : Outcome (List (V × ℕ)) Er St)
      → Appends ⊥ l v b r → Appends ⊥ (option_map bare l) (option_map (λ y. y.0) v) b (carried bare r)
  appends-carried (Some xs) (Some v) b r (inl m) = inl (m.0, ap (λ y. mapped bare y) m.1, m.2)
  appends-carried (Some xs) (Some v) b r (inr m) =
      inr
      (ap (λ (y : Outcome (List (V × ℕ)) Er St). carried bare y) m
      ∙ ap (λ l. record { verdict = Yes (Some l); end = b.start; state = b.state; events = []; emitted = [] })
      (map-append (λ (y : V × ℕ). y.0) xs (v ∷ [])))
  appends-carried (Some xs) None b r m = ap (λ (y : Outcome (List (V × ℕ)) Er St). carried bare y) m
  appends-carried None v b r m = ap (λ (y : Outcome (List (V × ℕ)) Er St). carried bare y) m

  abbrev placed : ℕ → Option (List (V × ℕ)) → S → Meaning Tok Cx St Er C
  placed = AllSteps (λ s. Placed (gives s)) (Appends ⊥) (Collected held)

  abbrev listing : ℕ → Option (List V) → S → Meaning Tok Cx St Er D
  listing = AllSteps gives (Appends ⊥) (Collected holds)

  full-carried : (l : Option (List (V × ℕ))) (x : Option (Next S (V × ℕ))) (c : Beginning Tok Cx St) (q : Outcome C Er St)
      → AfterStep (λ _ _. Stops CountTooLarge) (Collected held l) x c q
      → AfterStep (λ _ _. Stops CountTooLarge) (Collected holds (option_map bare l)) (option_map unplaced x) c (carried plain q)
  full-carried l (Some (More v t)) c q m = ap (λ (y : Outcome C Er St). carried plain y) m
  full-carried l (Some End) c q m = collected-carried l c q m
  full-carried l None c q m = m

  more-carried : (room : ℕ)
      →
      ((l : Option (List (V × ℕ))) (s : S) (b : Beginning Tok Cx St) (o : Outcome C Er St) → placed room l s b o
      → listing room (option_map bare l) s b (carried plain o))
      → (l : Option (List (V × ℕ))) (x : Option (Next S (V × ℕ))) (c : Beginning Tok Cx St) (q : Outcome C Er St)
      → AfterStep (λ v t. Chained (Appends ⊥ l v) (λ k. placed room k t)) (Collected held l) x c q
      → AfterStep (λ v t. Chained (Appends ⊥ (option_map bare l) v) (λ k. listing room k t))
      (Collected holds (option_map bare l)) (option_map unplaced x) c (carried plain q)
  more-carried room ih l (Some (More v t)) c q m =
      chained-carried bare plain (λ k. placed room k t) (λ k. listing room k t) c (λ k d r n. ih k t d r n)
      (Appends ⊥ l v) (Appends ⊥ (option_map bare l) (option_map (λ y. y.0) v)) (appends-carried l v c) q m
  more-carried room ih l (Some End) c q m = collected-carried l c q m
  more-carried room ih l None c q m = m

  steps-carried : (room : ℕ) (l : Option (List (V × ℕ))) (s : S) (b : Beginning Tok Cx St) (o : Outcome C Er St) → placed room l s b o → listing room (option_map bare l) s b (carried plain o)
  steps-carried zero l s b o m = chained-carried unplaced plain _ _ b (full-carried l) (Placed (gives s)) (gives s) (unplaced-step (gives s) b) o m
  steps-carried (suc room) l s b o m = chained-carried unplaced plain _ _ b (more-carried room (steps-carried room) l) (Placed (gives s)) (gives s) (unplaced-step (gives s) b) o m

  made-carried : (room : ℕ) (l : Option (List (V × ℕ))) (s : Option S) (b : Beginning Tok Cx St) (o : Outcome C Er St)
      → FromMade (λ t. Placed (gives t)) (Appends ⊥) (Collected held) room l s b o
      → FromMade gives (Appends ⊥) (Collected holds) room (option_map bare l) s b (carried plain o)
  made-carried room l (Some s) b o m =
      listed gives (Appends ⊥) (Collected holds) room (option_map bare l) s b (carried plain o)
      (steps-carried room l s b o (unlisted (λ t. Placed (gives t)) (Appends ⊥) (Collected held) room l s b o m))
  made-carried room l None b o m = m

  no_items : (w : Bool) → option_map bare (wanting w []) ≡ wanting w []
  no_items true = refl
  no_items false = refl

  -- items collected with their places are those collected without
  collects-carried : (b : Beginning Tok Cx St) (o : Outcome C Er St) → Collects (λ s. Placed (gives s)) begins held ⊥ b o → Collects gives begins holds ⊥ b (carried plain o)
  collects-carried b o m =
      let run =
      chained-on plain
      (FromMade (λ t. Placed (gives t)) (Appends ⊥) (Collected held) m.room (wanting b.wanted []))
      (FromMade gives (Appends ⊥) (Collected holds) m.room (option_map bare (wanting b.wanted []))) b
      (made-carried m.room (wanting b.wanted [])) (Asked true begins) o m.run in
      record { room = m.room; full = m.full; run = subst (λ l. Chained (Asked true begins) (FromMade gives (Appends ⊥) (Collected holds) m.room l) b (carried plain o)) (no_items b.wanted) run }

  module _ {A : Type 0} (folds : GivesShown Tok Cx St (V × A) A) (steps : V → A → A → Type 0) {stands : Layout Tok → ℕ → St → Type 0} (blind : IsBlind stands folds steps) where
    folds-bare : (run : Shown Tok Cx St) (a : A) (xs : List (V × ℕ)) (z : A) (s : St) → FoldsRightShown folds run a xs z s → FoldsRight steps a (bare xs) z × (s ≡ run.state)
    folds-bare run a [] z s f = f
    folds-bare run a (x ∷ xs) z s f =
        let rest = folds-bare run a xs f.0 f.1 f.2 in
        let last = blind.sees (x.0, f.0) (record run { from = x.1; state = f.1 }) z s f.3 in
        ((f.0, rest.0, last.0), last.1 ∙ rest.1)

    folded-bare : (c : Option C) (a : Option A) (b : Beginning Tok Cx St) (o : Outcome A Er St) → GivenBack held folds c a b o → FoldedBack holds steps (option_map plain c) a b o
    folded-bare (Some c) (Some a) b o m =
        let all = folds-bare (shown_since b.start b) a m.0 m.1 m.2 m.4 in
        record { value = Some m.1; is = (bare m.0, keeps m.0 c m.3, all.0); given = m.5 ∙ ap (λ s. record { verdict = Yes (Some m.1); end = b.start; state = s; events = []; emitted = [] }) all.1 }
    folded-bare (Some c) None b o m = record { value = None; is = refl; given = m }
    folded-bare None a b o m = record { value = None; is = refl; given = m }

    after_part : (c : Option C) (v : Verdict A Er) (b : Beginning Tok Cx St) (p : Outcome A Er St) (o : Outcome A Er St)
        → Follows v (FoldedBackShown held folds c) b p o
        → Follows v (FoldedBack holds steps (option_map plain c)) b p o
    after_part c (Yes a) b p o m = (m.0, folded-bare c a (from b p) m.0 m.1.by_value, m.2)
    after_part c No b p o m = m
    after_part c (Halt s) b p o m = m
    after_part c (Clash e) b p o m = m

    -- what is folded back by a folder that takes no notice of the run is folded back
    pub blind-back : (part : Meaning Tok Cx St Er A) (b : Beginning Tok Cx St) (o : Outcome A Er St) → FoldsBackShown gives begins held folds part b o → FoldsBack gives begins holds ⊥ part steps b o
    blind-back part b o m =
        record {
          first = carried plain m.first;
          meant = collects-carried b m.first m.meant;
          follows = follows-part plain (λ c. Chained part (FoldedBackShown held folds c)) (λ c. Chained part (FoldedBack holds steps c)) b
              (λ c d q n. record { first = n.first; meant = n.meant; follows = after_part c n.first.verdict d n.first q n.follows }) m.first.verdict m.first o m.follows;
        }
