-- What is left of items with the places before their steps.
use Rattle.std.proofs.Common.{◌≡◌, ◌≤◌, ℕ, zero, suc, Bool, true, false, Option, Some, None, option_map, List, [], ◌∷◌, ◌++◌, refl, sym, ap, subst, ◌∙◌, Result, Ok, Err, arith}
use Rattle.std.specs.List.{All}
use Rattle.std.proofs.lemmas.List.{append-nil, map-append}
use Rattle.std.proofs.lemmas.List.Elements.{All-same, All-push, All-pop, All-weaker}
use Rattle.chumsky_input.specs.declared.input.Input as input_trait
use Rattle.chumsky_input.specs.declared.stop.Fault.{Fault}
use Rattle.chumsky_input.specs.declared.stop.Stop.{Stop}
use Rattle.chumsky_input.specs.declared.stop.Stop.TheVariants.{CountTooLarge}
use Rattle.chumsky_input.specs.Held.{Held}
use Rattle.chumsky_input.specs.Outcome.{Event, Meaning, Beginning, Outcome, Verdict, Yes, No, Halt, Clash}
use Rattle.chumsky_input.specs.Run.{Ran}
use Rattle.chumsky_parser.specs.Chained.{Chained, Asked, Given, Follows, retold, after}
use Rattle.chumsky_parser.specs.Failure.{Stops}
use Rattle.chumsky_parser.specs.Items.{Next, More, End, AfterStep, FromMade}
use Rattle.chumsky_parser.specs.Steps.{AllSteps, listed, unlisted}
use Rattle.chumsky_parser.proofs.ChainedLemmas.{failed, chained, chained-weaker, skipped, skips, ran-weaker, ran-given}
use Rattle.chumsky_items.specs.Consumers.{Skips, Passes}
use Rattle.chumsky_folds.specs.Placed.{PairedWith, Placed, places_of, StartsIn}

module _ {Tok Cx St Er S V : Type 0} {merged : Er → Er → Er} {safe : Type 0} {step : Meaning Tok Cx St Er (Next S V)} {wanted : Bool} {old new : Held Tok Cx St Er} where
  paired : {r : Result (Option (Next S (V × ℕ))) Fault}
      → Ran merged safe (Chained step (AfterStep (PairedWith old.place) (Given (Some End)))) wanted old new r
      → Ran merged safe (Placed step) wanted old new r
  paired {r} h = ran-weaker merged safe (Chained step (AfterStep (PairedWith old.place) (Given (Some End)))) (Placed step) wanted old new r (λ o m. record { run = m }) h

  module _ {x : Result (Option (Next S V)) Fault} (h : Ran merged safe step wanted old new x) where
    pub placed-failed : {f : Fault} → x ≡ Err f → Ran merged safe (Placed step) wanted old new (Err f)
    placed-failed e = paired (failed h e refl)

    pub placed-ended : x ≡ Ok (Some End) → Ran merged safe (Placed step) wanted old new (Ok (Some End))
    placed-ended e = paired (chained h e ran-given)

    pub placed-item : {v : V} {s : S} → x ≡ Ok (Some (More (Some v) s)) → Ran merged safe (Placed step) wanted old new (Ok (Some (More (Some (v, old.place)) s)))
    placed-item e = paired (chained h e ran-given)

module _ {I Cu Tok Sp V : Type 0} (source : input_trait.Ghosts I Cu Tok Sp) where
  -- one item more
  pub places-more : (xs : List (V × Cu)) (x : V × Cu) → places_of source (xs ++ x ∷ []) ≡ places_of source xs ++ (x.0, source.place x.1) ∷ []
  places-more xs x = map-append (λ (y : V × Cu). (y.0, source.place y.1)) xs (x ∷ [])

  -- of a collection that took one item more
  pub places-pushed : (xs ys : List (V × Cu)) (x : V × Cu) (ps : List (V × ℕ)) → ys ≡ xs ++ x ∷ [] → places_of source xs ≡ ps → places_of source ys ≡ ps ++ (x.0, source.place x.1) ∷ []
  places-pushed xs ys x ps e h = ap (places_of source) e ∙ places-more xs x ∙ ap (λ l. l ++ (x.0, source.place x.1) ∷ []) h

  module _ {Cx St Er : Type 0} (mid new : Held Tok Cx St Er) where
    -- the run has gone on
    pub starts-on : new.tokens ≡ mid.tokens → mid.place ≤ new.place → (xs : List (V × Cu)) → All (StartsIn source mid.tokens mid.place) xs → All (StartsIn source new.tokens new.place) xs
    starts-on e l xs h = All-weaker (StartsIn source mid.tokens mid.place) (StartsIn source new.tokens new.place) (λ x s. (s.0 ∙ sym e, omega (arith, s.1, l))) xs h

    -- and an item was put behind, that began where it stood
    pub starts-pushed : (xs ys : List (V × Cu)) (x : V × Cu) → ys ≡ xs ++ x ∷ []
        → source.cursor_tokens x.1 ≡ mid.tokens → source.place x.1 ≡ mid.place → new.tokens ≡ mid.tokens
        → mid.place ≤ new.place → All (StartsIn source mid.tokens mid.place) xs
        → All (StartsIn source new.tokens new.place) ys
    starts-pushed xs ys x d t p e l h =
        All-same (StartsIn source new.tokens new.place) ys (xs ++ x ∷ []) d (All-push (StartsIn source new.tokens new.place) xs x (starts-on e l xs h) (t ∙ sym e, omega (arith, p, l)))

    -- an item was taken from behind, and only the state has changed
    pub starts-popped : (xs ys : List (V × Cu)) (x : V × Cu) → xs ≡ ys ++ x ∷ []
        → new ≡ record mid { state = new.state } → All (StartsIn source mid.tokens mid.place) xs
        → All (StartsIn source new.tokens new.place) ys
    starts-popped xs ys x d n h =
        let place : new.place ≡ mid.place = ap (λ (z : Held Tok Cx St Er). z.place) n in
        starts-on (ap (λ (z : Held Tok Cx St Er). z.tokens) n) (omega (arith, place)) ys (All-pop (StartsIn source mid.tokens mid.place) xs ys (Some x) d h).0

module _ {Tok Cx St Er S V : Type 0} (step : Meaning Tok Cx St Er (Next S V)) (b : Beginning Tok Cx St) (p : Outcome (Next S V) Er St) (m : step b p) where
  pub placed_more : (x : Option V) (t : S) → p.verdict ≡ Yes (Some (More x t)) → Placed step b (retold (Yes (Some (More (option_map (λ y. (y, b.start)) x) t))) p)
  placed_more x t d =
      let given : Outcome (Next S (V × ℕ)) Er St = record { verdict = Yes (Some (More (option_map (λ y. (y, b.start)) x) t)); end = p.end; state = p.state; events = []; emitted = [] } in
      let whole : Outcome (Next S (V × ℕ)) Er St = retold (Yes (Some (More (option_map (λ y. (y, b.start)) x) t))) p in
      let same : whole ≡ after p given = cc (append-nil p.events, append-nil p.emitted) in
      record { run = record { first = p; meant = m; follows = subst (λ y. Follows y (AfterStep (PairedWith b.start) (Given (Some End))) b p whole) (sym d) (given, refl, same) } }

  pub placed_end : p.verdict ≡ Yes (Some End) → Placed step b (retold (Yes (Some End)) p)
  placed_end d =
      let given : Outcome (Next S (V × ℕ)) Er St = record { verdict = Yes (Some End); end = p.end; state = p.state; events = []; emitted = [] } in
      let whole : Outcome (Next S (V × ℕ)) Er St = retold (Yes (Some End)) p in
      let same : whole ≡ after p given = cc (append-nil p.events, append-nil p.emitted) in
      record { run = record { first = p; meant = m; follows = subst (λ y. Follows y (AfterStep (PairedWith b.start) (Given (Some End))) b p whole) (sym d) (given, refl, same) } }

  pub placed_no : p.verdict ≡ No → Placed step b (retold No p)
  placed_no d = record { run = record { first = p; meant = m; follows = subst (λ y. Follows y (AfterStep (PairedWith b.start) (Given (Some End))) b p (retold No p)) (sym d) refl } }

  pub placed_halt : (s : Stop) → p.verdict ≡ Halt s → Placed step b (retold (Halt s) p)
  placed_halt s d = record { run = record { first = p; meant = m; follows = subst (λ y. Follows y (AfterStep (PairedWith b.start) (Given (Some End))) b p (retold (Halt s) p)) (sym d) refl } }

  pub placed_clash : (e : Event Er) → p.verdict ≡ Clash e → Placed step b (retold (Clash e) p)
  placed_clash e d = record { run = record { first = p; meant = m; follows = subst (λ y. Follows y (AfterStep (PairedWith b.start) (Given (Some End))) b p (retold (Clash e) p)) (sym d) refl } }

  module _ {W : Type 0} (on : S → Meaning Tok Cx St Er W) (ended : Meaning Tok Cx St Er W) (o : Outcome W Er St) where
    placed_before : (v : Verdict (Next S V) Er) → p.verdict ≡ v → Follows v (AfterStep (λ _ t. on t) ended) b p o → Chained (Placed step) (AfterStep (λ _ t. on t) ended) b o
    placed_before (Yes (Some (More x t))) d f = record { first = retold (Yes (Some (More (option_map (λ y. (y, b.start)) x) t))) p; meant = placed_more x t d; follows = f }
    placed_before (Yes (Some End)) d f = record { first = retold (Yes (Some End)) p; meant = placed_end d; follows = f }
    placed_before (Yes None) d f = absurd f.1
    placed_before No d f = record { first = retold No p; meant = placed_no d; follows = f }
    placed_before (Halt s) d f = record { first = retold (Halt s) p; meant = placed_halt s d; follows = f }
    placed_before (Clash e) d f = record { first = retold (Clash e) p; meant = placed_clash e d; follows = f }

module _ {Tok Cx St Er S V W : Type 0} (gives : S → Meaning Tok Cx St Er (Next S V)) where
  placed_step : (on : S → Meaning Tok Cx St Er W) (ended : Meaning Tok Cx St Er W) (s : S) (b : Beginning Tok Cx St) (o : Outcome W Er St)
      → Chained (gives s) (AfterStep (λ _ t. on t) ended) b o
      → Chained (Placed (gives s)) (AfterStep (λ _ t. on t) ended) b o
  placed_step on ended s b o m = placed_before (gives s) b m.first m.meant on ended o m.first.verdict refl m.follows

  abbrev skips_all : ℕ → Option (Unit {0}) → S → Meaning Tok Cx St Er W
  skips_all = AllSteps gives Skips (λ _. Given None)

  abbrev skips_placed : ℕ → Option (Unit {0}) → S → Meaning Tok Cx St Er W
  skips_placed = AllSteps (λ s. Placed (gives s)) Skips (λ _. Given None)

  after_placed : (room : ℕ)
      →
      ((a : Option (Unit {0})) (t : S) (b : Beginning Tok Cx St) (o : Outcome W Er St) → skips_all room a t b o
      → skips_placed room a t b o)
      → (x : Option (Next S (V × ℕ))) (c : Beginning Tok Cx St) (q : Outcome W Er St)
      → AfterStep (λ _ t. Chained (Given None) (λ z. skips_all room z t)) (Given None) x c q → AfterStep (λ _ t. Chained (Given None) (λ z. skips_placed room z t)) (Given None) x c q
  after_placed room ih (Some (More v t)) c q m = skips (λ z. skips_placed room z t) c q (Given None) refl (ih None t c q (skipped (λ z. skips_all room z t) c q m))
  after_placed room ih (Some End) c q m = m
  after_placed room ih None c q m = m

  all_placed : (room : ℕ) (a : Option (Unit {0})) (s : S) (b : Beginning Tok Cx St) (o : Outcome W Er St) → skips_all room a s b o → skips_placed room a s b o
  all_placed zero a s b o m = placed_step (λ _. Stops CountTooLarge) (Given None) s b o m
  all_placed (suc room) a s b o m =
      chained-weaker _ _ b (λ x c q e. after_placed room (all_placed room) x c q) (Placed (gives s))
      (Placed (gives s)) (λ q z. z) o
      (placed_step (λ t. Chained (Given None) (λ z. skips_all room z t)) (Given None) s b o m)

  made_placed : (room : ℕ) (a : Option (Unit {0})) (s : Option S) (b : Beginning Tok Cx St) (o : Outcome W Er St)
      → FromMade gives Skips (λ _. Given None) room a s b o
      → FromMade (λ t. Placed (gives t)) Skips (λ _. Given None) room a s b o
  made_placed room a (Some s) b o m = listed (λ t. Placed (gives t)) Skips (λ _. Given None) room a s b o (all_placed room a s b o (unlisted gives Skips (λ _. Given None) room a s b o m))
  made_placed room a None b o m = m

  -- where nothing is made of the items, their places are no matter
  pub passes-placed : {merged : Er → Er → Er} {safe : Type 0} {old new : Held Tok Cx St Er}
      (begins : Meaning Tok Cx St Er S) (r : Result (Option W) Fault)
      → Ran merged safe (Passes gives begins W) false old new r
      → Ran merged safe (Passes (λ s. Placed (gives s)) begins W) false old new r
  passes-placed {merged} {safe} {old} {new} begins r h =
      ran-weaker merged safe (Passes gives begins W) (Passes (λ s. Placed (gives s)) begins W) false old new r
      (λ o m. record { room = m.room; full = m.full; run = chained-weaker _ _ _ (λ s c q e. made_placed m.room None s c q) (Asked true begins) (Asked true begins) (λ q z. z) o m.run }) h
