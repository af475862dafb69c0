-- Why a folder that never refuses folds as one that can't.
use Rattle.std.proofs.Common.{◌≡◌, ◌∙◌, ℕ, zero, suc, true, Option, Some, None, option_map, [], refl, sym, ap, subst, Result, Ok}
use Rattle.std.proofs.lemmas.List.{append-nil}
use Rattle.std.specs.Prelude.{⊤}
use Rattle.chumsky_input.specs.declared.stop.Stop.TheVariants.{CountTooLarge}
use Rattle.chumsky_input.specs.Outcome.{Meaning, Beginning, Outcome, Verdict, Yes, No, Halt, Clash}
use Rattle.chumsky_parser.specs.Chained.{Chained, Follows, Given, Asked, both, from, after, retold}
use Rattle.chumsky_parser.specs.Failure.{Stops}
use Rattle.chumsky_parser.specs.Items.{Next, More, End, AfterStep, FromMade}
use Rattle.chumsky_parser.specs.Steps.{AllSteps, listed, unlisted}
use Rattle.chumsky_parser.specs.Showing.{GivesShown, GivenSince, shown_since}
use Rattle.chumsky_parser.proofs.ChainedLemmas.{chained-weaker}
use Rattle.chumsky_parser.specs.Progress.{IsYes}
use Rattle.chumsky_folds.specs.FoldingShown.{TakesAll, TakesShown, FoldsShown}
use Rattle.chumsky_folds.specs.FoldingTried.{TakenOrRefused, TriesSince, TakesTried, where_wanted, FoldsTrying, FoldsTried}
use Rattle.chumsky_folds.specs.Placed.{PairedWith, Placed}
use Rattle.chumsky_folds.specs.Compared.{NeverRefuses, FoldsAlike}
use Rattle.chumsky_parser.proofs.YesLemmas.{both_yes, yes_both, same_yes, is_yes}
use Rattle.chumsky_folds.proofs.PlacedLemmas.{placed_more, placed_end}

module _ {Tok Cx St Er S V W : Type 0} (step : Meaning Tok Cx St Er (Next S V))
    (next : Option (Next S (V × ℕ)) → Meaning Tok Cx St Er W) (next' : Option (Next S V) → Meaning Tok Cx St Er W)
    (b : Beginning Tok Cx St)
    (more : (v : Option V) (t : S) (c : Beginning Tok Cx St) (q : Outcome W Er St)
    → next (Some (More (option_map (λ x. (x, b.start)) v) t)) c q → next' (Some (More v t)) c q)
    (ended : (c : Beginning Tok Cx St) (q : Outcome W Er St) → next (Some End) c q → next' (Some End) c q)
    (o : Outcome W Er St) where
  by_placed : (k : Outcome (Next S V) Er St) (v : Verdict (Next S V) Er) → k.verdict ≡ v → step b k
      → (p : Outcome (Next S (V × ℕ)) Er St) → Follows v (AfterStep (PairedWith b.start) (Given (Some End))) b k p
      → Follows p.verdict next b p o → Chained step next' b o
  by_placed k (Yes (Some (More v t))) e m p f g =
      let whole : Outcome (Next S (V × ℕ)) Er St = retold (Yes (Some (More (option_map (λ x. (x, b.start)) v) t))) k in
      let given : Outcome (Next S (V × ℕ)) Er St = record { verdict = Yes (Some (More (option_map (λ x. (x, b.start)) v) t)); end = k.end; state = k.state; events = []; emitted = [] } in
      let nothing : after k given ≡ whole = cc (append-nil k.events, append-nil k.emitted) in
      let h : Follows (Yes (Some (More (option_map (λ x. (x, b.start)) v) t))) next b whole o =
      subst (λ (z : Outcome (Next S (V × ℕ)) Er St). Follows z.verdict next b z o)
      (f.2 ∙ ap (after k) f.1 ∙ nothing) g in
      record { first = k; meant = m; follows = subst (λ z. Follows z next' b k o) (sym e) (h.0, more v t (from b k) h.0 h.1, h.2) }
  by_placed k (Yes (Some End)) e m p f g =
      let whole : Outcome (Next S (V × ℕ)) Er St = retold (Yes (Some End)) k in
      let given : Outcome (Next S (V × ℕ)) Er St = record { verdict = Yes (Some End); end = k.end; state = k.state; events = []; emitted = [] } in
      let nothing : after k given ≡ whole = cc (append-nil k.events, append-nil k.emitted) in
      let h : Follows (Yes (Some End)) next b whole o = subst (λ (z : Outcome (Next S (V × ℕ)) Er St). Follows z.verdict next b z o) (f.2 ∙ ap (after k) f.1 ∙ nothing) g in
      record { first = k; meant = m; follows = subst (λ z. Follows z next' b k o) (sym e) (h.0, ended (from b k) h.0 h.1, h.2) }
  by_placed k (Yes None) e m p f g = absurd f.1
  by_placed k No e m p f g =
      let h : o ≡ retold No k = subst (λ (z : Outcome (Next S (V × ℕ)) Er St). Follows z.verdict next b z o) f g in
      record { first = k; meant = m; follows = subst (λ z. Follows z next' b k o) (sym e) h }
  by_placed k (Halt s) e m p f g =
      let h : o ≡ retold (Halt s) k = subst (λ (z : Outcome (Next S (V × ℕ)) Er St). Follows z.verdict next b z o) f g in
      record { first = k; meant = m; follows = subst (λ z. Follows z next' b k o) (sym e) h }
  by_placed k (Clash x) e m p f g =
      let h : o ≡ retold (Clash x) k = subst (λ (z : Outcome (Next S (V × ℕ)) Er St). Follows z.verdict next b z o) f g in
      record { first = k; meant = m; follows = subst (λ z. Follows z next' b k o) (sym e) h }

  -- where what follows takes no notice of the places, they may be left out
  unplaced : Chained (Placed step) next b o → Chained step next' b o
  unplaced m = let k = m.meant.run in by_placed k.first k.first.verdict refl k.meant m.first k.follows m.follows

module _ {Tok Cx St E Er S V A : Type 0} (gives : S → Meaning Tok Cx St Er (Next S V)) (seen : E → Er)
    (tries : GivesShown Tok Cx St (A × V) (Result A E)) (folds : GivesShown Tok Cx St (A × V) A)
    (never : NeverRefuses tries folds) (place : ℕ) where
  abbrev trying : ℕ → Option A → S → Meaning Tok Cx St Er A
  trying = AllSteps (λ s. Placed (gives s)) (TakesTried seen tries place) Given

  abbrev showing : ℕ → Option A → S → Meaning Tok Cx St Er A
  showing = AllSteps gives (TakesShown folds place) Given

  -- an item that was taken, in the one way and in the other
  untried : (p : ℕ) (a : Option A) (v : Option V) (b : Beginning Tok Cx St) (r : Outcome A Er St)
      → TriesSince seen tries place (both a (option_map (λ x. (x, p)) v)) b r → GivenSince folds place (both a v) b r
  untried p (Some a) (Some v) b r m =
      let k = never.accepts (a, v) (shown_since place b) m.0 m.1 m.2 in
      (k.0, m.1, k.2, subst (λ y. TakenOrRefused seen y p m.1 b r) k.1 m.3)
  untried p (Some a) None b r m = absurd m
  untried p None v b r m = absurd m

  tried : (p : ℕ) (a : A) (v : V) (b : Beginning Tok Cx St) (r : Outcome A Er St) → GivenSince folds place (Some (a, v)) b r → TriesSince seen tries place (Some (a, (v, p))) b r
  tried p a v b r m = (Ok m.0, m.1, never.answers (a, v) (shown_since place b) m.0 m.1 m.2, m.3)

  shown-steps : (room : ℕ) (a : Option A) (s : S) (b : Beginning Tok Cx St) (o : Outcome A Er St) → trying room a s b o → showing room a s b o
  shown-steps zero a s b o m = unplaced (gives s) (AfterStep (λ _ _. Stops CountTooLarge) (Given a)) (AfterStep (λ _ _. Stops CountTooLarge) (Given a)) b (λ v t c q k. k) (λ c q k. k) o m
  shown-steps (suc room) a s b o m =
      unplaced (gives s)
      (AfterStep (λ v t. Chained (TakesTried seen tries place a v) (λ c. trying room c t)) (Given a))
      (AfterStep (λ v t. Chained (TakesShown folds place a v) (λ c. showing room c t)) (Given a)) b
      (λ v t c q k.
      chained-weaker (λ y. trying room y t) (λ y. showing room y t) c (λ y d r e n. shown-steps room y t d r n)
      (TakesTried seen tries place a (option_map (λ x. (x, b.start)) v)) (TakesShown folds place a v)
      (λ r n. record { by_value = untried b.start a v c r n.by_value }) q k)
      (λ c q k. k) o m

  shown-made : (room : ℕ) (a : Option A) (s : Option S) (b : Beginning Tok Cx St) (o : Outcome A Er St)
      → FromMade (λ s. Placed (gives s)) (TakesTried seen tries place) Given room a s b o
      → FromMade gives (TakesShown folds place) Given room a s b o
  shown-made room a (Some s) b o m =
      listed gives (TakesShown folds place) Given room a s b o
      (shown-steps room a s b o (unlisted (λ t. Placed (gives t)) (TakesTried seen tries place) Given room a s b o m))
  shown-made room a None b o m = m

  -- a run into no value has none at its end
  stops-no : (b : Beginning Tok Cx St) (o : Outcome A Er St) (z : A) → Stops CountTooLarge b o → o.verdict ≡ Yes (Some z) → ⊥
  stops-no b o z m e = subst IsYes (ap (λ (x : Outcome A Er St). x.verdict) m) (is_yes e)

  given-no : (b : Beginning Tok Cx St) (o : Outcome A Er St) (z : A) → Given None b o → o.verdict ≡ Yes (Some z) → ⊥
  given-no b o z m e = let f = same_yes (ap (λ (x : Outcome A Er St). x.verdict) m) e in let no : ⊥ = cc in no

  full-no : (x : Option (Next S V)) (b : Beginning Tok Cx St) (o : Outcome A Er St) (z : A) → AfterStep (λ _ _. Stops CountTooLarge) (Given None) x b o → o.verdict ≡ Yes (Some z) → ⊥
  full-no (Some (More v t)) b o z m e = stops-no b o z m e
  full-no (Some End) b o z m e = given-no b o z m e
  full-no None b o z m e = m

  -- an item of which no value is made, and the rest
  rest-no : (room : ℕ)
      → ((s : S) (b : Beginning Tok Cx St) (o : Outcome A Er St) (z : A) → showing room None s b o → o.verdict ≡ Yes (Some z) → ⊥)
      → (t : S) (a : Option A) (v : Option V) → both a v ≡ None
      → (b : Beginning Tok Cx St) (o : Outcome A Er St) (z : A)
      → Chained (TakesShown folds place a v) (λ c. showing room c t) b o → o.verdict ≡ Yes (Some z) → ⊥
  rest-no room ih t a v n b o z m e =
      let y = both_yes (TakesShown folds place a v) (λ c. showing room c t) b o (Some z) m e in
      let given : Given None b y.first = subst (λ x. GivenSince folds place x b y.first) n y.meant.by_value in
      let none : y.value ≡ None = same_yes y.said (ap (λ (x : Outcome A Er St). x.verdict) given) in
      ih t (from b y.first) y.second z (subst (λ c. showing room c t (from b y.first) y.second) none y.follows) y.answers

  more-no : (room : ℕ)
      → ((s : S) (b : Beginning Tok Cx St) (o : Outcome A Er St) (z : A) → showing room None s b o → o.verdict ≡ Yes (Some z) → ⊥)
      → (x : Option (Next S V)) (b : Beginning Tok Cx St) (o : Outcome A Er St) (z : A)
      → AfterStep (λ v t. Chained (TakesShown folds place None v) (λ c. showing room c t)) (Given None) x b o → o.verdict ≡ Yes (Some z) → ⊥
  more-no room ih (Some (More v t)) b o z m e = rest-no room ih t None v refl b o z m e
  more-no room ih (Some End) b o z m e = given-no b o z m e
  more-no room ih None b o z m e = m

  steps-no : (room : ℕ) (s : S) (b : Beginning Tok Cx St) (o : Outcome A Er St) (z : A) → showing room None s b o → o.verdict ≡ Yes (Some z) → ⊥
  steps-no zero s b o z m e =
      let y = both_yes (gives s) (AfterStep (λ _ _. Stops CountTooLarge) (Given None)) b o (Some z) m e in
      full-no y.value (from b y.first) y.second z y.follows y.answers
  steps-no (suc room) s b o z m e =
      let y = both_yes (gives s) (AfterStep (λ v t. Chained (TakesShown folds place None v) (λ c. showing room c t)) (Given None)) b o (Some z) m e in
      more-no room (steps-no room) y.value (from b y.first) y.second z y.follows y.answers

  module _ (s : S) (b : Beginning Tok Cx St) (p : Outcome (Next S V) Er St) (m : gives s b p) (q : Outcome A Er St) (a : Option A) where
    -- a step that gave this, with its place, and what follows
    step_on : (next : Option (Next S (V × ℕ)) → Meaning Tok Cx St Er A) (v : Option V) (t : S)
        → p.verdict ≡ Yes (Some (More v t)) → next (Some (More (option_map (λ x. (x, b.start)) v) t)) (from b p) q
        → Chained (Placed (gives s)) next b (after p q)
    step_on next v t e n =
        yes_both (Placed (gives s)) next b (retold (Yes (Some (More (option_map (λ x. (x, b.start)) v) t))) p)
        (Some (More (option_map (λ x. (x, b.start)) v) t)) q (placed_more (gives s) b p m v t e) refl n

    step_end : (next : Option (Next S (V × ℕ)) → Meaning Tok Cx St Er A) → p.verdict ≡ Yes (Some End) → next (Some End) (from b p) q → Chained (Placed (gives s)) next b (after p q)
    step_end next e n = yes_both (Placed (gives s)) next b (retold (Yes (Some End)) p) (Some End) q (placed_end (gives s) b p m e) refl n

    last-tried : (z : A) → q.verdict ≡ Yes (Some z) → (x : Option (Next S V)) → p.verdict ≡ Yes x → AfterStep (λ _ _. Stops CountTooLarge) (Given a) x (from b p) q → trying zero a s b (after p q)
    last-tried z e (Some (More v t)) d n = absurd (stops-no (from b p) q z n e)
    last-tried z e (Some End) d n = step_end (AfterStep (λ _ _. Stops CountTooLarge) (Given a)) d n
    last-tried z e None d n = absurd n

    module _ (room : ℕ) (rest : (c : Option A) (t : S) (d : Beginning Tok Cx St) (r : Outcome A Er St) (z : A) → showing room c t d r → r.verdict ≡ Yes (Some z) → trying room c t d r) where
      item-tried : (t : S) (c : Option A) (v : Option V) (z : A) → q.verdict ≡ Yes (Some z)
          → Chained (TakesShown folds place c v) (λ y. showing room y t) (from b p) q
          → Chained (TakesTried seen tries place c (option_map (λ x. (x, b.start)) v)) (λ y. trying room y t) (from b p) q
      item-tried t (Some c) (Some v) z e n =
          let y = both_yes (TakesShown folds place (Some c) (Some v)) (λ y. showing room y t) (from b p) q (Some z) n e in
          subst (Chained (TakesTried seen tries place (Some c) (Some (v, b.start))) (λ y. trying room y t) (from b p)) (sym y.whole)
          (yes_both (TakesTried seen tries place (Some c) (Some (v, b.start))) (λ y. trying room y t) (from b p) y.first y.value y.second (record { by_value = tried b.start c v (from b p) y.first y.meant.by_value }) y.said
          (rest y.value t (from (from b p) y.first) y.second z y.follows y.answers))
      item-tried t (Some c) None z e n = absurd (rest-no room (steps-no room) t (Some c) None refl (from b p) q z n e)
      item-tried t None v z e n = absurd (rest-no room (steps-no room) t None v refl (from b p) q z n e)

      more-tried : (z : A) → q.verdict ≡ Yes (Some z) → (x : Option (Next S V)) → p.verdict ≡ Yes x
          → AfterStep (λ v t. Chained (TakesShown folds place a v) (λ c. showing room c t)) (Given a) x (from b p) q
          → trying (suc room) a s b (after p q)
      more-tried z e (Some (More v t)) d n = step_on (AfterStep (λ v t. Chained (TakesTried seen tries place a v) (λ c. trying room c t)) (Given a)) v t d (item-tried t a v z e n)
      more-tried z e (Some End) d n = step_end (AfterStep (λ v t. Chained (TakesTried seen tries place a v) (λ c. trying room c t)) (Given a)) d n
      more-tried z e None d n = absurd n

  tried-steps : (room : ℕ) (a : Option A) (s : S) (b : Beginning Tok Cx St) (o : Outcome A Er St) (z : A) → showing room a s b o → o.verdict ≡ Yes (Some z) → trying room a s b o
  tried-steps zero a s b o z m e =
      let y = both_yes (gives s) (AfterStep (λ _ _. Stops CountTooLarge) (Given a)) b o (Some z) m e in
      subst (trying zero a s b) (sym y.whole) (last-tried s b y.first y.meant y.second a z y.answers y.value y.said y.follows)
  tried-steps (suc room) a s b o z m e =
      let y = both_yes (gives s) (AfterStep (λ v t. Chained (TakesShown folds place a v) (λ c. showing room c t)) (Given a)) b o (Some z) m e in
      subst (trying (suc room) a s b) (sym y.whole) (more-tried s b y.first y.meant y.second a room (λ c t d r w n k. tried-steps room c t d r w n k) z y.answers y.value y.said y.follows)

  tried-made : (room : ℕ) (a : Option A) (s : Option S) (b : Beginning Tok Cx St) (o : Outcome A Er St) (z : A)
      → FromMade gives (TakesShown folds place) Given room a s b o → o.verdict ≡ Yes (Some z)
      → FromMade (λ s. Placed (gives s)) (TakesTried seen tries place) Given room a s b o
  tried-made room a (Some s) b o z m e =
      listed (λ t. Placed (gives t)) (TakesTried seen tries place) Given room a s b o
      (tried-steps room a s b o z (unlisted gives (TakesShown folds place) Given room a s b o m) e)
  tried-made room a None b o z m e = m

  module _ (begins : Meaning Tok Cx St Er S) (a : Option A) (b : Beginning Tok Cx St) (o : Outcome A Er St) where
    shown-all : TakesAll (λ s. Placed (gives s)) begins (TakesTried seen tries place) a b o → TakesAll gives begins (TakesShown folds place) a b o
    shown-all m = record { room = m.room; full = m.full; run = chained-weaker _ _ b (λ x c q e n. shown-made m.room a x c q n) (Asked true begins) (Asked true begins) (λ q n. n) o m.run }

    tried-all : (z : A) → o.verdict ≡ Yes (Some z) → TakesAll gives begins (TakesShown folds place) a b o → TakesAll (λ s. Placed (gives s)) begins (TakesTried seen tries place) a b o
    tried-all z e m =
        let y = both_yes (Asked true begins) (FromMade gives (TakesShown folds place) Given m.room a) b o (Some z) m.run e in
        let made = tried-made m.room a y.value (from b y.first) y.second z y.follows y.answers in
        record {
          room = m.room;
          full = m.full;
          run =
              subst
              (Chained (Asked true begins) (FromMade (λ s. Placed (gives s)) (TakesTried seen tries place) Given m.room a) b)
              (sym y.whole)
              (yes_both (Asked true begins)
              (FromMade (λ s. Placed (gives s)) (TakesTried seen tries place) Given m.room a) b y.first
              y.value y.second y.meant y.said made);
        }

module _ {Tok Cx St Er A : Type 0} (b : Beginning Tok Cx St) (w : b.wanted ≡ true) (o p : Outcome A Er St) where
  abbrev On : Option A → Meaning Tok Cx St Er A
  On a = Given (where_wanted b.wanted a)

  wanted_all : record b { wanted = true } ≡ b
  wanted_all = ap (λ z. record b { wanted = z }) (sym w)

  abbrev given_last : Option A → Outcome A Er St
  given_last v = record { verdict = Yes v; end = p.end; state = p.state; events = []; emitted = [] }

  nothing_more : (v : Option A) → p.verdict ≡ Yes v → after p (given_last v) ≡ p
  nothing_more v e =
      let whole : after p (given_last v) ≡ retold (Yes v) p = cc (append-nil p.events, append-nil p.emitted) in
      whole ∙ ap (λ u. retold u p) (sym e)

  -- what is run for its value stands where one is wanted
  stands : (v : Verdict A Er) → p.verdict ≡ v → Follows v On b p o → o ≡ p
  stands (Yes v) e f =
      let given : f.0 ≡ given_last v = subst (λ u. Given (where_wanted u v) (from b p) f.0) w f.1 in
      f.2 ∙ ap (after p) given ∙ nothing_more v e
  stands No e f = f ∙ ap (λ v. retold v p) (sym e)
  stands (Halt s) e f = f ∙ ap (λ v. retold v p) (sym e)
  stands (Clash x) e f = f ∙ ap (λ v. retold v p) (sym e)

  stood : (v : Option A) → p.verdict ≡ Yes v → Follows (Yes v) On b p p
  stood v e = (given_last v, subst (λ u. Given (where_wanted u v) (from b p) (given_last v)) (sym w) refl, sym (nothing_more v e))

module _ {Tok Cx St E Er S V A : Type 0} (gives : S → Meaning Tok Cx St Er (Next S V))
    (begins : Meaning Tok Cx St Er S) (seen : E → Er) (tries : GivesShown Tok Cx St (A × V) (Result A E))
    (folds : GivesShown Tok Cx St (A × V) A) (never : NeverRefuses tries folds) (part : Meaning Tok Cx St Er A) where
  narrower : (b : Beginning Tok Cx St) (o : Outcome A Er St) → b.wanted ≡ true → FoldsTried gives begins seen tries part b o → FoldsShown gives begins folds part b o
  narrower b o w m =
      let p = m.run.first in
      let run : FoldsTrying gives begins seen tries part b p = subst (λ c. FoldsTrying gives begins seen tries part c p) (wanted_all b w o p) m.run.meant.run in
      let shown : FoldsShown gives begins folds part b p =
      record {
        run = chained-weaker _ _ b
            (λ a c q e n. shown-all gives seen tries folds never b.start begins a c q n) part part (λ q n. n) p
            run.run;
      }
      in
      subst (FoldsShown gives begins folds part b) (sym (stands b w o p p.verdict refl m.run.follows)) shown

  wider : (b : Beginning Tok Cx St) (o : Outcome A Er St) (z : A) → b.wanted ≡ true → o.verdict ≡ Yes (Some z) → FoldsShown gives begins folds part b o → FoldsTried gives begins seen tries part b o
  wider b o z w e m =
      let y = both_yes part (TakesAll gives begins (TakesShown folds b.start)) b o (Some z) m.run e in
      let all = tried-all gives seen tries folds never b.start begins y.value (from b y.first) y.second z y.answers y.follows in
      let run : FoldsTrying gives begins seen tries part b o =
      record {
        run = subst
            (Chained part (TakesAll (λ s. Placed (gives s)) begins (TakesTried seen tries b.start)) b) (sym y.whole)
            (yes_both part (TakesAll (λ s. Placed (gives s)) begins (TakesTried seen tries b.start)) b y.first
            y.value y.second y.meant y.said all);
      }
      in
      let asked : FoldsTrying gives begins seen tries part (record b { wanted = true }) o = subst (λ c. FoldsTrying gives begins seen tries part c o) (sym (wanted_all b w o o)) run in
      record { run = record { first = o; meant = record { run = asked }; follows = subst (λ v. Follows v (On b w o o) b o o) (sym e) (stood b w o o (Some z) e) } }

  pub accepting-alike : FoldsAlike (λ _. ⊤) (FoldsTried gives begins seen tries part) (FoldsShown gives begins folds part)
  accepting-alike = record { narrower = λ b o w h m. narrower b o w m; wider = λ b o z k w e m. wider b o z w e m }
