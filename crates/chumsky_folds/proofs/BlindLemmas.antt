-- Why a folder that takes no notice of the run folds as any other.
use Rattle.std.proofs.Common.{◌≡◌, ◌≤◌, ◌∙◌, ℕ, zero, suc, true, Option, Some, None, List, [], ◌∷◌, ◌++◌, refl, sym, ap, subst, inr, arith, append_assoc}
use Rattle.std.specs.Prelude.{⊤}
use Rattle.std.proofs.lemmas.List.{append-nil}
use Rattle.chumsky_input.specs.Layout.{Layout}
use Rattle.chumsky_input.specs.declared.stop.Stop.TheVariants.{CountTooLarge}
use Rattle.chumsky_input.specs.Outcome.{Meaning, Beginning, Outcome, Verdict, Yes, No, Halt, Clash, IsAnswer, EndsAfterStart}
use Rattle.chumsky_parser.specs.Chained.{Chained, Follows, Given, Asked, both, from}
use Rattle.chumsky_parser.specs.Failure.{Stops, wanting}
use Rattle.chumsky_parser.specs.Laws.{asked-ends}
use Rattle.chumsky_parser.specs.Items.{Next, More, End, AfterStep, FromMade, ItemsEnd}
use Rattle.chumsky_parser.specs.Steps.{AllSteps, listed, unlisted}
use Rattle.chumsky_parser.specs.Showing.{GivesShown, GivenSince, shown_since}
use Rattle.chumsky_items.specs.Consumers.{Appends, Collected}
use Rattle.chumsky_parser.specs.Progress.{IsYes}
use Rattle.chumsky_folds.specs.Folding.{FoldsLeft, FoldsFrom, FoldsItems, FoldsFromPart}
use Rattle.chumsky_folds.specs.FoldingLaws.{folds_left-more, appends-given}
use Rattle.chumsky_folds.specs.FoldingShown.{TakesAll, TakesShown, FoldsShown}
use Rattle.chumsky_folds.specs.Compared.{IsBlind, EndsWhere, StandsFrom, FoldsAlike}
use Rattle.chumsky_parser.proofs.YesLemmas.{both_yes, yes_both, is_yes}
use Rattle.chumsky_folds.proofs.ComparedLemmas.{collected-value}

abbrev here : {Tok Cx St Er V : Type 0} → Beginning Tok Cx St → Option V → Outcome V Er St
here b v = record { verdict = Yes v; end = b.start; state = b.state; events = []; emitted = [] }

module _ {Tok Cx St Er V W : Type 0} (next : Option V → Meaning Tok Cx St Er W) (b : Beginning Tok Cx St) (o : Outcome W Er St) (v : Option V) where
  -- what follows a value that was given
  pub after_given : Chained (Given v) next b o → next v b o
  after_given m =
      let f : Follows (Yes v) next b (here b v) o = subst (λ (p : Outcome V Er St). Follows p.verdict next b p o) m.meant m.follows in
      subst (next v b) (sym f.2) f.1

  pub before_given : (part : Meaning Tok Cx St Er V) → part b (here b v) → next v b o → Chained part next b o
  before_given part k m = record { first = here b v; meant = k; follows = (o, m, refl) }

module _ {Tok Cx St Er V W : Type 0} (P : Verdict W Er → Type 0) (next next' : Option V → Meaning Tok Cx St Er W)
    (b : Beginning Tok Cx St)
    (h : (x : Option V) (c : Beginning Tok Cx St) (q : Outcome W Er St) → c.wanted ≡ b.wanted → P q.verdict → next x c q → next' x c q)
  where
    follows-when : (v : Verdict V Er) (p : Outcome V Er St) (o : Outcome W Er St) → P o.verdict → Follows v next b p o → Follows v next' b p o
    follows-when (Yes v) p o t f = (f.0, h v (from b p) f.0 refl (subst P (ap (λ (x : Outcome W Er St). x.verdict) f.2) t) f.1, f.2)
    follows-when No p o t f = f
    follows-when (Halt s) p o t f = f
    follows-when (Clash e) p o t f = f

    -- under a verdict with P, more may follow a part
    chained-when : (part : Meaning Tok Cx St Er V) (o : Outcome W Er St) → P o.verdict → Chained part next b o → Chained part next' b o
    chained-when part o t m = record { first = m.first; meant = m.meant; follows = follows-when m.first.verdict m.first o t m.follows }

-- no yes without a value
abbrev has_value : {A Er : Type 0} → Verdict A Er → Type 0
has_value v = v ≡ Yes None → ⊥

module _ {Tok Cx St Er S V A : Type 0} (gives : S → Meaning Tok Cx St Er (Next S V))
    (folds : GivesShown Tok Cx St (A × V) A) (steps : A → V → A → Type 0) {stands : Layout Tok → ℕ → St → Type 0}
    (blind : IsBlind stands folds steps) (start : Option A) (place : ℕ) where
  abbrev plain : ℕ → Option (List V) → S → Meaning Tok Cx St Er A
  plain = AllSteps gives (Appends ⊤) (Collected (FoldsFrom steps start))

  abbrev seeing : ℕ → Option A → S → Meaning Tok Cx St Er A
  seeing = AllSteps gives (TakesShown folds place) Given

  -- what is in hand is the fold of the items so far
  abbrev Tallies : Option A → Option (List V) → Type 0
  Tallies (Some a) (Some xs) = FoldsFrom steps start xs a
  Tallies (Some a) None = ⊥
  Tallies None l = ⊤

  tally-more : (s : Option A) (xs : List V) (a z : A) (v : V) → FoldsFrom steps s xs a → steps a v z → FoldsFrom steps s (xs ++ v ∷ []) z
  tally-more (Some i) xs a z v f m = folds_left-more steps xs i a z v f m
  tally-more None xs a z v f m = absurd f

  record Taken (l : Option (List V)) (v : Option V) (b : Beginning Tok Cx St) (r : Outcome A Er St) : Type 0 where
    pub value : Option A
    pub list : Option (List V)
    pub given : Given value b r
    pub appends : Appends {Er = Er} ⊤ l v b (here b list)
    pub tallies : Tallies value list

  not_taken : (l : Option (List V)) (v : Option V) (b : Beginning Tok Cx St) (r : Outcome A Er St) → Given None b r → Taken l v b r
  not_taken (Some xs) (Some v) b r m = record { value = None; list = Some (xs ++ v ∷ []); given = m; appends = inr refl; tallies = tt }
  not_taken (Some xs) None b r m = record { value = None; list = None; given = m; appends = refl; tallies = tt }
  not_taken None v b r m = record { value = None; list = None; given = m; appends = refl; tallies = tt }

  taken : (a : Option A) (l : Option (List V)) (v : Option V) → Tallies a l → (b : Beginning Tok Cx St) (r : Outcome A Er St) → GivenSince folds place (both a v) b r → Taken l v b r
  taken (Some a) (Some xs) (Some v) f b r m =
      let k = blind.sees (a, v) (shown_since place b) m.0 m.1 m.2 in
      record {
        value = Some m.0;
        list = Some (xs ++ v ∷ []);
        given = m.3 ∙ ap (λ s. record { verdict = Yes (Some m.0); end = b.start; state = s; events = []; emitted = [] }) k.1;
        appends = inr refl;
        tallies = tally-more start xs a m.0 v f k.0;
      }
  taken (Some a) (Some xs) None f b r m = not_taken (Some xs) None b r m
  taken (Some a) None v f b r m = absurd f
  taken None l v f b r m = not_taken l v b r m

  plain-ended : (a : Option A) (l : Option (List V)) → Tallies a l → (b : Beginning Tok Cx St) (o : Outcome A Er St) → has_value o.verdict → Given a b o → Collected (FoldsFrom steps start) l b o
  plain-ended (Some a) (Some xs) f b o t m = record { value = Some a; is = f; given = m }
  plain-ended (Some a) None f b o t m = absurd f
  plain-ended None l f b o t m = absurd (t (ap (λ (x : Outcome A Er St). x.verdict) m))

  plain-full : (a : Option A) (l : Option (List V)) → Tallies a l
      → (x : Option (Next S V)) (b : Beginning Tok Cx St) (o : Outcome A Er St) → has_value o.verdict
      → AfterStep (λ _ _. Stops CountTooLarge) (Given a) x b o
      → AfterStep (λ _ _. Stops CountTooLarge) (Collected (FoldsFrom steps start) l) x b o
  plain-full a l f (Some (More v t)) b o h m = m
  plain-full a l f (Some End) b o h m = plain-ended a l f b o h m
  plain-full a l f None b o h m = m

  plain-more : (room : ℕ)
      →
      ((a : Option A) (l : Option (List V)) → Tallies a l
      → (s : S) (b : Beginning Tok Cx St) (o : Outcome A Er St) → has_value o.verdict → seeing room a s b o
      → plain room l s b o)
      → (a : Option A) (l : Option (List V)) → Tallies a l
      → (x : Option (Next S V)) (b : Beginning Tok Cx St) (o : Outcome A Er St) → has_value o.verdict
      → AfterStep (λ v t. Chained (TakesShown folds place a v) (λ c. seeing room c t)) (Given a) x b o
      → AfterStep (λ v t. Chained (Appends ⊤ l v) (λ k. plain room k t)) (Collected (FoldsFrom steps start) l) x b o
  plain-more room ih a l f (Some (More v t)) b o h m =
      let k = taken a l v f b m.first m.meant.by_value in
      let rest = after_given (λ c. seeing room c t) b o k.value (record { first = m.first; meant = k.given; follows = m.follows }) in
      before_given (λ z. plain room z t) b o k.list (Appends ⊤ l v) k.appends (ih k.value k.list k.tallies t b o h rest)
  plain-more room ih a l f (Some End) b o h m = plain-ended a l f b o h m
  plain-more room ih a l f None b o h m = m

  plain-steps : (room : ℕ) (a : Option A) (l : Option (List V)) → Tallies a l → (s : S) (b : Beginning Tok Cx St) (o : Outcome A Er St) → has_value o.verdict → seeing room a s b o → plain room l s b o
  plain-steps zero a l f s b o h m = chained-when has_value _ _ b (λ x c q e t. plain-full a l f x c q t) (gives s) o h m
  plain-steps (suc room) a l f s b o h m = chained-when has_value _ _ b (λ x c q e t. plain-more room (plain-steps room) a l f x c q t) (gives s) o h m

  plain-made : (room : ℕ) (a : Option A) (l : Option (List V)) → Tallies a l
      → (s : Option S) (b : Beginning Tok Cx St) (o : Outcome A Er St) → has_value o.verdict
      → FromMade gives (TakesShown folds place) Given room a s b o
      → FromMade gives (Appends ⊤) (Collected (FoldsFrom steps start)) room l s b o
  plain-made room a l f (Some s) b o h m =
      listed gives (Appends ⊤) (Collected (FoldsFrom steps start)) room l s b o
      (plain-steps room a l f s b o h (unlisted gives (TakesShown folds place) Given room a s b o m))
  plain-made room a l f None b o h m = m

  plain-all : (begins : Meaning Tok Cx St Er S) → Tallies start (Some [])
      → (b : Beginning Tok Cx St) (o : Outcome A Er St) → b.wanted ≡ true → has_value o.verdict
      → TakesAll gives begins (TakesShown folds place) start b o → FoldsItems gives begins steps start b o
  plain-all begins f b o w h m =
      let run = chained-when has_value _ _ b (λ x c q e t. plain-made m.room start (Some []) f x c q t) (Asked true begins) o h m.run in
      record { room = m.room; full = m.full; run = subst (λ x. Chained (Asked true begins) (FromMade gives (Appends ⊤) (Collected (FoldsFrom steps start)) m.room (wanting x [])) b o) (sym w) run }

  -- a yes, and its items from now on: each start from which they fold to its value leads to it
  record Later (xs : List V) (z : A) (whole : A → Meaning Tok Cx St Er A) (b : Beginning Tok Cx St) (o : Outcome A Er St) : Type 0 where
    pub rest : List V
    pub folded : FoldsFrom steps start (xs ++ rest) z
    pub on : (a : A) → FoldsLeft steps a rest z → whole a b o

  stops-no : (b : Beginning Tok Cx St) (o : Outcome A Er St) (z : A) → Stops CountTooLarge b o → o.verdict ≡ Yes (Some z) → ⊥
  stops-no b o z m e = subst IsYes (ap (λ (x : Outcome A Er St). x.verdict) m) (is_yes e)

  never-full : (x : Option (Next S V)) (b : Beginning Tok Cx St) (o : Outcome A Er St) (z : A)
      → AfterStep (λ _ _. Stops CountTooLarge) (Collected (FoldsFrom steps start) None) x b o
      → o.verdict ≡ Yes (Some z) → ⊥
  never-full (Some (More v t)) b o z m e = stops-no b o z m e
  never-full (Some End) b o z m e = (collected-value (FoldsFrom steps start) None b o z m e).0
  never-full None b o z m e = m

  never-more : (room : ℕ)
      → ((s : S) (b : Beginning Tok Cx St) (o : Outcome A Er St) (z : A) → plain room None s b o → o.verdict ≡ Yes (Some z) → ⊥)
      → (x : Option (Next S V)) (b : Beginning Tok Cx St) (o : Outcome A Er St) (z : A)
      → AfterStep (λ v t. Chained (Appends ⊤ None v) (λ k. plain room k t)) (Collected (FoldsFrom steps start) None) x b o → o.verdict ≡ Yes (Some z) → ⊥
  never-more room ih (Some (More v t)) b o z m e = ih t b o z (after_given (λ k. plain room k t) b o None m) e
  never-more room ih (Some End) b o z m e = (collected-value (FoldsFrom steps start) None b o z m e).0
  never-more room ih None b o z m e = m

  -- where an item had no value, there is none at the end
  never : (room : ℕ) (s : S) (b : Beginning Tok Cx St) (o : Outcome A Er St) (z : A) → plain room None s b o → o.verdict ≡ Yes (Some z) → ⊥
  never zero s b o z m e =
      let y = both_yes (gives s) (AfterStep (λ _ _. Stops CountTooLarge) (Collected (FoldsFrom steps start) None)) b o (Some z) m e in
      never-full y.value (from b y.first) y.second z y.follows y.answers
  never (suc room) s b o z m e =
      let y = both_yes (gives s) (AfterStep (λ v t. Chained (Appends ⊤ None v) (λ k. plain room k t)) (Collected (FoldsFrom steps start) None)) b o (Some z) m e in
      never-more room (never room) y.value (from b y.first) y.second z y.follows y.answers

  -- the run may stand where the folding began, in this state, and further on here
  record Stood (t : St) (b : Beginning Tok Cx St) : Type 0 where
    pub began : stands b.tokens place t
    pub here : stands b.tokens b.start b.state
    pub order : place ≤ b.start

  stood-on : (t : St) {P : Type 0} (part : Meaning Tok Cx St Er P) (b : Beginning Tok Cx St) (p : Outcome P Er St) (v : Option P)
      → EndsAfterStart part → EndsWhere stands part → Stood t b → part b p → p.verdict ≡ Yes v → Stood t (from b p)
  stood-on t part b p v e w h m y = record { began = h.began; here = w b p h.here m (is_yes y); order = omega (arith, h.order, e b p m (subst IsAnswer (sym y) tt)) }

  later-ended : (xs : List V) (b : Beginning Tok Cx St) (o : Outcome A Er St) (z : A)
      → Collected (FoldsFrom steps start) (Some xs) b o → o.verdict ≡ Yes (Some z)
      → Later xs z (λ a. Given (Some a)) b o
  later-ended xs b o z m e =
      let k = collected-value (FoldsFrom steps start) (Some xs) b o z m e in
      record { rest = []; folded = subst (λ l. FoldsFrom steps start l z) (sym (append-nil xs)) k.0; on = λ a f. subst (λ y. Given (Some y) b o) f k.1 }

  later-full : (xs : List V) (x : Option (Next S V)) (b : Beginning Tok Cx St) (o : Outcome A Er St) (z : A)
      → AfterStep (λ _ _. Stops CountTooLarge) (Collected (FoldsFrom steps start) (Some xs)) x b o
      → o.verdict ≡ Yes (Some z) → Later xs z (λ a. AfterStep (λ _ _. Stops CountTooLarge) (Given (Some a)) x) b o
  later-full xs (Some (More v t)) b o z m e = absurd (stops-no b o z m e)
  later-full xs (Some End) b o z m e = let l = later-ended xs b o z m e in record { rest = l.rest; folded = l.folded; on = l.on }
  later-full xs None b o z m e = absurd m

  later-more : (t : St) (room : ℕ)
      →
      ((xs : List V) (s : S) (b : Beginning Tok Cx St) (o : Outcome A Er St) (z : A) → Stood t b
      → plain room (Some xs) s b o → o.verdict ≡ Yes (Some z) → Later xs z (λ a. seeing room (Some a) s) b o)
      → (xs : List V) (x : Option (Next S V)) (b : Beginning Tok Cx St) (o : Outcome A Er St) (z : A)
      → Stood t b
      → AfterStep (λ v t. Chained (Appends ⊤ (Some xs) v) (λ k. plain room k t)) (Collected (FoldsFrom steps start) (Some xs)) x b o
      → o.verdict ≡ Yes (Some z)
      → Later xs z (λ a. AfterStep (λ v t. Chained (TakesShown folds place (Some a) v) (λ c. seeing room c t)) (Given (Some a)) x) b o
  later-more u room ih xs (Some (More (Some v) t)) b o z h m e =
      let given = appends-given (Some xs) (Some v) b m.first m.meant in
      let l = ih (xs ++ v ∷ []) t b o z h (after_given (λ k. plain room k t) b o (Some (xs ++ v ∷ [])) (record { first = m.first; meant = given; follows = m.follows })) e in
      record {
        rest = v ∷ l.rest;
        folded = subst (λ i. FoldsFrom steps start i z) (append_assoc xs (v ∷ []) l.rest) l.folded;
        on =
            λ a f. before_given (λ c. seeing room c t) b o (Some f.0) (TakesShown folds place (Some a) (Some v))
            (record { by_value = (f.0, b.state, blind.answers (a, v) (shown_since place b) u f.0 h.began h.here h.order f.1, refl) })
            (l.on f.0 f.2);
      }
  later-more u room ih xs (Some (More None t)) b o z h m e = absurd (never room t b o z (after_given (λ k. plain room k t) b o None m) e)
  later-more u room ih xs (Some End) b o z h m e = let l = later-ended xs b o z m e in record { rest = l.rest; folded = l.folded; on = l.on }
  later-more u room ih xs None b o z h m e = absurd m

  later-chain : {P : Type 0} (part : Meaning Tok Cx St Er P) (next : Option P → Meaning Tok Cx St Er A)
      (next' : A → Option P → Meaning Tok Cx St Er A) (xs : List V) (b : Beginning Tok Cx St) (o : Outcome A Er St)
      (z : A)
      →
      ((x : Option P) (p : Outcome P Er St) (q : Outcome A Er St) → part b p → p.verdict ≡ Yes x
      → next x (from b p) q → q.verdict ≡ Yes (Some z) → Later xs z (λ a. next' a x) (from b p) q)
      → Chained part next b o → o.verdict ≡ Yes (Some z) → Later xs z (λ a. Chained part (next' a)) b o
  later-chain part next next' xs b o z h m e =
      let y = both_yes part next b o (Some z) m e in
      let r = h y.value y.first y.second y.meant y.said y.follows y.answers in
      record { rest = r.rest; folded = r.folded; on = λ a f. subst (Chained part (next' a) b) (sym y.whole) (yes_both part (next' a) b y.first y.value y.second y.meant y.said (r.on a f)) }

  module _ (t : St) (ends : (s : S) → EndsAfterStart (gives s)) (stay : (s : S) → EndsWhere stands (gives s)) where
    later : (room : ℕ) (xs : List V) (s : S) (b : Beginning Tok Cx St) (o : Outcome A Er St) (z : A) → Stood t b
        → plain room (Some xs) s b o → o.verdict ≡ Yes (Some z) → Later xs z (λ a. seeing room (Some a) s) b o
    later zero xs s b o z h m e =
        let l =
        later-chain (gives s) (AfterStep (λ _ _. Stops CountTooLarge) (Collected (FoldsFrom steps start) (Some xs)))
        (λ a. AfterStep (λ _ _. Stops CountTooLarge) (Given (Some a))) xs b o z
        (λ x p q n y f k. later-full xs x (from b p) q z f k) m e in
        record { rest = l.rest; folded = l.folded; on = l.on }
    later (suc room) xs s b o z h m e =
        let l =
        later-chain (gives s) (AfterStep (λ v t. Chained (Appends ⊤ (Some xs) v) (λ k. plain room k t)) (Collected (FoldsFrom steps start) (Some xs)))
        (λ a. AfterStep (λ v t. Chained (TakesShown folds place (Some a) v) (λ c. seeing room c t)) (Given (Some a))) xs b o z
        (λ x p q n y f k. later-more t room (later room) xs x (from b p) q z (stood-on t (gives s) b p x (ends s) (stay s) h n y) f k) m e in
        record { rest = l.rest; folded = l.folded; on = l.on }

    later-made : (room : ℕ) (x : Option S) (b : Beginning Tok Cx St) (o : Outcome A Er St) (z : A) → Stood t b
        → FromMade gives (Appends ⊤) (Collected (FoldsFrom steps start)) room (Some []) x b o
        → o.verdict ≡ Yes (Some z)
        → Later [] z (λ a. FromMade gives (TakesShown folds place) Given room (Some a) x) b o
    later-made room (Some s) b o z h m e =
        let l = later room [] s b o z h (unlisted gives (Appends ⊤) (Collected (FoldsFrom steps start)) room (Some []) s b o m) e in
        record { rest = l.rest; folded = l.folded; on = λ a f. listed gives (TakesShown folds place) Given room (Some a) s b o (l.on a f) }
    later-made room None b o z h m e = absurd m

    later-all : (begins : Meaning Tok Cx St Er S) → EndsAfterStart begins → EndsWhere stands begins
        → (b : Beginning Tok Cx St) (o : Outcome A Er St) (z : A) → b.wanted ≡ true → Stood t b
        → FoldsItems gives begins steps start b o → o.verdict ≡ Yes (Some z)
        → Later [] z (λ a. TakesAll gives begins (TakesShown folds place) (Some a)) b o
    later-all begins eb wb b o z w h m e =
        let run = subst (λ x. Chained (Asked true begins) (FromMade gives (Appends ⊤) (Collected (FoldsFrom steps start)) m.room (wanting x [])) b o) w m.run in
        let asked_ends : EndsAfterStart (Asked true begins) = asked-ends true begins eb in
        let asked_where : EndsWhere stands (Asked true begins) = λ c p k n y. wb (record c { wanted = true }) p k n.run y in
        let l =
        later-chain (Asked true begins) (FromMade gives (Appends ⊤) (Collected (FoldsFrom steps start)) m.room (Some [])) (λ a. FromMade gives (TakesShown folds place) Given m.room (Some a)) [] b o z
        (λ x p q n y f k. later-made m.room x (from b p) q z (stood-on t (Asked true begins) b p x asked_ends asked_where h n y) f k) run e in
        record { rest = l.rest; folded = l.folded; on = λ a f. record { room = m.room; full = m.full; run = l.on a f } }

module _ {Tok Cx St Er S V A : Type 0} (gives : S → Meaning Tok Cx St Er (Next S V)) (begins : Meaning Tok Cx St Er S)
    (folds : GivesShown Tok Cx St (A × V) A) (steps : A → V → A → Type 0) {stands : Layout Tok → ℕ → St → Type 0}
    (blind : IsBlind stands folds steps) where
  from_value : (t : St) (start : Option A) (place : ℕ) (b : Beginning Tok Cx St) (o : Outcome A Er St) (z : A)
      → ItemsEnd begins gives → EndsWhere stands begins → ((s : S) → EndsWhere stands (gives s)) → b.wanted ≡ true
      → Stood gives folds steps blind start place t b
      → FoldsItems gives begins steps start b o → o.verdict ≡ Yes (Some z) → TakesAll gives begins (TakesShown folds place) start b o
  from_value t (Some a) place b o z e wb ws w h m y = let l = later-all gives folds steps blind (Some a) place t e.step ws begins e.begin wb b o z w h m y in l.on a l.folded
  from_value t None place b o z e wb ws w h m y = absurd (later-all gives folds steps blind None place t e.step ws begins e.begin wb b o z w h m y).folded

  begun : (start : Option A) (place : ℕ) → Tallies {Tok = Tok} {Cx = Cx} {St = St} {Er = Er} gives folds steps blind start place start (Some [])
  begun (Some a) place = refl
  begun None place = tt

  pub blind-alike : (part : Meaning Tok Cx St Er A) → ItemsEnd begins gives → EndsAfterStart part
      → FoldsAlike (StandsFrom stands begins gives part) (FoldsShown gives begins folds part) (FoldsFromPart gives begins steps part)
  blind-alike part ends last =
      record {
        narrower = λ b o w h m. chained-when has_value _ _ b (λ a c q e t n. plain-all gives folds steps blind a b.start begins (begun a b.start) c q (e ∙ w) t n) part o h m.run;
        wider = λ b o z k w e m.
            let y = both_yes part (FoldsItems gives begins steps) b o (Some z) m e in
            let stood : Stood gives folds steps blind y.value b.start b.state (from b y.first) =
            record { began = k.here; here = k.part b y.first k.here y.meant (is_yes y.said); order = last b y.first y.meant (subst IsAnswer (sym y.said) tt) } in
            let r = from_value b.state y.value b.start (from b y.first) y.second z ends k.begin k.step w stood y.follows y.answers in
            record {
              run = subst (Chained part (TakesAll gives begins (TakesShown folds b.start)) b) (sym y.whole)
                  (yes_both part (TakesAll gives begins (TakesShown folds b.start)) b y.first y.value y.second y.meant y.said r);
            };
      }

module _ {Tok Cx St Er S V A : Type 0} (gives : S → Meaning Tok Cx St Er (Next S V)) (begins : Meaning Tok Cx St Er S)
    (folds : GivesShown Tok Cx St (A × V) A) (steps : A → V → A → Type 0)
    (blind : IsBlind (λ _ _ _. ⊤) folds steps) where
  -- by a folder that answers whatever it is shown, from wherever the run begins
  pub blind-anywhere : (part : Meaning Tok Cx St Er A) → ItemsEnd begins gives → EndsAfterStart part → FoldsAlike (λ _. ⊤) (FoldsShown gives begins folds part) (FoldsFromPart gives begins steps part)
  blind-anywhere part ends last =
      let k = blind-alike gives begins folds steps blind part ends last in
      record { narrower = k.narrower; wider = λ b o z u. k.wider b o z (record { here = tt; begin = λ _ _ _ _ _. tt; step = λ _ _ _ _ _ _. tt; part = λ _ _ _ _ _. tt }) }
