-- Why items are numbered from 0.
use Rattle.std.proofs.Common.{◌≡◌, ◌∙◌, ℕ, zero, suc, ◌+◌, Bool, true, false, Option, Some, None, option_map, List, [], ◌∷◌, ◌++◌, length, refl, sym, ap, subst, arith, inl, inr}
use Rattle.std.specs.Prelude.{⊤}
use Rattle.std.proofs.lemmas.List.{length-append}
use Rattle.chumsky_input.specs.declared.stop.Stop.TheVariants.{CountTooLarge}
use Rattle.chumsky_input.specs.Outcome.{Meaning, Beginning, Outcome, Yes}
use Rattle.chumsky_parser.specs.Chained.{Chained, Given, Asked, from}
use Rattle.chumsky_parser.specs.Failure.{Stops, wanting}
use Rattle.chumsky_parser.specs.Items.{Next, More, End, AfterStep, FromMade}
use Rattle.chumsky_parser.specs.Steps.{AllSteps, unlisted}
use Rattle.chumsky_items.specs.Consumers.{Appends, HoldsAll, Collected, Collects}
use Rattle.chumsky_parser.specs.Progress.{IsYes}
use Rattle.chumsky_items.specs.Repeating.{fits}
use Rattle.chumsky_folds.specs.Enumerating.{BeginsAtZero, Numbered, Enumerates}
use Rattle.chumsky_folds.specs.Compared.{NumberedFrom, NumbersFromZero}
use Rattle.chumsky_parser.proofs.YesLemmas.{some-same, same_yes, is_yes, both_yes}
use Rattle.chumsky_folds.proofs.ComparedLemmas.{collected-value}

module _ {S V : Type 0} where
  abbrev item_in : Next S V → Option V
  item_in (More v t) = v
  item_in End = None

  abbrev next_in : S → Next S V → S
  next_in d (More v t) = t
  next_in d End = d

  abbrev IsMore : Option (Next S V) → Type 0
  IsMore (Some (More v t)) = ⊤
  IsMore (Some End) = ⊥
  IsMore None = ⊥

module _ {V : Type 0} where
  paired : (n : ℕ) (w : Option V) (x : ℕ × V) → option_map (λ y. (n, y)) w ≡ Some x → x.0 ≡ n
  paired n (Some y) x e = sym (ap (λ (z : ℕ × V). z.0) (some-same e))
  paired n None x e = let no : ⊥ = cc in absurd no

module _ {S V : Type 0} where
  -- an item has this number, and the iteration the next one
  record HasNumber (n : ℕ) (v : Option (ℕ × V)) (t : ℕ × S) : Type 0 where
    pub number : (x : ℕ × V) → v ≡ Some x → x.0 ≡ n
    pub next : t.0 ≡ n + 1

  numbered_as : (n : ℕ) (w : Option V) (u : S) (v : Option (ℕ × V)) (t : ℕ × S) → More (option_map (λ y. (n, y)) w) (n + 1, u) ≡ More v t → HasNumber n v t
  numbered_as n w u v t e =
      record {
        number = λ x d. paired n w x (ap item_in e ∙ d);
        next = sym (ap (λ z. (next_in t z).0) e);
      }

module _ {Tok Cx St Er S V : Type 0} where
  numbered-has : (fit : Bool) (n : ℕ) (w : Option V) (u : S) (b : Beginning Tok Cx St)
      (q : Outcome (Next (ℕ × S) (ℕ × V)) Er St) (v : Option (ℕ × V)) (t : ℕ × S)
      → Numbered fit n w u b q → q.verdict ≡ Yes (Some (More v t)) → HasNumber n v t
  numbered-has true n w u b q v t m e = numbered_as n w u v t (some-same (same_yes (ap (λ (x : Outcome (Next (ℕ × S) (ℕ × V)) Er St). x.verdict) m) e))
  numbered-has false n w u b q v t m e = absurd (subst IsYes (ap (λ (x : Outcome (Next (ℕ × S) (ℕ × V)) Er St). x.verdict) m) (is_yes e))

  after-has : (n : ℕ) (x : Option (Next S V)) (b : Beginning Tok Cx St) (q : Outcome (Next (ℕ × S) (ℕ × V)) Er St)
      (v : Option (ℕ × V)) (t : ℕ × S)
      → AfterStep (Numbered (fits n) n) (Given (Some End)) x b q → q.verdict ≡ Yes (Some (More v t)) → HasNumber n v t
  after-has n (Some (More w u)) b q v t m e = numbered-has (fits n) n w u b q v t m e
  after-has n (Some End) b q v t m e = absurd (subst IsMore (sym (same_yes (ap (λ (x : Outcome (Next (ℕ × S) (ℕ × V)) Er St). x.verdict) m) e)) tt)
  after-has n None b q v t m e = absurd m

  step-has : (gives : S → Meaning Tok Cx St Er (Next S V)) (s : ℕ × S) (b : Beginning Tok Cx St)
      (p : Outcome (Next (ℕ × S) (ℕ × V)) Er St) (v : Option (ℕ × V)) (t : ℕ × S)
      → Enumerates gives s b p → p.verdict ≡ Yes (Some (More v t)) → HasNumber s.0 v t
  step-has gives s b p v t m e =
      let y = both_yes (gives s.1) (AfterStep (Numbered (fits s.0) s.0) (Given (Some End))) b p (Some (More v t)) m.step e in
      after-has s.0 y.value (from b y.first) y.second v t y.follows y.answers

module _ {V : Type 0} where
  numbered-more : (k : ℕ) (xs : List (ℕ × V)) (x : ℕ × V) → NumberedFrom k xs → x.0 ≡ k + length xs → NumberedFrom k (xs ++ x ∷ [])
  numbered-more k [] x f e = (omega (arith, e), tt)
  numbered-more k (y ∷ ys) x f e = (f.0, numbered-more (k + 1) ys x f.1 (omega (arith, e)))

  -- the items so far are numbered from 0, and there are n of them
  abbrev NumberedSo : Option (List (ℕ × V)) → ℕ → Type 0
  NumberedSo (Some xs) n = NumberedFrom 0 xs × (length xs ≡ n)
  NumberedSo None n = ⊤

  appended-so : {Tok Cx St Er : Type 0} (quiet : Type 0) (a : Option (List (ℕ × V))) (n : ℕ) (v : Option (ℕ × V))
      (b : Beginning Tok Cx St) (r : Outcome (List (ℕ × V)) Er St) (l : Option (List (ℕ × V)))
      → NumberedSo a n → ((x : ℕ × V) → v ≡ Some x → x.0 ≡ n) → Appends quiet a v b r → r.verdict ≡ Yes l → NumberedSo l (n + 1)
  appended-so {Tok} {Cx} {St} {Er} quiet (Some xs) n (Some x) b r l so h m e =
      elim m [
        | inl k ↦ absurd (subst IsYes k.1 (is_yes e))
        | inr g ↦
            let is : Some (xs ++ x ∷ []) ≡ l = same_yes (ap (λ (y : Outcome (List (ℕ × V)) Er St). y.verdict) g) e in
            let longer : length (xs ++ x ∷ []) ≡ length xs + 1 = length-append xs (x ∷ []) in
            subst (λ y. NumberedSo y (n + 1)) is (numbered-more 0 xs x so.0 (omega (arith, h x refl, so.1)), longer ∙ ap (λ y. y + 1) so.1)
      ]
  appended-so {Tok} {Cx} {St} {Er} quiet (Some xs) n None b r l so h m e = subst (λ y. NumberedSo y (n + 1)) (same_yes (ap (λ (y : Outcome (List (ℕ × V)) Er St). y.verdict) m) e) tt
  appended-so {Tok} {Cx} {St} {Er} quiet None n v b r l so h m e = subst (λ y. NumberedSo y (n + 1)) (same_yes (ap (λ (y : Outcome (List (ℕ × V)) Er St). y.verdict) m) e) tt

-- what is held is numbered from 0
record HeldNumbered {V C : Type 0} (holds : List (ℕ × V) → C → Type 0) (c : C) : Type 0 where
  pub items : List (ℕ × V)
  pub numbers : NumberedFrom 0 items
  pub held : holds items c

module _ {Tok Cx St Er S V C : Type 0} (gives : S → Meaning Tok Cx St Er (Next S V)) (begins : Meaning Tok Cx St Er S) (holds : List (ℕ × V) → C → Type 0) (quiet : Type 0) where
  held-so : (a : Option (List (ℕ × V))) (n : ℕ) (c : C) → NumberedSo a n → HoldsAll holds a (Some c) → HeldNumbered holds c
  held-so (Some xs) n c so h = record { items = xs; numbers = so.0; held = h }
  held-so None n c so h = absurd h

  ended-so : (a : Option (List (ℕ × V))) (n : ℕ) (b : Beginning Tok Cx St) (o : Outcome C Er St) (c : C) → NumberedSo a n → Collected holds a b o → o.verdict ≡ Yes (Some c) → HeldNumbered holds c
  ended-so a n b o c so m e = let k = collected-value holds a b o c m e in held-so a n c so k.0

  full-so : (a : Option (List (ℕ × V))) (n : ℕ) (x : Option (Next (ℕ × S) (ℕ × V))) (b : Beginning Tok Cx St) (o : Outcome C Er St) (c : C)
      → NumberedSo a n → AfterStep (λ _ _. Stops CountTooLarge) (Collected holds a) x b o → o.verdict ≡ Yes (Some c)
      → HeldNumbered holds c
  full-so a n (Some (More v t)) b o c so m e = absurd (subst IsYes (ap (λ (x : Outcome C Er St). x.verdict) m) (is_yes e))
  full-so a n (Some End) b o c so m e = ended-so a n b o c so m e
  full-so a n None b o c so m e = absurd m

  more-so : (room : ℕ)
      →
      ((l : Option (List (ℕ × V))) (t : ℕ × S) (d : Beginning Tok Cx St) (q : Outcome C Er St) (c : C)
      → NumberedSo l t.0 → AllSteps (Enumerates gives) (Appends quiet) (Collected holds) room l t d q
      → q.verdict ≡ Yes (Some c) → HeldNumbered holds c)
      → (a : Option (List (ℕ × V))) (n : ℕ) (x : Option (Next (ℕ × S) (ℕ × V)))
      → ((v : Option (ℕ × V)) (t : ℕ × S) → x ≡ Some (More v t) → HasNumber n v t)
      → (b : Beginning Tok Cx St) (o : Outcome C Er St) (c : C) → NumberedSo a n
      → AfterStep
      (λ v t. Chained (Appends quiet a v) (λ l. AllSteps (Enumerates gives) (Appends quiet) (Collected holds) room l t))
      (Collected holds a) x b o
      → o.verdict ≡ Yes (Some c) → HeldNumbered holds c
  more-so room ih a n (Some (More v t)) h b o c so m e =
      let y = both_yes (Appends quiet a v) (λ l. AllSteps (Enumerates gives) (Appends quiet) (Collected holds) room l t) b o (Some c) m e in
      let k = h v t refl in
      let next : NumberedSo y.value t.0 = subst (NumberedSo y.value) (sym k.next) (appended-so quiet a n v b y.first y.value so k.number y.meant y.said) in
      ih y.value t (from b y.first) y.second c next y.follows y.answers
  more-so room ih a n (Some End) h b o c so m e = ended-so a n b o c so m e
  more-so room ih a n None h b o c so m e = absurd m

  steps-so : (room : ℕ) (a : Option (List (ℕ × V))) (s : ℕ × S) (b : Beginning Tok Cx St) (o : Outcome C Er St) (c : C)
      → NumberedSo a s.0 → AllSteps (Enumerates gives) (Appends quiet) (Collected holds) room a s b o
      → o.verdict ≡ Yes (Some c) → HeldNumbered holds c
  steps-so zero a s b o c so m e =
      let y = both_yes (Enumerates gives s) (AfterStep (λ _ _. Stops CountTooLarge) (Collected holds a)) b o (Some c) m e in
      full-so a s.0 y.value (from b y.first) y.second c so y.follows y.answers
  steps-so (suc room) a s b o c so m e =
      let y =
      both_yes (Enumerates gives s)
      (AfterStep
      (λ v t. Chained (Appends quiet a v) (λ l. AllSteps (Enumerates gives) (Appends quiet) (Collected holds) room l t))
      (Collected holds a))
      b o (Some c) m e in
      more-so room (steps-so room) a s.0 y.value (λ v t d. step-has gives s b y.first v t y.meant (y.said ∙ ap Yes d)) (from b y.first) y.second c so y.follows y.answers

  made-so : (room : ℕ) (a : Option (List (ℕ × V))) (s : Option (ℕ × S))
      → ((t : ℕ × S) → s ≡ Some t → NumberedSo a t.0) → (b : Beginning Tok Cx St) (o : Outcome C Er St) (c : C)
      → FromMade (Enumerates gives) (Appends quiet) (Collected holds) room a s b o → o.verdict ≡ Yes (Some c)
      → HeldNumbered holds c
  made-so room a (Some s) h b o c m e = steps-so room a s b o c (h s refl) (unlisted (Enumerates gives) (Appends quiet) (Collected holds) room a s b o m) e
  made-so room a None h b o c m e = absurd m

  none-so : (w : Bool) (n : ℕ) → n ≡ 0 → NumberedSo (wanting {V = List (ℕ × V)} w []) n
  none-so true n e = (tt, sym e)
  none-so false n e = tt

  at_zero : (s : Option S) (t : ℕ × S) → option_map (λ x. (0, x)) s ≡ Some t → t.0 ≡ 0
  at_zero (Some s) t e = sym (ap (λ (z : ℕ × S). z.0) (some-same e))
  at_zero None t e = let no : ⊥ = cc in absurd no

  begun-so : (b : Beginning Tok Cx St) (p : Outcome (ℕ × S) Er St) (s : Option (ℕ × S)) → BeginsAtZero begins b p → p.verdict ≡ Yes s → (t : ℕ × S) → s ≡ Some t → t.0 ≡ 0
  begun-so b p s m e t d =
      let y = both_yes begins (λ x. Given (option_map (λ z. (0, z)) x)) b p s m e in
      let is : option_map (λ z. (0, z)) y.value ≡ s = same_yes (ap (λ (x : Outcome (ℕ × S) Er St). x.verdict) y.follows) y.answers in
      at_zero y.value t (is ∙ d)

  -- what is collected of the numbered items
  pub enumerated-numbers : (items : C → List (ℕ × V)) → ((xs : List (ℕ × V)) (c : C) → holds xs c → items c ≡ xs)
      → NumbersFromZero items (Collects (Enumerates gives) (BeginsAtZero begins) holds quiet)
  enumerated-numbers items are b o c m e =
      let y = both_yes (Asked true (BeginsAtZero begins)) (FromMade (Enumerates gives) (Appends quiet) (Collected holds) m.room (wanting b.wanted [])) b o (Some c) m.run e in
      let h =
      made-so m.room (wanting b.wanted []) y.value
      (λ t d. none-so b.wanted t.0 (begun-so (record b { wanted = true }) y.first y.value y.meant.run y.said t d))
      (from b y.first) y.second c y.follows y.answers in
      subst (NumberedFrom 0) (sym (are h.items c h.held)) h.numbers
