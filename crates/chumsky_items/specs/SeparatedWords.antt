-- Which words `separated_by` takes, by those of its items and separators.
-- Main laws: separated-one, separated-given, separated-over, separated-never_empty, separated-each, separated-ends. Read first: ListWords.antt, RepeatedWords.antt.
use Rattle.std.proofs.Common.{
  ◌≡◌,
  ℕ,
  zero,
  suc,
  ◌≤◌,
  ◌<◌,
  nat_lt,
  nat_le,
  Bool,
  true,
  false,
  not,
  ◌&&◌,
  cond,
  Option,
  Some,
  None,
  List,
  [],
  ◌∷◌,
  ◌++◌,
  length,
  refl,
  sym,
  ◌∙◌,
  ap,
  subst,
  arith,
  append_assoc,
  ◌⊎◌,
  inl,
  inr,
}
use Rattle.std.proofs.lemmas.Bool.Decides.{nat_tests}
use Rattle.chumsky_parser.specs.Ending.{Ending, At, Nowhere, Refused, Ender, and_then, or_else, Ends, EndsOrRefused, DoesNotEnd}
use Rattle.chumsky_parser.specs.Language.{Begins, TakesOnly, GivesOnly, TakesEach, EndsFurther}
use Rattle.chumsky_parser.specs.Words.{Joined}
use Rattle.chumsky_parser.specs.ItemsLanguage.{Stepped, One, Over, ListFrom, GoesOn}
use Rattle.chumsky_parser.specs.ProgressLaws.{both-true}
use Rattle.chumsky_items.specs.ItemsMove.{none-stays}
use Rattle.chumsky_items.specs.Repeating.{at_cap, has_an_item}
use Rattle.chumsky_parser.specs.WordsLaws.{then_or_refused, first_or_refused, second_or_refused}
use Rattle.chumsky_items.specs.ListWords.{overs, one_or, unless_few, lead_at, full_at, stands, stay_or, none_at, separated_next, Enough, Led, SeparatedWord, MayTrail, SeparatedEnd, SeparatedFollow}
use Rattle.chumsky_items.specs.RepeatedWords.{under-cap, cap-under, cap-enough, least-enough, enough-least, one_is, over_is, refused_is, one_each, overs_each, over_each, few_at, few_not_refused}

le-least : (least : ℕ) (most : Option ℕ) (k : ℕ) → nat_le least k ≡ true → Enough least most k
le-least least None k e = grind (arith, nat_tests)
le-least least (Some m) k e = let l : least ≤ k = grind (arith, nat_tests) in inl l

enough-le : (least : ℕ) (most : Option ℕ) (k : ℕ) → Enough least most k → at_cap most k ≡ false → nat_le least k ≡ true
enough-le least None k l e = grind (arith, nat_tests)
enough-le least (Some m) k (inl l) e = grind (arith, nat_tests)
enough-le least (Some m) k (inr l) e = grind (arith, nat_tests)

nothing : {Tok : Type 0} (P : List Tok → Type 0) (ts rest : List Tok) → P [] → ts ≡ rest → Begins P ts rest
nothing P ts rest p e = record { word = []; all = e; is = p }

module _ {Tok : Type 0} (f separator : Ender Tok) where
  -- a separator where there has to be one, and an item
  led_begins : (S Q : List Tok → Type 0) → TakesOnly separator S → (l : Bool) (k : ℕ) (ts rest : List Tok)
      → ((mid : List Tok) → lead_at separator l k ts ≡ At mid → f mid ≡ At rest → Begins Q mid rest)
      → and_then f (lead_at separator l k ts) ≡ At rest → Begins (Led S l Q k) ts rest
  led_begins S Q h l k ts rest g e = by_place l k g e
    where
      after : (mid : List Tok) → separator ts ≡ At mid → Begins Q mid rest → Begins (Joined S Q) ts rest
      after mid d c =
          let b = h.taken ts mid d in
          let z : b.word ++ (c.word ++ rest) ≡ (b.word ++ c.word) ++ rest = sym (append_assoc b.word c.word rest) in
          record { word = b.word ++ c.word; all = b.all ∙ ap (λ t. b.word ++ t) c.all ∙ z; is = record { first = b.word; second = c.word; all = refl; is_first = b.is; is_second = c.is } }

      by_separator : (x : Ending (List Tok)) → separator ts ≡ x → ((mid : List Tok) → x ≡ At mid → f mid ≡ At rest → Begins Q mid rest) → and_then f x ≡ At rest → Begins (Joined S Q) ts rest
      by_separator (At mid) d g e = after mid d (g mid refl e)
      by_separator Nowhere d g e = absurd (cc e)
      by_separator Refused d g e = absurd (cc e)

      by_missing : (x : Ending (List Tok)) → separator ts ≡ x
          → ((mid : List Tok) → or_else x (At ts) ≡ At mid → f mid ≡ At rest → Begins Q mid rest)
          → and_then f (or_else x (At ts)) ≡ At rest → Begins (λ w. Joined S Q w ⊎ Q w) ts rest
      by_missing (At mid) d g e = let b = after mid d (g mid refl e) in record { word = b.word; all = b.all; is = inl b.is }
      by_missing Nowhere d g e = let b = g ts refl e in record { word = b.word; all = b.all; is = inr b.is }
      by_missing Refused d g e = absurd (cc e)

      by_place : (l : Bool) (k : ℕ)
          → ((mid : List Tok) → lead_at separator l k ts ≡ At mid → f mid ≡ At rest → Begins Q mid rest)
          → and_then f (lead_at separator l k ts) ≡ At rest → Begins (Led S l Q k) ts rest
      by_place l (suc k) g e = by_separator (separator ts) refl g e
      by_place true zero g e = by_missing (separator ts) refl g e
      by_place false zero g e = g ts refl e

  module _ (leading trailing : Bool) (least : ℕ) (most : Option ℕ) where
    abbrev next : ℕ → List Tok → Ending (Stepped Tok)
    next = separated_next f separator leading trailing least most

    one_parts : (k : ℕ) (ts rest : List Tok) → next k ts ≡ At (One rest) → (at_cap most k ≡ false) × (and_then f (lead_at separator leading k ts) ≡ At rest)
    one_parts k ts rest e = one_is (at_cap most k) (full_at separator trailing k ts) (and_then f (lead_at separator leading k ts)) (none_at separator leading trailing least k ts) rest e

    pub separated-further : EndsFurther f
        → ((l : Bool) (k : ℕ) (ts rest : List Tok) → lead_at separator l k ts ≡ At rest → length rest ≤ length ts)
        → (k : ℕ) (ts rest : List Tok) → next k ts ≡ At (One rest) → length rest < length ts
    separated-further h keeps k ts rest e = by_lead (lead_at separator leading k ts) (keeps leading k ts) (one_parts k ts rest e).1
      where
        by_lead : (x : Ending (List Tok)) → ((mid : List Tok) → x ≡ At mid → length mid ≤ length ts) → and_then f x ≡ At rest → length rest < length ts
        by_lead (At mid) g d = let l : length mid ≤ length ts = g mid refl in let m : length rest < length mid = h mid rest d in omega (arith, l, m)
        by_lead Nowhere g d = absurd (cc d)
        by_lead Refused g d = absurd (cc d)

    -- a list with an item at least is not over at once
    pub separated-never_empty : has_an_item least most ≡ true → (ts rest : List Tok) → next 0 ts ≡ At (Over rest) → ⊥
    separated-never_empty h ts rest e =
        let t = both-true (nat_lt 0 least) (not (at_cap most 0)) h in
        elim (over_is (at_cap most 0) (full_at separator trailing 0 ts) (and_then f (lead_at separator leading 0 ts)) (none_at separator leading trailing least 0 ts) rest e) [
          | inl i ↦ let z : false ≡ true = subst (λ c. not c ≡ true) i.0 t.1 in cc z
          | inr i ↦
              let z : unless_few (nat_lt 0 least) ts ≡ At rest =
              subst (λ s. stay_or s (lead_at separator leading 0 ts) (unless_few (nat_lt 0 least) ts) ≡ At rest)
              (none-stays least leading t.0) i.1 in
              let j = few_at (nat_lt 0 least) ts rest z in
              cc (t.0, j.0)
        ]

    pub separated-one : (P S : List Tok → Type 0) → TakesOnly f P → TakesOnly separator S → (k : ℕ) (ts rest : List Tok) → next k ts ≡ At (One rest) → Begins (SeparatedWord S leading most P k) ts rest
    separated-one P S h hs k ts rest e =
        let i = one_parts k ts rest e in
        let b = led_begins S P hs leading k ts rest (λ mid d g. h.taken mid rest g) i.1 in
        record { word = b.word; all = b.all; is = (under-cap most k i.0, b.is) }

    pub separated-given : {V : Type 0} (S : List Tok → Type 0) (value of : List Tok → V → Type 0)
        → GivesOnly f value of → TakesOnly separator S → (k : ℕ) (ts rest : List Tok) (v : V)
        → next k ts ≡ At (One rest)
        → Ends (lead_at separator leading k ts) (λ mid. value mid v) → Begins (λ w. SeparatedWord S leading most (λ u. of u v) k w) ts rest
    separated-given S value of h hs k ts rest v e j =
        let i = one_parts k ts rest e in
        let b = led_begins S (λ u. of u v) hs leading k ts rest (λ mid d g. h.given mid rest v g (subst (λ x. Ends x (λ us. value us v)) d j)) i.1 in
        record { word = b.word; all = b.all; is = (under-cap most k i.0, b.is) }

    pub separated-decided : (k : ℕ) (ts : List Tok) → ((us : List Tok) → length us ≤ length ts → f us ≡ Refused → ⊥)
        → (separator ts ≡ Refused → ⊥)
        → ((l : Bool) (k : ℕ) (ts rest : List Tok) → lead_at separator l k ts ≡ At rest → length rest ≤ length ts)
        → next k ts ≡ Refused → ⊥
    separated-decided k ts h hs keeps e =
        refused_is (at_cap most k) (full_at separator trailing k ts) (and_then f (lead_at separator leading k ts)) (none_at separator leading trailing least k ts)
        (full_not trailing k)
        (λ z. by_lead (lead_at separator leading k ts) (keeps leading k ts) (lead_not leading k) z)
        (λ z. stay_not (stands leading trailing k && nat_le least k) (lead_at separator leading k ts) (lead_not leading k) z)
        e
      where
        missing_not : (x : Ending (List Tok)) → (x ≡ Refused → ⊥) → or_else x (At ts) ≡ Refused → ⊥
        missing_not (At r) g e = cc e
        missing_not Nowhere g e = cc e
        missing_not Refused g e = g refl

        full_not : (t : Bool) (k : ℕ) → full_at separator t k ts ≡ Refused → ⊥
        full_not true zero e = cc e
        full_not false zero e = cc e
        full_not true (suc k) e = missing_not (separator ts) hs e
        full_not false (suc k) e = cc e

        lead_not : (l : Bool) (k : ℕ) → lead_at separator l k ts ≡ Refused → ⊥
        lead_not l (suc k) e = hs e
        lead_not true zero e = missing_not (separator ts) hs e
        lead_not false zero e = cc e

        by_lead : (x : Ending (List Tok)) → ((mid : List Tok) → x ≡ At mid → length mid ≤ length ts) → (x ≡ Refused → ⊥) → and_then f x ≡ Refused → ⊥
        by_lead (At mid) l g e = h mid (l mid refl) e
        by_lead Nowhere l g e = cc e
        by_lead Refused l g e = g refl

        stay_not : (c : Bool) (x : Ending (List Tok)) → (x ≡ Refused → ⊥) → stay_or c x (unless_few (nat_lt k least) ts) ≡ Refused → ⊥
        stay_not true (At mid) g e = cc e
        stay_not true Nowhere g e = few_not_refused (nat_lt k least) ts e
        stay_not true Refused g e = g refl
        stay_not false x g e = few_not_refused (nat_lt k least) ts e

  -- what ends the list
  module _ (S : List Tok → Type 0) (hs : TakesOnly separator S) (least : ℕ) (most : Option ℕ) where
    stays_nothing : (l t : Bool) (k : ℕ) → Enough least most k → SeparatedEnd S l t least most k []
    stays_nothing true t zero n = (n, inl refl)
    stays_nothing false t zero n = (n, refl)
    stays_nothing true true (suc k) n = (n, inl refl)
    stays_nothing false true (suc k) n = (n, inl refl)
    stays_nothing true false (suc k) n = (n, refl)
    stays_nothing false false (suc k) n = (n, refl)

    stays_behind : (l : Bool) (k : ℕ) (w : List Tok) → Enough least most (suc k) → S w → SeparatedEnd S l true least most (suc k) w
    stays_behind true k w n s = (n, inr s)
    stays_behind false k w n s = (n, inr s)

    full_taken : (l t : Bool) (k : ℕ) → at_cap most k ≡ true → (ts rest : List Tok) → full_at separator t k ts ≡ At rest → Begins (SeparatedEnd S l t least most k) ts rest
    full_taken l true zero c ts rest e = nothing _ ts rest (stays_nothing l true zero (cap-enough least most zero c)) (cc e)
    full_taken l false zero c ts rest e = nothing _ ts rest (stays_nothing l false zero (cap-enough least most zero c)) (cc e)
    full_taken l false (suc k) c ts rest e = nothing _ ts rest (stays_nothing l false (suc k) (cap-enough least most (suc k) c)) (cc e)
    full_taken l true (suc k) c ts rest e = by_separator (separator ts) refl e
      where
        by_separator : (x : Ending (List Tok)) → separator ts ≡ x → or_else x (At ts) ≡ At rest → Begins (SeparatedEnd S l true least most (suc k)) ts rest
        by_separator (At r) d e = let b = hs.taken ts rest (d ∙ e) in record { word = b.word; all = b.all; is = stays_behind l k b.word (cap-enough least most (suc k) c) b.is }
        by_separator Nowhere d e = nothing _ ts rest (stays_nothing l true (suc k) (cap-enough least most (suc k) c)) (cc e)
        by_separator Refused d e = absurd (cc e)

    few_taken : (l t : Bool) (k : ℕ) (ts rest : List Tok) → unless_few (nat_lt k least) ts ≡ At rest → Begins (SeparatedEnd S l t least most k) ts rest
    few_taken l t k ts rest e = let i = few_at (nat_lt k least) ts rest e in nothing _ ts rest (stays_nothing l t k (least-enough least most k i.0)) i.1

    none_taken : (l t : Bool) (k : ℕ) → at_cap most k ≡ false → (ts rest : List Tok) → none_at separator l t least k ts ≡ At rest → Begins (SeparatedEnd S l t least most k) ts rest
    none_taken false t zero c ts rest e = few_taken false t zero ts rest e
    none_taken l false (suc k) c ts rest e = few_taken l false (suc k) ts rest e
    none_taken true t zero c ts rest e = by_least (nat_le least zero) refl (separator ts) refl e
      where
        by_least : (b : Bool) → nat_le least zero ≡ b → (x : Ending (List Tok)) → separator ts ≡ x
            → stay_or b (or_else x (At ts)) (unless_few (nat_lt zero least) ts) ≡ At rest
            → Begins (SeparatedEnd S true t least most zero) ts rest
        by_least true g (At r) d e = let b = hs.taken ts rest (d ∙ e) in record { word = b.word; all = b.all; is = (le-least least most zero g, inr (under-cap most zero c, b.is)) }
        by_least true g Nowhere d e = nothing _ ts rest (le-least least most zero g, inl refl) (cc e)
        by_least true g Refused d e = absurd (cc e)
        by_least false g x d e = few_taken true t zero ts rest e
    none_taken l true (suc k) c ts rest e = by_least (nat_le least (suc k)) refl (separator ts) refl e
      where
        by_least : (b : Bool) → nat_le least (suc k) ≡ b → (x : Ending (List Tok)) → separator ts ≡ x
            → stay_or b x (unless_few (nat_lt (suc k) least) ts) ≡ At rest
            → Begins (SeparatedEnd S l true least most (suc k)) ts rest
        by_least true g (At r) d e = let b = hs.taken ts rest (d ∙ e) in record { word = b.word; all = b.all; is = stays_behind l k b.word (le-least least most (suc k) g) b.is }
        by_least true g Nowhere d e = few_taken l true (suc k) ts rest e
        by_least true g Refused d e = absurd (cc e)
        by_least false g x d e = few_taken l true (suc k) ts rest e

    pub separated-over : (leading trailing : Bool) (k : ℕ) (ts rest : List Tok)
        → separated_next f separator leading trailing least most k ts ≡ At (Over rest)
        → Begins (SeparatedEnd S leading trailing least most k) ts rest
    separated-over leading trailing k ts rest e =
        elim (over_is (at_cap most k) (full_at separator trailing k ts) (and_then f (lead_at separator leading k ts))
        (none_at separator leading trailing least k ts) rest e) [
          | inl i ↦ full_taken leading trailing k i.0 ts rest i.1
          | inr i ↦ none_taken leading trailing k i.0 ts rest i.1
        ]

  -- each word is taken
  module _ (P S fits sfits : List Tok → Type 0) (h : TakesEach f P fits) (hs : TakesEach separator S sfits) (leading trailing : Bool) (least : ℕ) (most : Option ℕ)
      (after_item : (w rest : List Tok) → S w → sfits rest → fits (w ++ rest)) (after_separator : (w rest : List Tok) → P w → fits rest → sfits (w ++ rest))
      (not_separator : leading ≡ true → (w rest : List Tok) → P w → fits rest → DoesNotEnd (separator (w ++ rest))) where
    abbrev Follow : List Tok → Type 0
    Follow = SeparatedFollow f separator fits sfits

    -- a separator and an item are taken
    taken_there : (w rest : List Tok) → Joined S P w → fits rest → (mid : List Tok) × EndsOrRefused (separator (w ++ rest)) mid × EndsOrRefused (f mid) rest
    taken_there w rest i y =
        let e : w ++ rest ≡ i.first ++ (i.second ++ rest) = ap (λ u. u ++ rest) i.all ∙ append_assoc i.first i.second rest in
        let a : EndsOrRefused (separator (i.first ++ (i.second ++ rest))) (i.second ++ rest) = hs.each i.first (i.second ++ rest) i.is_first (after_separator i.second rest i.is_second y) in
        (i.second ++ rest, subst (λ u. EndsOrRefused (separator u) (i.second ++ rest)) (sym e) a, h.each i.second rest i.is_second y)

    led_each : (l : Bool) → (l ≡ true → (w rest : List Tok) → P w → fits rest → DoesNotEnd (separator (w ++ rest)))
        → (k : ℕ) (w rest : List Tok) → Led S l P k w → fits rest
        → EndsOrRefused (and_then f (lead_at separator l k (w ++ rest))) rest
    led_each l clear (suc k) w rest i y = let t = taken_there w rest i y in then_or_refused f (separator (w ++ rest)) t.0 rest t.1 t.2
    led_each false clear zero w rest i y = h.each w rest i y
    led_each true clear zero w rest (inl i) y =
        let t = taken_there w rest i y in
        then_or_refused f (or_else (separator (w ++ rest)) (At (w ++ rest))) t.0 rest
        (first_or_refused (separator (w ++ rest)) (At (w ++ rest)) t.0 t.1) t.2
    led_each true clear zero w rest (inr p) y =
        let x : EndsOrRefused (or_else (separator (w ++ rest)) (At (w ++ rest))) (w ++ rest) =
        second_or_refused (separator (w ++ rest)) (At (w ++ rest)) (w ++ rest) (clear refl w rest p y) (inl refl)
        in
        then_or_refused f (or_else (separator (w ++ rest)) (At (w ++ rest))) (w ++ rest) rest x (h.each w rest p y)

    last_fits : (l t : Bool) (k : ℕ) (w rest : List Tok) → MayTrail S l t most (suc k) w → fits rest → sfits rest → fits (w ++ rest)
    last_fits true false k w rest e y z = subst (λ u. fits (u ++ rest)) (sym e) y
    last_fits false false k w rest e y z = subst (λ u. fits (u ++ rest)) (sym e) y
    last_fits true true k w rest (inl e) y z = subst (λ u. fits (u ++ rest)) (sym e) y
    last_fits false true k w rest (inl e) y z = subst (λ u. fits (u ++ rest)) (sym e) y
    last_fits true true k w rest (inr x) y z = after_item w rest x z
    last_fits false true k w rest (inr x) y z = after_item w rest x z

    goes_on_fits : (k : ℕ) (items : List (List Tok)) (w rest : List Tok)
        → ListFrom (λ j u (v : List Tok). SeparatedWord S leading most P j u) (SeparatedEnd S leading trailing least most) (suc k) items w
        → fits rest → sfits rest → fits (w ++ rest)
    goes_on_fits k [] w rest i y z = last_fits leading trailing k w rest i.1 y z
    goes_on_fits k (v ∷ vs) w rest i y z =
        let g : fits (i.second ++ rest) = goes_on_fits (suc k) vs i.second rest i.is_second y z in
        let j = i.is_first.1 in
        let a : fits (j.first ++ (j.second ++ (i.second ++ rest))) = after_item j.first (j.second ++ (i.second ++ rest)) j.is_first (after_separator j.second (i.second ++ rest) j.is_second g) in
        let e : w ++ rest ≡ i.first ++ (i.second ++ rest) = ap (λ u. u ++ rest) i.all ∙ append_assoc i.first i.second rest in
        let d : i.first ++ (i.second ++ rest) ≡ j.first ++ (j.second ++ (i.second ++ rest)) = ap (λ u. u ++ (i.second ++ rest)) j.all ∙ append_assoc j.first j.second (i.second ++ rest) in
        subst fits (sym (e ∙ d)) a

    pub separated-each : (k : ℕ) (w rest : List Tok) → SeparatedWord S leading most P k w → GoesOn (SeparatedWord S leading most P) (SeparatedEnd S leading trailing least most) Follow (suc k) rest
        → EndsOrRefused (separated_next f separator leading trailing least most k (w ++ rest)) (One rest)
    separated-each k w rest i g =
        let y : fits rest = subst fits (sym g.all) (goes_on_fits k g.is.items g.words g.rest g.is.are g.fits.0 g.fits.1) in
        let c : at_cap most k ≡ false = cap-under most k i.0 in
        rw c (one_each (and_then f (lead_at separator leading k (w ++ rest))) (none_at separator leading trailing least k (w ++ rest)) rest (led_each leading not_separator k w rest i.1 y))

    few_not : (k : ℕ) (w rest : List Tok) → Enough least most k → at_cap most k ≡ false → w ≡ [] → unless_few (nat_lt k least) (w ++ rest) ≡ At rest
    few_not k w rest n c e = let d : nat_lt k least ≡ false = enough-least least most k n c in rw (d, e) refl

    -- at the cap
    full_each : (l t : Bool) (k : ℕ) (w rest : List Tok) → MayTrail S l t most k w → at_cap most k ≡ true → Follow rest → EndsOrRefused (full_at separator t k (w ++ rest)) rest
    full_each false true zero w rest e c y = rw e (inl refl)
    full_each false false zero w rest e c y = rw e (inl refl)
    full_each true true zero w rest (inl e) c y = rw e (inl refl)
    full_each true false zero w rest (inl e) c y = rw e (inl refl)
    full_each true t zero w rest (inr x) c y = let d : at_cap most 0 ≡ false = cap-under most 0 x.0 in absurd (cc (c, d))
    full_each true false (suc k) w rest e c y = rw e (inl refl)
    full_each false false (suc k) w rest e c y = rw e (inl refl)
    full_each true true (suc k) w rest (inl e) c y = rw e (second_or_refused (separator rest) (At rest) rest y.2 (inl refl))
    full_each false true (suc k) w rest (inl e) c y = rw e (second_or_refused (separator rest) (At rest) rest y.2 (inl refl))
    full_each true true (suc k) w rest (inr x) c y = first_or_refused (separator (w ++ rest)) (At (w ++ rest)) rest (hs.each w rest x y.1)
    full_each false true (suc k) w rest (inr x) c y = first_or_refused (separator (w ++ rest)) (At (w ++ rest)) rest (hs.each w rest x y.1)

    -- no item follows, and the list ends there, unless a part is refused
    abbrev NoItem : Bool → Bool → ℕ → List Tok → List Tok → Type 0
    NoItem l t k w rest = DoesNotEnd (and_then f (lead_at separator l k (w ++ rest))) × EndsOrRefused (none_at separator l t least k (w ++ rest)) rest

    -- where no separator is there
    by_end : (c : Bool) (x : Ending (List Tok)) (k : ℕ) (w rest : List Tok) → DoesNotEnd x → Enough least most k
        → at_cap most k ≡ false → w ≡ []
        → DoesNotEnd (and_then f x) × EndsOrRefused (stay_or c x (unless_few (nat_lt k least) (w ++ rest))) rest
    by_end c (At r) k w rest d n a e = absurd d
    by_end true Nowhere k w rest d n a e = (tt, inl (few_not k w rest n a e))
    by_end false Nowhere k w rest d n a e = (tt, inl (few_not k w rest n a e))
    by_end true Refused k w rest d n a e = (tt, inr refl)
    by_end false Refused k w rest d n a e = (tt, inl (few_not k w rest n a e))

    -- where one is there, and stays
    by_stay : (k : ℕ) (x y : Ending (List Tok)) (rest : List Tok) → EndsOrRefused x rest → DoesNotEnd (f rest)
        → Enough least most k → at_cap most k ≡ false
        → DoesNotEnd (and_then f x) × EndsOrRefused (stay_or (nat_le least k) x y) rest
    by_stay k x y rest (inl d) g n c = let b : nat_le least k ≡ true = enough-le least most k n c in rw (d, b) (g, inl refl)
    by_stay k x y rest (inr d) g n c = let b : nat_le least k ≡ true = enough-le least most k n c in rw (d, b) (tt, inr refl)

    empty_end : (w rest : List Tok) → w ≡ [] → DoesNotEnd (separator rest) → DoesNotEnd (separator (w ++ rest))
    empty_end w rest e d = rw e d

    none_each : (l t : Bool) (k : ℕ) (w rest : List Tok) → Enough least most k → MayTrail S l t most k w → at_cap most k ≡ false → Follow rest → NoItem l t k w rest
    none_each false t zero w rest n e c y = (subst (λ z. DoesNotEnd (f (z ++ rest))) (sym e) y.3, inl (few_not zero w rest n c e))
    none_each true t zero w rest n (inl e) c y =
        let x : EndsOrRefused (or_else (separator (w ++ rest)) (At (w ++ rest))) rest = rw e (second_or_refused (separator rest) (At rest) rest y.2 (inl refl)) in
        by_stay zero (or_else (separator (w ++ rest)) (At (w ++ rest))) (unless_few (nat_lt zero least) (w ++ rest)) rest x y.3 n c
    none_each true t zero w rest n (inr s) c y =
        let x : EndsOrRefused (or_else (separator (w ++ rest)) (At (w ++ rest))) rest = first_or_refused (separator (w ++ rest)) (At (w ++ rest)) rest (hs.each w rest s.1 y.1) in
        by_stay zero (or_else (separator (w ++ rest)) (At (w ++ rest))) (unless_few (nat_lt zero least) (w ++ rest)) rest x y.3 n c
    none_each true false (suc k) w rest n e c y = by_end false (separator (w ++ rest)) (suc k) w rest (empty_end w rest e y.2) n c e
    none_each false false (suc k) w rest n e c y = by_end false (separator (w ++ rest)) (suc k) w rest (empty_end w rest e y.2) n c e
    none_each true true (suc k) w rest n (inl e) c y = by_end (nat_le least (suc k)) (separator (w ++ rest)) (suc k) w rest (empty_end w rest e y.2) n c e
    none_each false true (suc k) w rest n (inl e) c y = by_end (nat_le least (suc k)) (separator (w ++ rest)) (suc k) w rest (empty_end w rest e y.2) n c e
    none_each true true (suc k) w rest n (inr s) c y = by_stay (suc k) (separator (w ++ rest)) (unless_few (nat_lt (suc k) least) (w ++ rest)) rest (hs.each w rest s y.1) y.3 n c
    none_each false true (suc k) w rest n (inr s) c y = by_stay (suc k) (separator (w ++ rest)) (unless_few (nat_lt (suc k) least) (w ++ rest)) rest (hs.each w rest s y.1) y.3 n c

    last_each : (b : Bool) (d x y : Ending (List Tok)) (rest : List Tok) → (b ≡ true → EndsOrRefused d rest)
        → (b ≡ false → DoesNotEnd x × EndsOrRefused y rest)
        → EndsOrRefused (cond b (overs d) (one_or x y)) (Over rest)
    last_each true d x y rest g i = overs_each d rest (g refl)
    last_each false d x y rest g i = let e = i refl in over_each x y rest e.0 e.1

    pub separated-ends : (k : ℕ) (w rest : List Tok) → SeparatedEnd S leading trailing least most k w → Follow rest
        → EndsOrRefused (separated_next f separator leading trailing least most k (w ++ rest)) (Over rest)
    separated-ends k w rest i y =
        last_each (at_cap most k) (full_at separator trailing k (w ++ rest)) (and_then f (lead_at separator leading k (w ++ rest))) (none_at separator leading trailing least k (w ++ rest)) rest
        (λ c. full_each leading trailing k w rest i.1 c y) (λ c. none_each leading trailing k w rest i.0 i.1 c y)
