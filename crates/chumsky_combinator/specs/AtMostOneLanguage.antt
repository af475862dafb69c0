-- The language of a part that may be absent, as items: one item of a word of the part, or none, where the part does not end on what follows.
-- Main words: at_most_one_language. Law: at_most_one-accepts. Read first: ItemsLanguage.antt of chumsky_parser, AtMostOne.antt.
use Rattle.std.proofs.Common.{◌≡◌, ℕ, zero, suc, ◌<◌, Bool, true, false, ◌&&◌, Some, List, [], ◌∷◌, ◌++◌, length, drop, refl, sym, ◌∙◌, ap, subst, inl, inr}
use Rattle.std.specs.Prelude.{⊤}
use Rattle.chumsky_input.specs.Outcome.{Meaning, Beginning}
use Rattle.chumsky_parser.specs.Chained.{Chained, Given}
use Rattle.chumsky_parser.specs.ChoiceEndings.{or_else-here}
use Rattle.chumsky_parser.specs.Ending.{Ending, At, Nowhere, Refused, and_then, or_else, Within, Answers, Here, EndsOrRefused, DoesNotEnd}
use Rattle.chumsky_parser.specs.EndingLaws.{chained-here, given-here, given-by, weaker-here, and_then_some}
use Rattle.chumsky_parser.specs.Items.{Next, More, End}
use Rattle.chumsky_parser.specs.ItemsLanguage.{Stepped, One, Over, place, IsStepped, ListFrom, GoesOn, ItemsLanguage, ItemsDescribed, AcceptsItems}
use Rattle.chumsky_parser.specs.Language.{Language, Begins, Described, Accepts, IsBelow}
use Rattle.chumsky_parser.specs.Memory.{NeverOutOfMemory}
use Rattle.chumsky_parser.specs.MemoryLaws.{chained-spares, given-spares, or_else-spares}
use Rattle.chumsky_parser.specs.ProgressLaws.{both-true}
use Rattle.chumsky_parser.specs.Words.{ElseValue}
use Rattle.chumsky_combinator.specs.AtMostOne.{OnceTried, AtMostOne}

-- no item before the part was tried, and one after
abbrev pub TriedAfter : Bool → ℕ → Type 0
TriedAfter false zero = ⊤
TriedAfter false (suc k) = ⊥
TriedAfter true zero = ⊥
TriedAfter true (suc k) = ⊤

-- an item where the part ends, and where it fails the end, from where it began
abbrev pub tried_once : {Tok : Type 0} → Ending (List Tok) → List Tok → Ending (Stepped Tok)
tried_once (At rest) ts = At (One rest)
tried_once Nowhere ts = At (Over ts)
tried_once Refused ts = Refused

module _ {Tok V : Type 0} (F : Language Tok V) where
  -- where a step ends, after so many items
  abbrev pub at_most_one : ℕ → List Tok → Ending (Stepped Tok)
  at_most_one zero ts = tried_once (F.ends ts) ts
  at_most_one (suc k) ts = At (Over ts)

  -- a word of the only item, and what it stands for
  abbrev pub OnlyWord : ℕ → List Tok → Type 0
  OnlyWord zero w = F.word w
  OnlyWord (suc k) w = ⊥

  abbrev pub OnlyStands : ℕ → List Tok → V → Type 0
  OnlyStands zero w v = F.stands_for w v
  OnlyStands (suc k) w v = ⊥

  -- a word of the part, or nothing; said where the part takes a token wherever it succeeds
  abbrev pub at_most_one_language : ItemsLanguage Tok Bool V
  at_most_one_language = record {
    said = F.said && F.moves;
    has_given = TriedAfter;
    next = at_most_one;
    value = λ _. F.value;
    word = OnlyWord;
    stands_for = OnlyStands;
    last = λ _ w. w ≡ [];
    follow = λ rest. F.follow rest × DoesNotEnd (F.ends rest);
    unambiguous = F.unambiguous;
    refused_from = F.refused_from;
    moves = false;
    takes_no_memory = F.takes_no_memory;
  }

module _ {Tok : Type 0} (ts rest : List Tok) where
  of_one : (x : Ending (List Tok)) → tried_once x ts ≡ At (One rest) → x ≡ At rest
  of_one (At r) e = cc e
  of_one Nowhere e = absurd (cc e)
  of_one Refused e = absurd (cc e)

  of_over : (x : Ending (List Tok)) → tried_once x ts ≡ At (Over rest) → ts ≡ rest
  of_over (At r) e = absurd (cc e)
  of_over Nowhere e = cc e
  of_over Refused e = absurd (cc e)

of_refused : {Tok : Type 0} (ts : List Tok) (x : Ending (List Tok)) → tried_once x ts ≡ Refused → x ≡ Refused
of_refused ts (At r) e = absurd (cc e)
of_refused ts Nowhere e = absurd (cc e)
of_refused ts Refused e = refl

tried_over : {Tok : Type 0} (ts : List Tok) (x : Ending (List Tok)) → DoesNotEnd x → EndsOrRefused (tried_once x ts) (Over ts)
tried_over ts (At r) n = absurd n
tried_over ts Nowhere n = inl refl
tried_over ts Refused n = inr refl

tried_place : {Tok : Type 0} (ts : List Tok) (x : Ending (List Tok)) → or_else x (At ts) ≡ place (tried_once x ts)
tried_place ts (At r) = refl
tried_place ts Nowhere = refl
tried_place ts Refused = refl

module _ {Tok V : Type 0} (P : V → Type 0) (Q : Bool → Type 0) (ts : List Tok) where
  -- an item of the part, or the end
  abbrev IsItem : Next Bool V → Type 0
  IsItem = IsStepped P Q (At (One ts))

  abbrev IsEnd : Next Bool V → Type 0
  IsEnd = IsStepped P Q (At (Over ts))

  as_stepped : (x : Ending (List Tok)) (n : Next Bool V) → ElseValue x (IsItem n) (IsEnd n) → IsStepped P Q (tried_once x ts) n
  as_stepped (At r) (More v s) i = i
  as_stepped (At r) End i = i
  as_stepped Nowhere (More v s) i = i
  as_stepped Nowhere End i = i
  as_stepped Refused n i = absurd i

module _ {Tok Cx St Mk Er V : Type 0} (mark : St → Mk) (back : St → Mk → St) (safe : Type 0) (part : Meaning Tok Cx St Er V) where
  once_spares : safe → NeverOutOfMemory part → (tried : Bool) → NeverOutOfMemory (OnceTried mark back safe part tried)
  once_spares x h true = given-spares (Some End)
  once_spares x h false = or_else-spares mark back safe _ _ x (chained-spares part _ h (λ v. given-spares (Some (More v true)))) (given-spares (Some End))

  module _ (F : Language Tok V) (d : Described part F) where
    -- the first step
    first_here : (b : Beginning Tok Cx St) → Within b
        → Here
        (IsStepped (F.value (drop b.start b.tokens.list)) (λ t. TriedAfter t 1) (at_most_one F 0 (drop b.start b.tokens.list)))
        (OnceTried mark back safe part false) (place (at_most_one F 0 (drop b.start b.tokens.list))) b
    first_here b w o m =
        let ts : List Tok = drop b.start b.tokens.list in
        let G : Bool → Type 0 = λ t. TriedAfter t 1 in
        let P : Next Bool V → Type 0 = IsItem (F.value ts) G ts in
        let Q : Next Bool V → Type 0 = IsEnd (F.value ts) G ts in
        let R : Next Bool V → Type 0 = IsStepped (F.value ts) G (tried_once (F.ends ts) ts) in
        let first : Here P (Chained part (λ v. Given (Some (More v true)))) (F.ends ts) b = λ p n.
        (let y : Answers P (and_then (λ us. At us) (F.ends ts)) b.tokens.list p.verdict p.end =
        chained-here (F.value ts) P part (λ v. Given (Some (More v true))) (F.ends ts) (λ us. At us) b w (d.reads.here b w) (λ v c z e i. given-here Er P c z (Some (More v true)) (i, tt)) p n in
        subst (λ q. Answers P q b.tokens.list p.verdict p.end) (and_then_some (F.ends ts)) y) in
        let z : Here (λ n. ElseValue (F.ends ts) (P n) (Q n)) (OnceTried mark back safe part false) (or_else (F.ends ts) (At ts)) b =
        or_else-here mark back safe _ _ P Q (F.ends ts) (At ts) b first (λ s. given-here Er Q (record b { state = s }) (record { start = w.start; few = w.few }) (Some End) tt) in
        let y : Answers R (or_else (F.ends ts) (At ts)) b.tokens.list o.verdict o.end =
        weaker-here (λ n. ElseValue (F.ends ts) (P n) (Q n)) R (as_stepped (F.value ts) G ts (F.ends ts))
        (OnceTried mark back safe part false) (or_else (F.ends ts) (At ts)) b z o m in
        subst (λ q. Answers R q b.tokens.list o.verdict o.end) (tried_place ts (F.ends ts)) y

    step_here : (k : ℕ) (tried : Bool) → TriedAfter tried k → (b : Beginning Tok Cx St) → Within b
        → Here
        (IsStepped (F.value (drop b.start b.tokens.list)) (λ t. TriedAfter t (suc k)) (at_most_one F k (drop b.start b.tokens.list)))
        (AtMostOne mark back safe part tried) (place (at_most_one F k (drop b.start b.tokens.list))) b
    step_here zero false g b w = λ o m. first_here b w o m.step
    step_here zero true g b w = absurd g
    step_here (suc k) false g b w = absurd g
    step_here (suc k) true g b w =
        λ o m. given-here Er
        (IsStepped (F.value (drop b.start b.tokens.list)) (λ t. TriedAfter t (suc (suc k))) (At (Over (drop b.start b.tokens.list))))
        b w (Some End) tt o m.step

module _ {Tok V : Type 0} (F : Language Tok V) where
  -- what follows the only item is what may follow the list
  none_more : (rest : List Tok) → GoesOn (OnlyWord F) (λ _ w. w ≡ []) (λ r. F.follow r × DoesNotEnd (F.ends r)) 1 rest → F.follow rest
  none_more rest g = by_items g.is.items g.is.are
    where
      by_items : (items : List (List Tok)) → ListFrom (λ j u (v : List Tok). OnlyWord F j u) (λ _ w. w ≡ []) 1 items g.words → F.follow rest
      by_items [] e = let a : rest ≡ g.rest = g.all ∙ ap (λ w. w ++ g.rest) e in subst F.follow (sym a) g.fits.0
      by_items (v ∷ vs) j = absurd j.is_first

module _ {Tok Cx St Mk Er V : Type 0} (mark : St → Mk) (back : St → Mk → St) {safe spare : Type 0} (still : spare → safe) (part : Meaning Tok Cx St Er V) {F : Language Tok V} where
  once_described : Described part F → F.moves ≡ true → ItemsDescribed (Given {Tok = Tok} {Cx = Cx} {St = St} {Er = Er} (Some false)) (AtMostOne mark back safe part) (at_most_one_language F)
  once_described d m = record {
    start = given-by Er (λ s. TriedAfter s 0) (Some false) tt;
    step = λ k s g b w l. step_here mark back safe part F d k s g b w;
    further = further;
    one = one;
    given = given;
    over = over;
    each = each;
    ends = ends;
    decided = decided;
    never_empty = λ e. absurd (cc e);
  }
    where
      further : (k : ℕ) (ts rest : List Tok) → at_most_one F k ts ≡ At (One rest) → length rest < length ts
      further zero ts rest e = d.further m ts rest (of_one ts rest (F.ends ts) e)
      further (suc k) ts rest e = absurd (cc e)

      one : (k : ℕ) (ts rest : List Tok) → at_most_one F k ts ≡ At (One rest) → Begins (OnlyWord F k) ts rest
      one zero ts rest e = let b = d.only.taken ts rest (of_one ts rest (F.ends ts) e) in record { word = b.word; all = b.all; is = b.is }
      one (suc k) ts rest e = absurd (cc e)

      given : (k : ℕ) (ts rest : List Tok) (v : V) → at_most_one F k ts ≡ At (One rest) → F.value ts v → Begins (λ w. OnlyStands F k w v) ts rest
      given zero ts rest v e i = let b = d.given.given ts rest v (of_one ts rest (F.ends ts) e) i in record { word = b.word; all = b.all; is = b.is }
      given (suc k) ts rest v e i = absurd (cc e)

      over : (k : ℕ) (ts rest : List Tok) → at_most_one F k ts ≡ At (Over rest) → Begins (λ w. w ≡ []) ts rest
      over zero ts rest e = record { word = []; all = of_over ts rest (F.ends ts) e; is = refl }
      over (suc k) ts rest e = let z : ts ≡ rest = cc e in record { word = []; all = z; is = refl }

      each : F.unambiguous → (k : ℕ) (w rest : List Tok) → OnlyWord F k w → GoesOn (OnlyWord F) (λ _ w. w ≡ []) (λ r. F.follow r × DoesNotEnd (F.ends r)) (suc k) rest
          → EndsOrRefused (at_most_one F k (w ++ rest)) (One rest)
      each u zero w rest i g = elim ((d.each u).each w rest i (none_more F rest g)) [ inl e ↦ rw e (inl refl) | inr e ↦ rw e (inr refl) ]
      each u (suc k) w rest i g = absurd i

      ends : F.unambiguous → (k : ℕ) (w rest : List Tok) → w ≡ [] → F.follow rest × DoesNotEnd (F.ends rest) → EndsOrRefused (at_most_one F k (w ++ rest)) (Over rest)
      ends u zero w rest e f = rw e (tried_over rest (F.ends rest) f.1)
      ends u (suc k) w rest e f = rw e (inl refl)

      decided : (k : ℕ) (ts : List Tok) → IsBelow F.refused_from (length ts) → at_most_one F k ts ≡ Refused → ⊥
      decided zero ts i e = d.decided ts i (of_refused ts (F.ends ts) e)
      decided (suc k) ts i e = absurd (cc e)

  -- `part.or_not()` as items, where a mark and going back take no memory if errors and states don't
  pub at_most_one-accepts : Accepts part F spare → AcceptsItems (Given (Some false)) (AtMostOne mark back safe part) (at_most_one_language F) spare
  at_most_one-accepts h = record {
    described = λ e. let t = both-true F.said F.moves e in once_described (h.described t.0) t.1;
    moving = λ e. absurd (cc e);
    sparing = λ q t. record { begin = given-spares (Some false); step = λ s b o m. once_spares mark back safe part (still q) (h.sparing q t) s b o m.step };
  }
