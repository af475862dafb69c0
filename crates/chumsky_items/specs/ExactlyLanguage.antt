-- The language of just so many items, collected: as many words of items, before what may go on with the list.
-- Main words: exact_items. Main law: exactly-accepts. Read first: ListLanguage.antt, Exactly.antt.
use Rattle.std.proofs.Common.{
  ◌≡◌,
  ℕ,
  zero,
  suc,
  ◌+◌,
  ◌-◌,
  ◌^◌,
  ◌≤◌,
  ◌<◌,
  nat_le,
  nat_lt,
  Bool,
  true,
  false,
  ◌&&◌,
  cond,
  Option,
  Some,
  None,
  List,
  [],
  ◌∷◌,
  ◌++◌,
  length,
  drop,
  refl,
  sym,
  ◌∙◌,
  ap,
  subst,
  arith,
  append_assoc,
  inl,
  inr,
}
use Rattle.std.specs.Prelude.{⊤}
use Rattle.std.proofs.lemmas.List.{length-drop}
use Rattle.std.proofs.lemmas.Bool.Decides.{nat_tests}
use Rattle.chumsky_input.specs.Outcome.{Meaning, Beginning}
use Rattle.chumsky_parser.specs.Chained.{Asked}
use Rattle.chumsky_parser.specs.Failure.{SaysNo, wanting}
use Rattle.chumsky_parser.specs.Items.{Next, More, End, AfterStep}
use Rattle.chumsky_parser.specs.Ending.{Ending, At, Nowhere, Refused, Within, IfValue, Answers, Here, Reads, and_then, EndsOrRefused}
use Rattle.chumsky_parser.specs.EndingLaws.{chained-here, given-here, asked-here, wanting_value}
use Rattle.chumsky_parser.specs.Language.{Accepts, Begins}
use Rattle.chumsky_parser.specs.Memory.{NeverOutOfMemory}
use Rattle.chumsky_parser.specs.MemoryLaws.{given-spares, no-spares, asked-spares, chained-spares}
use Rattle.chumsky_parser.specs.ItemsLanguage.{Stepped, One, Over, place, IsStepped, stepped_on, list_until, list_ends, GivesFrom, ListFrom, GoesOn, ItemsLanguage, ItemsDescribed, AcceptsItems}
use Rattle.chumsky_parser.specs.ProgressLaws.{both-true}
use Rattle.chumsky_parser.specs.ItemsWords.{list-only, list-further, list-given, list-each, list-decided}
use Rattle.chumsky_items.specs.Consumers.{Collected}
use Rattle.chumsky_items.specs.Exactly.{and_one, JustSo, JustSoMade, CollectsExactly}
use Rattle.chumsky_items.specs.ItemsMove.{exactly-moves}
use Rattle.chumsky_items.specs.ListLanguage.{Holding, collected_language, Before, one_before, collection_holds}

-- a step that has to have an item
abbrev pub only_one : {Tok : Type 0} → Ending (Stepped Tok) → Ending (Stepped Tok)
only_one (At (One rest)) = At (One rest)
only_one (At (Over rest)) = Nowhere
only_one Nowhere = Nowhere
only_one Refused = Refused

abbrev pub exact_next : {Tok : Type 0} → (ℕ → List Tok → Ending (Stepped Tok)) → ℕ → ℕ → List Tok → Ending (Stepped Tok)
exact_next next n k ts = cond (nat_le n k) (At (Over ts)) (only_one (next k ts))

-- the first so many items; the rest of a list may follow
abbrev pub exact_items : {Tok S V : Type 0} → ItemsLanguage Tok S V → ℕ → ItemsLanguage Tok S V
exact_items l n = record {
  said = l.said;
  has_given = l.has_given;
  next = exact_next l.next n;
  value = l.value;
  word = λ k w. (k < n) × l.word k w;
  stands_for = λ k w v. (k < n) × l.stands_for k w v;
  last = λ k w. (n ≤ k) × (w ≡ []);
  follow = GoesOn l.word l.last l.follow n;
  unambiguous = l.unambiguous;
  refused_from = l.refused_from;
  moves = nat_lt 0 n && l.moves;
  takes_no_memory = l.takes_no_memory;
}

below : (n k : ℕ) → nat_le n k ≡ false → k < n
below n k e = grind (arith, nat_tests)

is_below : (n k : ℕ) → k < n → nat_le n k ≡ false
is_below n k l = grind (arith, nat_tests)

enough : (n k : ℕ) → nat_le n k ≡ true → n ≤ k
enough n k e = grind (arith, nat_tests)

none_wanted : (n : ℕ) → nat_lt 0 n ≡ true → nat_le n 0 ≡ true → ⊥
none_wanted n l m = grind (arith, nat_tests)

is_enough : (n k : ℕ) → n ≤ k → nat_le n k ≡ true
is_enough n k l = grind (arith, nat_tests)

module _ {Tok : Type 0} where
  exact_one : (c : Bool) (x : Ending (Stepped Tok)) (ts rest : List Tok) → cond c (At (Over ts)) (only_one x) ≡ At (One rest) → (c ≡ false) × (x ≡ At (One rest))
  exact_one true x ts rest e = absurd (cc e)
  exact_one false (At (One r)) ts rest e = (refl, e)
  exact_one false (At (Over r)) ts rest e = absurd (cc e)
  exact_one false Nowhere ts rest e = absurd (cc e)
  exact_one false Refused ts rest e = absurd (cc e)

  exact_over : (c : Bool) (x : Ending (Stepped Tok)) (ts rest : List Tok) → cond c (At (Over ts)) (only_one x) ≡ At (Over rest) → (c ≡ true) × (ts ≡ rest)
  exact_over true x ts rest e = (refl, cc e)
  exact_over false (At (One r)) ts rest e = absurd (cc e)
  exact_over false (At (Over r)) ts rest e = absurd (cc e)
  exact_over false Nowhere ts rest e = absurd (cc e)
  exact_over false Refused ts rest e = absurd (cc e)

  exact_refused : (c : Bool) (x : Ending (Stepped Tok)) (ts : List Tok) → (x ≡ Refused → ⊥) → cond c (At (Over ts)) (only_one x) ≡ Refused → ⊥
  exact_refused true x ts h e = cc e
  exact_refused false (At (One r)) ts h e = cc e
  exact_refused false (At (Over r)) ts h e = cc e
  exact_refused false Nowhere ts h e = cc e
  exact_refused false Refused ts h e = h refl

  -- an item before the rest of a list
  goes_on_by : (word last : ℕ → List Tok → Type 0) (follow : List Tok → Type 0) (k : ℕ) (u ts : List Tok) → word k u → GoesOn word last follow (suc k) ts → GoesOn word last follow k (u ++ ts)
  goes_on_by word last follow k u ts i g = record {
    words = u ++ g.words;
    rest = g.rest;
    all = ap (λ z. u ++ z) g.all ∙ sym (append_assoc u g.words g.rest);
    is = record { items = [] ∷ g.is.items; are = record { first = u; second = g.words; all = refl; is_first = i; is_second = g.is.are } };
    fits = g.fits;
  }

module _ {Tok Cx St Er S V C : Type 0} (gives : S → Meaning Tok Cx St Er (Next S V)) (holds : List V → C → Type 0) (begins : Meaning Tok Cx St Er S) (n : ℕ) (l : ItemsLanguage Tok S V) where
  abbrev Exact : ItemsLanguage Tok S V
  Exact = exact_items l n

  further : ItemsDescribed begins gives l → (k : ℕ) (ts rest : List Tok) → Exact.next k ts ≡ At (One rest) → length rest < length ts
  further d k ts rest e = d.further k ts rest (exact_one (nat_le n k) (l.next k ts) ts rest e).1

  one : ItemsDescribed begins gives l → (k : ℕ) (ts rest : List Tok) → Exact.next k ts ≡ At (One rest) → Begins (Exact.word k) ts rest
  one d k ts rest e = let i = exact_one (nat_le n k) (l.next k ts) ts rest e in let b = d.one k ts rest i.1 in record { word = b.word; all = b.all; is = (below n k i.0, b.is) }

  given : ItemsDescribed begins gives l → (k : ℕ) (ts rest : List Tok) (v : V) → Exact.next k ts ≡ At (One rest) → l.value k ts v → Begins (λ w. Exact.stands_for k w v) ts rest
  given d k ts rest v e j = let i = exact_one (nat_le n k) (l.next k ts) ts rest e in let b = d.given k ts rest v i.1 j in record { word = b.word; all = b.all; is = (below n k i.0, b.is) }

  over : (k : ℕ) (ts rest : List Tok) → Exact.next k ts ≡ At (Over rest) → Begins (Exact.last k) ts rest
  over k ts rest e = let i = exact_over (nat_le n k) (l.next k ts) ts rest e in record { word = []; all = i.1; is = (enough n k i.0, refl) }

  never_empty : nat_lt 0 n ≡ true → (ts rest : List Tok) → Exact.next 0 ts ≡ At (Over rest) → ⊥
  never_empty z ts rest e = let i = exact_over (nat_le n 0) (l.next 0 ts) ts rest e in none_wanted n z i.0

  goes_on : (k : ℕ) (items : List (List Tok)) (w rest : List Tok) → k ≤ n
      → ListFrom (λ j u (v : List Tok). Exact.word j u) Exact.last k items w → GoesOn l.word l.last l.follow n rest
      → GoesOn l.word l.last l.follow k (w ++ rest)
  goes_on k [] w rest m i g =
      let same : n ≡ k = let a : n ≤ k = i.0 in omega (arith, a, m) in
      let e : w ≡ [] = i.1 in
      rw e (subst (λ j. GoesOn l.word l.last l.follow j rest) same g)
  goes_on k (v ∷ vs) w rest m i g =
      let a : k < n = i.is_first.0 in
      let c = goes_on_by l.word l.last l.follow k i.first (i.second ++ rest) i.is_first.1 (goes_on (suc k) vs i.second rest (omega (arith, a)) i.is_second g) in
      let e : i.first ++ (i.second ++ rest) ≡ w ++ rest = sym (append_assoc i.first i.second rest) ∙ ap (λ u. u ++ rest) (sym i.all) in
      subst (GoesOn l.word l.last l.follow k) e c

  each : ItemsDescribed begins gives l → l.unambiguous → (k : ℕ) (w rest : List Tok) → Exact.word k w
      → GoesOn Exact.word Exact.last Exact.follow (suc k) rest → EndsOrRefused (Exact.next k (w ++ rest)) (One rest)
  each d u k w rest i g =
      let a : k < n = i.0 in
      let c : GoesOn l.word l.last l.follow (suc k) rest = subst (GoesOn l.word l.last l.follow (suc k)) (sym g.all) (goes_on (suc k) g.is.items g.words g.rest (omega (arith, a)) g.is.are g.fits) in
      let b : nat_le n k ≡ false = is_below n k a in
      rw b (elim (d.each u k w rest i.1 c) [ inl e ↦ rw e (inl refl) | inr e ↦ rw e (inr refl) ])

  ends : (k : ℕ) (w rest : List Tok) → Exact.last k w → Exact.follow rest → EndsOrRefused (Exact.next k (w ++ rest)) (Over rest)
  ends k w rest i g = let e : w ≡ [] = i.1 in let b : nat_le n k ≡ true = is_enough n k i.0 in rw (b, e) (inl refl)

  -- what follows a step that has to have an item
  abbrev goes : (List Tok → Ending (List Tok)) → Ending (Stepped Tok) → List Tok → Ending (List Tok)
  goes more (At (One rest)) ts = more ts
  goes more (At (Over rest)) ts = Nowhere
  goes more Nowhere ts = Nowhere
  goes more Refused ts = Refused

  and_goes : (more : List Tok → Ending (List Tok)) (t : Ending (Stepped Tok)) → and_then (goes more t) (place t) ≡ stepped_on more (only_one t)
  and_goes more (At (One rest)) = refl
  and_goes more (At (Over rest)) = refl
  and_goes more Nowhere = refl
  and_goes more Refused = refl

  module _ (d : ItemsDescribed begins gives l) (all : List Tok) where
    abbrev Q : C → Type 0
    Q = Holding (GivesFrom Exact.next l.value 0) holds all

    abbrev Made : ℕ → List Tok → Option (List V) → Type 0
    Made k ts x = IfValue (Before gives begins Exact holds ⊤ all k ts) x

    one_made : (k : ℕ) (ts rest : List Tok) (x : Option (List V)) (v : Option V) → Exact.next k ts ≡ At (One rest) → Made k ts x → IfValue (l.value k ts) v → Made (suc k) rest (and_one x v)
    one_made k ts rest (Some xs) (Some v) e i j = one_before gives begins Exact holds ⊤ all k ts rest xs v e i j
    one_made k ts rest (Some xs) None e i j = tt
    one_made k ts rest None v e i j = tt

    stops_there : (m k : ℕ) (ts : List Tok) → nat_le n k ≡ true → list_until Exact.next m k ts ≡ At ts
    stops_there zero k ts c = rw c refl
    stops_there (suc m) k ts c = rw c refl

    enough_here : (m k : ℕ) → n ≤ k → (x : Option (List V)) (b : Beginning Tok Cx St) → Within b
        → Made k (drop b.start b.tokens.list) x
        → Here Q {Er = Er} (Collected holds x) (list_until Exact.next m k (drop b.start b.tokens.list)) b
    enough_here m k z x b w i o p =
        let ts : List Tok = drop b.start b.tokens.list in
        let c : nat_le n k ≡ true = is_enough n k z in
        let e : Exact.next k ts ≡ At (Over ts) = rw c refl in
        let u : Answers Q (At ts) b.tokens.list o.verdict o.end = given-here Er Q b w p.value (collection_holds gives begins Exact holds ⊤ all k ts ts e x p.value i p.is) o p.given in
        subst (λ q. Answers Q q b.tokens.list o.verdict o.end) (sym (stops_there m k ts c)) u

    -- a step that has to have an item, where it is known what follows it
    step_here : (left k : ℕ) (s : S) → l.has_given s k → (x : Option (List V)) (b : Beginning Tok Cx St) → Within b
        → k + length (drop b.start b.tokens.list) < 2 ^ 64 → nat_le n k ≡ false
        → (more : List Tok → Ending (List Tok))
        →
        ((rest : List Tok) → l.next k (drop b.start b.tokens.list) ≡ At (One rest) → (v : Option V) (t : S) → IfValue (l.value k (drop b.start b.tokens.list)) v → l.has_given t (suc k) → (c : Beginning Tok Cx St) → Within c → rest ≡ drop c.start c.tokens.list
        → Here Q (JustSo gives holds left (and_one x v) t) (more (drop c.start c.tokens.list)) c)
        → Here Q (JustSo gives holds (suc left) x s) (stepped_on more (Exact.next k (drop b.start b.tokens.list))) b
    step_here left k s g x b w f c more next o p =
        let ts : List Tok = drop b.start b.tokens.list in
        let z : Answers Q (and_then (goes more (l.next k ts)) (place (l.next k ts))) b.tokens.list o.verdict o.end =
        chained-here (IsStepped (l.value k ts) (λ t. l.has_given t (suc k)) (l.next k ts)) Q (gives s)
        (AfterStep (λ v t. JustSo gives holds left (and_one x v) t) SaysNo) (place (l.next k ts))
        (goes more (l.next k ts)) b w (d.step k s g b w f)
        (λ v q y e j. follow ts (l.next k ts) refl next v q y e j) o p in
        let u : stepped_on more (only_one (l.next k ts)) ≡ stepped_on more (Exact.next k ts) = rw c refl in
        subst (λ q. Answers Q q b.tokens.list o.verdict o.end) (and_goes more (l.next k ts) ∙ u) z
      where
        follow : (ts : List Tok) (t : Ending (Stepped Tok)) → l.next k ts ≡ t
            →
            ((rest : List Tok) → l.next k ts ≡ At (One rest) → (v : Option V) (t : S) → IfValue (l.value k ts) v
            → l.has_given t (suc k) → (c : Beginning Tok Cx St) → Within c → rest ≡ drop c.start c.tokens.list
            → Here Q (JustSo gives holds left (and_one x v) t) (more (drop c.start c.tokens.list)) c)
            → (v : Option (Next S V)) (c : Beginning Tok Cx St) → Within c → place t ≡ At (drop c.start c.tokens.list) → IfValue (IsStepped (l.value k ts) (λ t. l.has_given t (suc k)) t) v
            → Here Q (AfterStep (λ v t. JustSo gives holds left (and_one x v) t) SaysNo v) (goes more t (drop c.start c.tokens.list)) c
        follow ts (At (One rest)) a next (Some (More v t)) c y e j = next rest a v t j.0 j.1 c y (cc e)
        follow ts (At (One rest)) a next (Some End) c y e j = absurd j
        follow ts (At (Over rest)) a next (Some (More v t)) c y e j = absurd j
        follow ts (At (Over rest)) a next (Some End) c y e j = λ o m. rw m refl
        follow ts Nowhere a next (Some n) c y e j = absurd j
        follow ts Refused a next (Some n) c y e j = absurd j
        follow ts t a next None c y e j = λ o m. absurd m

    none_left : (k : ℕ) (ts rest : List Tok) (P : Type 0) → l.next k ts ≡ At (One rest) → length ts ≤ 0 → P
    none_left k ts rest P e r = let h : length rest < length ts = d.further k ts rest e in absurd (omega (arith, h, r))

    just_so : (left m k : ℕ) → k + left ≡ n → (s : S) → l.has_given s k
        → (x : Option (List V)) (b : Beginning Tok Cx St) → Within b → Made k (drop b.start b.tokens.list) x
        → k + length (drop b.start b.tokens.list) < 2 ^ 64
        → length (drop b.start b.tokens.list) ≤ m → Here Q (JustSo gives holds left x s) (list_until Exact.next m k (drop b.start b.tokens.list)) b
    just_so zero m k z s g x b w i f r = enough_here m k (omega (arith, z)) x b w i
    just_so (suc left) zero k z s g x b w i f r = step_here left k s g x b w f (is_below n k (omega (arith, z))) _ (λ rest e v t j h c y q. none_left k _ rest _ e r)
    just_so (suc left) (suc m) k z s g x b w i f r =
        let c : nat_le n k ≡ false = is_below n k (omega (arith, z)) in
        step_here left k s g x b w f c _ (λ rest e v t j h q y a.
        let p : length rest < length (drop b.start b.tokens.list) = d.further k (drop b.start b.tokens.list) rest e in
        let len : length rest ≡ length (drop q.start q.tokens.list) = ap length a in
        let u : Exact.next k (drop b.start b.tokens.list) ≡ At (One rest) = rw (c, e) refl in
        let v' : Made (suc k) (drop q.start q.tokens.list) (and_one x v) = subst (λ us. Made (suc k) us (and_one x v)) a (one_made k (drop b.start b.tokens.list) rest x v u i j) in
        just_so left m (suc k) (omega (arith, z)) t h (and_one x v) q y v' (omega (arith, f, p, len)) (omega (arith, r, p, len)))

    made_here : (s : Option S) (b : Beginning Tok Cx St) → Within b → all ≡ drop b.start b.tokens.list
        → IfValue (λ s. l.has_given s 0) s → (x : Option (List V)) → Made 0 (drop b.start b.tokens.list) x
        → length (drop b.start b.tokens.list) < 2 ^ 64
        → Here Q (JustSoMade gives holds n x s) (list_ends Exact.next (drop b.start b.tokens.list)) b
    made_here None b w e g x i f = λ o m. absurd m
    made_here (Some s) b w e g x i f = just_so n (length (drop b.start b.tokens.list)) 0 (omega arith) s g x b w i (omega (arith, f)) (omega arith)

  exactly-reads : ItemsDescribed begins gives l → Reads (CollectsExactly gives holds begins n) (list_ends Exact.next) (Holding (GivesFrom Exact.next l.value 0) holds)
  exactly-reads d = record {
    here = λ b w o m.
        let ts : List Tok = drop b.start b.tokens.list in
        chained-here (λ s. l.has_given s 0) (Q d ts) (Asked true begins) (JustSoMade gives holds n (wanting b.wanted [])) (At ts) (list_ends Exact.next) b w
        (asked-here (λ s. l.has_given s 0) b true begins (At ts) (d.start.here (record b { wanted = true }) (record { start = w.start; few = w.few })))
        (λ s c y e g.
        let same : ts ≡ drop c.start c.tokens.list = cc e in
        let first : IfValue (Before gives begins Exact holds ⊤ ts 0 ts) (wanting b.wanted []) = wanting_value (Before gives begins Exact holds ⊤ ts 0 ts) [] (λ vs i. i) b.wanted in
        let ln : length (drop c.start c.tokens.list) ≡ length c.tokens.list - c.start = length-drop c.start c.tokens.list in
        made_here d ts s c y same g (wanting b.wanted []) (subst (λ us. IfValue (Before gives begins Exact holds ⊤ ts 0 us) (wanting b.wanted [])) same first) (omega (arith, ln, y.few)))
        o m.run;
  }

  after-spares : (on : Option V → S → Meaning Tok Cx St Er C) → ((v : Option V) (s : S) → NeverOutOfMemory (on v s)) → (x : Option (Next S V)) → NeverOutOfMemory (AfterStep on SaysNo x)
  after-spares on h (Some (More v s)) = h v s
  after-spares on h (Some End) = no-spares
  after-spares on h None = λ b o m. absurd m

  just_so-spares : ((s : S) → NeverOutOfMemory (gives s)) → (left : ℕ) (x : Option (List V)) (s : S) → NeverOutOfMemory (JustSo gives holds left x s)
  just_so-spares h zero x s = λ b o m. given-spares m.value b o m.given
  just_so-spares h (suc left) x s = chained-spares (gives s) _ (h s) (after-spares (λ v t. JustSo gives holds left (and_one x v) t) (λ v t. just_so-spares h left (and_one x v) t))

  made-spares : ((s : S) → NeverOutOfMemory (gives s)) → (x : Option (List V)) (s : Option S) → NeverOutOfMemory (JustSoMade gives holds n x s)
  made-spares h x (Some s) = just_so-spares h n x s
  made-spares h x None = λ b o m. absurd m

  -- `collect_exactly`
  pub exactly-accepts : {spare : Type 0} → AcceptsItems begins gives l spare → Accepts (CollectsExactly gives holds begins n) (collected_language Exact holds ⊤) spare
  exactly-accepts h = record {
    described = λ s.
        let d = h.described s in
        record {
          reads = exactly-reads d;
          only = list-only Exact.next Exact.word Exact.last (one d) over;
          given = record {
            given = λ ts rest c e i.
                let b = list-given Exact.next l.value Exact.stands_for Exact.last (given d) over ts rest i.items e i.is in
                record { word = b.word; all = b.all; is = record { items = i.items; is = b.is; held = i.held } };
          };
          each = λ u. list-each Exact.next (further d) Exact.word Exact.last Exact.follow (each d u) ends;
          decided = list-decided Exact.next (further d) l.refused_from (λ k ts i e. exact_refused (nat_le n k) (l.next k ts) ts (d.decided k ts i) e);
          further = λ e. let t = both-true (nat_lt 0 n) l.moves e in list-further Exact.next Exact.word Exact.last (one d) over (further d) (never_empty t.0);
        };
    moving = λ e. let t = both-true (nat_lt 0 n) l.moves e in let p = h.moving t.1 in exactly-moves gives holds p.0.step begins n t.0 p.0.begin p.1;
    sparing = λ q t b o m. chained-spares (Asked true begins) _ (asked-spares true begins (h.sparing q t.0).begin) (made-spares (h.sparing q t.0).step (wanting b.wanted [])) b o m.run;
  }
