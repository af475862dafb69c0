-- The language of what is made of the items of a list: their collection, their number, or nothing.
-- Main words: list_language, collected_language, counted_language, plain_language. Laws: collects-accepts, counts-accepts, plain-accepts. Read first: ItemsLanguage.antt of the parsers, Consumers.antt.
use Rattle.std.proofs.Common.{◌≡◌, ℕ, suc, ◌+◌, ◌^◌, ◌<◌, false, Option, Some, None, List, [], ◌∷◌, ◌++◌, length, drop, sym, ◌∙◌, subst, arith, append_assoc, inl, inr}
use Rattle.std.specs.Prelude.{⊤, option_map}
use Rattle.std.proofs.lemmas.List.{append-nil}
use Rattle.chumsky_input.specs.Outcome.{Meaning, Beginning}
use Rattle.chumsky_parser.specs.Chained.{Given, Asked}
use Rattle.chumsky_parser.specs.Ignoring.{Gives, IgnoringFirst}
use Rattle.chumsky_parser.specs.IgnoringLaws.{gives-ends}
use Rattle.chumsky_parser.specs.Items.{Next, More, End, ItemsEnd}
use Rattle.chumsky_parser.specs.Ending.{Ending, At, Nowhere, Refused, Within, IfValue, Here, Reads}
use Rattle.chumsky_parser.specs.EndingLaws.{given-here, asked-here, weaker-here, refuses-by, gives-by, then_given-by}
use Rattle.chumsky_parser.specs.Language.{Language, Accepts, GivesOnly}
use Rattle.chumsky_parser.specs.Memory.{NeverOutOfMemory}
use Rattle.chumsky_parser.specs.MemoryLaws.{given-spares, gives-spares, ignoring_first-spares}
use Rattle.chumsky_parser.specs.ItemsLanguage.{Stepped, One, Over, place, IsStepped, list_ends, OfOne, IsOver, GivesFrom, ListFrom, IsListFrom, ItemsLanguage, ItemsDescribed, AcceptsItems}
use Rattle.chumsky_parser.specs.ItemsEndings.{items-here}
use Rattle.chumsky_parser.specs.Progress.{Moves, ItemsMove}
use Rattle.chumsky_parser.specs.ProgressLaws.{asked-moves, chained-first}
use Rattle.chumsky_parser.specs.ItemsWords.{list-only, list-further, list-given, list-each, list-decided}
use Rattle.chumsky_items.specs.Consumers.{Skips, CountsUp, Appends, HoldsAll, Collected, Passes, Counts, Collects}
use Rattle.chumsky_items.specs.ItemsMove.{passes-move, counts-move, collects-move}
use Rattle.chumsky_items.specs.ItemsSpare.{items-spare, passes-spare, counts-spare}

-- something that holds items which are so
pub record Holding {Tok V C : Type 0} (are : List V → List Tok → Type 0) (holds : List V → C → Type 0) (ts : List Tok) (c : C) : Type 0 where
  pub items : List V
  pub is : are items ts
  pub held : holds items c

-- the words of a list, with these values
abbrev pub list_language : {Tok S V C : Type 0} → ItemsLanguage Tok S V → (List Tok → C → Type 0) → (List Tok → C → Type 0) → Type 0 → Language Tok C
list_language l value stands_for quiet = record {
  said = l.said;
  ends = list_ends l.next;
  value = value;
  word = IsListFrom l.word l.last 0;
  stands_for = stands_for;
  follow = l.follow;
  unambiguous = l.unambiguous;
  refused_from = l.refused_from;
  moves = l.moves;
  takes_no_memory = l.takes_no_memory × quiet;
}

-- a collection that holds the items
abbrev pub collected_language : {Tok S V C : Type 0} → ItemsLanguage Tok S V → (List V → C → Type 0) → Type 0 → Language Tok C
collected_language l holds quiet = list_language l (Holding (GivesFrom l.next l.value 0) holds) (Holding (ListFrom l.stands_for l.last 0) holds) quiet

-- an item of which nothing is said
abbrev pub AnyItem : {Tok : Type 0} → ℕ → List Tok → Unit {0} → Type 0
AnyItem k ts v = ⊤

abbrev pub IsNumberOf : List (Unit {0}) → ℕ → Type 0
IsNumberOf items n = length items ≡ n

-- their number
abbrev pub counted_language : {Tok S V : Type 0} → ItemsLanguage Tok S V → Language Tok ℕ
counted_language l = list_language l (Holding (GivesFrom l.next AnyItem 0) IsNumberOf) (Holding (ListFrom (λ k w v. l.word k w) l.last 0) IsNumberOf) ⊤

-- and nothing of them
abbrev pub plain_language : {Tok S V W : Type 0} → ItemsLanguage Tok S V → Language Tok W
plain_language l = list_language l (λ ts v. ⊤) (λ w v. IsListFrom l.word l.last 0 w) ⊤

ones : {Tok : Type 0} (x : Ending (Stepped Tok)) (rest : List Tok) (P : List Tok → Type 0) → x ≡ At (One rest) → P rest → OfOne x P
ones x rest P e p = rw e p

overs : {Tok : Type 0} (x : Ending (Stepped Tok)) (rest : List Tok) → x ≡ At (Over rest) → IsOver x
overs x rest e = rw e tt

module _ {Tok Cx St Er S V : Type 0} (gives : S → Meaning Tok Cx St Er (Next S V)) (begins : Meaning Tok Cx St Er S) (l : ItemsLanguage Tok S V) where
  -- what is made of the items, where it reads so, and is given so
  listed : {C : Type 0} (m : Meaning Tok Cx St Er C) (value stands_for : List Tok → C → Type 0) (quiet : Type 0) {spare : Type 0} → AcceptsItems begins gives l spare
      → (ItemsDescribed begins gives l → Reads m (list_ends l.next) value)
      → (ItemsDescribed begins gives l → GivesOnly (list_ends l.next) value stands_for)
      → (spare → l.takes_no_memory × quiet → NeverOutOfMemory m)
      → (ItemsEnd begins gives → ItemsMove begins gives → Moves m) → Accepts m (list_language l value stands_for quiet) spare
  listed m value stands_for quiet h reads given spares moves = record {
    described = λ s.
        let d = h.described s in
        record {
          reads = reads d;
          only = list-only l.next l.word l.last d.one d.over;
          given = given d;
          each = λ u. list-each l.next d.further l.word l.last l.follow (d.each u) (d.ends u);
          decided = list-decided l.next d.further l.refused_from d.decided;
          further = λ e. list-further l.next l.word l.last d.one d.over d.further (d.never_empty e);
        };
    moving = λ e. let p = h.moving e in moves p.0 p.1;
    sparing = spares;
  }

  -- `collect`
  module _ {C : Type 0} (holds : List V → C → Type 0) (quiet : Type 0) where
    -- these items, and then those that follow, are given from the first place
    abbrev pub Before : List Tok → ℕ → List Tok → List V → Type 0
    Before all k ts xs = (vs : List V) → GivesFrom l.next l.value k vs ts → GivesFrom l.next l.value 0 (xs ++ vs) all

    pub one_before : (all : List Tok) (k : ℕ) (ts rest : List Tok) (xs : List V) (v : V) → l.next k ts ≡ At (One rest) → Before all k ts xs → l.value k ts v → Before all (suc k) rest (xs ++ v ∷ [])
    one_before all k ts rest xs v e i j vs g =
        subst (λ z. GivesFrom l.next l.value 0 z all) (sym (append_assoc xs (v ∷ []) vs)) (i (v ∷ vs) (ones (l.next k ts) rest (λ r. l.value k ts v × GivesFrom l.next l.value (suc k) vs r) e (j, g)))

    appends_here : (all : List Tok) (k : ℕ) (ts rest : List Tok) → l.next k ts ≡ At (One rest) → (x : Option (List V)) (v : Option V) → IfValue (Before all k ts) x → IfValue (l.value k ts) v
        → (c : Beginning Tok Cx St) → Within c → Here (Before all (suc k) rest) {Er = Er} (Appends quiet x v) (At (drop c.start c.tokens.list)) c
    appends_here all k ts rest e (Some xs) (Some v) i j c y = λ o m. elim m [
      | inl r ↦ refuses-by (Before all (suc k) rest) _ c.tokens.list o r
      | inr g ↦ given-here Er (Before all (suc k) rest) c y (Some (xs ++ v ∷ [])) (one_before all k ts rest xs v e i j) o g
    ]
    appends_here all k ts rest e (Some xs) None i j c y = given-here Er (Before all (suc k) rest) c y None tt
    appends_here all k ts rest e None v i j c y = given-here Er (Before all (suc k) rest) c y None tt

    pub collection_holds : (all : List Tok) (k : ℕ) (ts rest : List Tok) → l.next k ts ≡ At (Over rest)
        → (x : Option (List V)) (c : Option C) → IfValue (Before all k ts) x → HoldsAll holds x c
        → IfValue (Holding (GivesFrom l.next l.value 0) holds all) c
    collection_holds all k ts rest e (Some xs) (Some c) i h =
        let g : GivesFrom l.next l.value 0 (xs ++ []) all = i [] (overs (l.next k ts) rest e) in
        record { items = xs; is = subst (λ z. GivesFrom l.next l.value 0 z all) (append-nil xs) g; held = h }
    collection_holds all k ts rest e (Some xs) None i h = absurd h
    collection_holds all k ts rest e None (Some c) i h = absurd h
    collection_holds all k ts rest e None None i h = tt

    collects-reads : ItemsDescribed begins gives l → Reads (Collects gives begins holds quiet) (list_ends l.next) (Holding (GivesFrom l.next l.value 0) holds)
    collects-reads d = record {
      here = λ b w.
          let all : List Tok = drop b.start b.tokens.list in
          items-here gives (Appends quiet) (Collected holds) l.has_given l.next l.value d.further d.step (Before all) (Holding (GivesFrom l.next l.value 0) holds all) (appends_here all)
          (λ k ts rest e x i c y o m. given-here Er (Holding (GivesFrom l.next l.value 0) holds all) c y m.value (collection_holds all k ts rest e x m.value i m.is) o m.given)
          begins d.start [] b w (λ vs g. g);
    }

    appends-spare : quiet → (x : Option (List V)) (v : Option V) → NeverOutOfMemory (Appends {Tok = Tok} {Cx = Cx} {St = St} {Er = Er} quiet x v)
    appends-spare q (Some xs) (Some v) = λ b o m. elim m [ inl r ↦ absurd (r.0 q) | inr g ↦ given-spares (Some (xs ++ v ∷ [])) b o g ]
    appends-spare q (Some xs) None = given-spares None
    appends-spare q None v = given-spares None

    pub collects-accepts : {spare : Type 0} → AcceptsItems begins gives l spare → Accepts (Collects gives begins holds quiet) (collected_language l holds quiet) spare
    collects-accepts h =
        listed (Collects gives begins holds quiet) (Holding (GivesFrom l.next l.value 0) holds) (Holding (ListFrom l.stands_for l.last 0) holds) quiet h collects-reads
        (λ d. record { given = λ ts rest c e i. let b = list-given l.next l.value l.stands_for l.last d.given d.over ts rest i.items e i.is in record { word = b.word; all = b.all; is = record { items = i.items; is = b.is; held = i.held } } })
        (λ q t. let n = h.sparing q t.0 in items-spare gives (Appends quiet) (Collected holds) n.step (appends-spare t.1) (λ a b o m. given-spares m.value b o m.given) begins [] n.begin)
        (λ e m. collects-move gives begins e m holds quiet)

  -- `count`
  abbrev CountBefore : List Tok → ℕ → List Tok → ℕ → Type 0
  CountBefore all k ts n = (us : List (Unit {0})) → GivesFrom l.next AnyItem k us ts → Holding (GivesFrom l.next AnyItem 0) IsNumberOf all (n + length us)

  one_counted : (all : List Tok) (k : ℕ) (ts rest : List Tok) → l.next k ts ≡ At (One rest) → (x : Option ℕ)
      → IfValue (CountBefore all k ts) x → IfValue (CountBefore all (suc k) rest) (option_map (λ n. n + 1) x)
  one_counted all k ts rest e None i = tt
  one_counted all k ts rest e (Some n) i = λ us g.
      let h = i (tt ∷ us) (ones (l.next k ts) rest (λ r. ⊤ × GivesFrom l.next AnyItem (suc k) us r) e (tt, g)) in
      let z : n + suc (length us) ≡ (n + 1) + length us = omega arith in
      record { items = h.items; is = h.is; held = h.held ∙ z }

  all_counted : (all : List Tok) (k : ℕ) (ts rest : List Tok) → l.next k ts ≡ At (Over rest) → (x : Option ℕ)
      → IfValue (CountBefore all k ts) x → IfValue (Holding (GivesFrom l.next AnyItem 0) IsNumberOf all) x
  all_counted all k ts rest e None i = tt
  all_counted all k ts rest e (Some n) i =
      let h = i [] (overs (l.next k ts) rest e) in
      let z : n + 0 ≡ n = omega arith in
      record { items = h.items; is = h.is; held = h.held ∙ z }

  any_item : (P : V → Type 0) (Q : S → Type 0) (x : Ending (Stepped Tok)) (n : Next S V) → IsStepped P Q x n → IsStepped (λ v. ⊤) Q x n
  any_item P Q (At (One rest)) (More (Some v) s) i = (tt, i.1)
  any_item P Q (At (One rest)) (More None s) i = (tt, i.1)
  any_item P Q (At (One rest)) End i = absurd i
  any_item P Q (At (Over rest)) n i = i
  any_item P Q Nowhere n i = absurd i
  any_item P Q Refused n i = absurd i

  any_step : ItemsDescribed begins gives l → (k : ℕ) (s : S) → l.has_given s k → (b : Beginning Tok Cx St) → Within b → k + length (drop b.start b.tokens.list) < 2 ^ 64
      → Here (IsStepped (λ (v : V). ⊤) (λ t. l.has_given t (suc k)) (l.next k (drop b.start b.tokens.list))) (gives s) (place (l.next k (drop b.start b.tokens.list))) b
  any_step d k s g b w f =
      let ts : List Tok = drop b.start b.tokens.list in
      weaker-here _ _ (λ n i. any_item (l.value k ts) (λ t. l.has_given t (suc k)) (l.next k ts) n i) (gives s) (place (l.next k ts)) b (d.step k s g b w f)

  counts-reads : ItemsDescribed begins gives l → Reads (Counts gives begins) (list_ends l.next) (Holding (GivesFrom l.next AnyItem 0) IsNumberOf)
  counts-reads d = record {
    here = λ b w.
        let all : List Tok = drop b.start b.tokens.list in
        items-here (λ s. Asked false (gives s)) CountsUp Given l.has_given l.next (λ k ts (v : V). ⊤) d.further
        (λ k s g c y f. asked-here _ c false (gives s) _ (any_step d k s g (record c { wanted = false }) (record { start = y.start; few = y.few }) f))
        (CountBefore all) (Holding (GivesFrom l.next AnyItem 0) IsNumberOf all)
        (λ k ts rest e x v i j c y. given-here Er (CountBefore all (suc k) rest) c y (option_map (λ n. n + 1) x) (one_counted all k ts rest e x i))
        (λ k ts rest e x i c y. given-here Er (Holding (GivesFrom l.next AnyItem 0) IsNumberOf all) c y x (all_counted all k ts rest e x i))
        begins d.start 0 b w (λ us g. record { items = us; is = g; held = let z : length us ≡ 0 + length us = omega arith in z });
  }

  pub counts-accepts : {spare : Type 0} → AcceptsItems begins gives l spare → Accepts (Counts gives begins) (counted_language l) spare
  counts-accepts h =
      listed (Counts gives begins) (Holding (GivesFrom l.next AnyItem 0) IsNumberOf) (Holding (ListFrom (λ k w v. l.word k w) l.last 0) IsNumberOf) ⊤ h counts-reads
      (λ d. record {
        given = λ ts rest c e i.
            let b = list-given l.next AnyItem (λ k w v. l.word k w) l.last (λ k ts rest v e j. d.one k ts rest e) d.over ts rest i.items e i.is in
            record { word = b.word; all = b.all; is = record { items = i.items; is = b.is; held = i.held } };
      })
      (λ q t. counts-spare gives begins (h.sparing q t.0))
      (counts-move gives begins)

  -- a list whose items are let go
  passes-reads : {W : Type 0} → ItemsDescribed begins gives l → Reads (Passes gives begins W) (list_ends l.next) (λ ts v. ⊤)
  passes-reads {W = W} d = record {
    here = λ b w.
        items-here gives Skips (λ _. Given None) l.has_given l.next (λ k ts (v : V). ⊤) d.further (any_step d) (λ k ts x. ⊤) (λ (v : W). ⊤)
        (λ k ts rest e x v i j c y. given-here Er (λ x. ⊤) c y None tt) (λ k ts rest e x i c y. given-here Er (λ (v : W). ⊤) c y None tt) begins d.start tt b w tt;
  }

  pub plain-accepts : {spare : Type 0} → AcceptsItems begins gives l spare → Accepts (IgnoringFirst (Passes gives begins (Unit {0})) (Gives (tt {0}))) (plain_language l) spare
  plain-accepts h =
      listed (IgnoringFirst (Passes gives begins (Unit {0})) (Gives (tt {0}))) (λ ts v. ⊤) (λ w v. IsListFrom l.word l.last 0 w) ⊤ h
      (λ d. then_given-by (Passes gives begins (Unit {0})) (Gives (tt {0})) (list_ends l.next) (λ ts v. ⊤) (λ (v : Unit {0}). ⊤) (passes-reads d) (gives-by Er (λ (v : Unit {0}). ⊤) (tt {0}) tt))
      (λ d. record { given = λ ts rest v e i. (list-only l.next l.word l.last d.one d.over).taken ts rest e })
      (λ q t. ignoring_first-spares _ _ (passes-spare gives begins (h.sparing q t.0)) (gives-spares (tt {0})))
      (λ e m. chained-first _ _ (asked-moves false _ (passes-move gives begins e m (Unit {0}))) (λ _. gives-ends (tt {0})))
