-- The language of items that are mapped: the words of the items, with other values.
-- Main words: map_items_language, map_items_with_language. Laws: map_items-accepts, map_items_with-accepts. Read first: ItemsLanguage.antt of chumsky_parser, MappedItems.antt.
use Rattle.std.proofs.Common.{◌≡◌, ℕ, suc, Option, Some, None, List, drop, ap, subst}
use Rattle.chumsky_input.specs.Outcome.{Meaning, Beginning}
use Rattle.chumsky_parser.specs.Chained.{Chained, Given}
use Rattle.chumsky_parser.specs.Ending.{Ending, At, Nowhere, Refused, and_then, Within, IfValue, Answers, Here}
use Rattle.chumsky_parser.specs.EndingLaws.{chained-here, chained-on, given-here, and_then_some}
use Rattle.chumsky_parser.specs.Items.{Next, More, End, AfterStep}
use Rattle.chumsky_parser.specs.ItemsLanguage.{Stepped, One, Over, place, IsStepped, ItemsLanguage, AcceptsItems}
use Rattle.chumsky_parser.specs.Memory.{NeverOutOfMemory}
use Rattle.chumsky_parser.specs.MemoryLaws.{chained-spares, given-spares}
use Rattle.chumsky_parser.specs.Showing.{GivesShown, GivenShown}
use Rattle.chumsky_combinator.specs.Mapped.{GivenBy}
use Rattle.chumsky_combinator.specs.MappedItems.{Remade, MapsItem, MapsItemWith}
use Rattle.chumsky_combinator.specs.MappedItemsLaws.{maps_item-end, maps_item-move, maps_item_with-end, maps_item_with-move}
use Rattle.chumsky_combinator.specs.MappedLanguage.{MapsSome, given_by-here}
use Rattle.chumsky_combinator.specs.MappedLaws.{given_by-spares}
use Rattle.chumsky_combinator.specs.MappedWithLanguage.{GivesSince, GivesOver, given_shown-here, gives_over}
use Rattle.chumsky_combinator.specs.MappedWithLaws.{given_shown-spares}

-- the same words, with other items
abbrev pub with_items : {Tok S V W : Type 0} → ItemsLanguage Tok S V → (ℕ → List Tok → W → Type 0) → (ℕ → List Tok → W → Type 0) → ItemsLanguage Tok S W
with_items L value stands_for = record {
  said = L.said;
  has_given = L.has_given;
  next = L.next;
  value = value;
  word = L.word;
  stands_for = stands_for;
  last = L.last;
  follow = L.follow;
  unambiguous = L.unambiguous;
  refused_from = L.refused_from;
  moves = L.moves;
  takes_no_memory = L.takes_no_memory;
}

-- the same words, with what a mapper gives for the items
abbrev pub map_items_language : {Tok S V W : Type 0} → (V → W → Type 0) → ItemsLanguage Tok S V → ItemsLanguage Tok S W
map_items_language maps L = with_items L (λ k. MapsSome (L.value k) maps) (λ k. MapsSome (L.stands_for k) maps)

-- the same words, with what a mapper that is shown them gives for the items
abbrev pub map_items_with_language : {Tok Cx St S V W : Type 0} → GivesShown Tok Cx St V W → ItemsLanguage Tok S V → ItemsLanguage Tok S W
map_items_with_language gives L = with_items L (λ k. GivesSince gives (λ ts. place (L.next k ts)) (L.value k)) (λ k. GivesOver gives (L.stands_for k))

module _ {Tok S V W : Type 0} (P : V → Type 0) (R : W → Type 0) (Q : S → Type 0) where
  -- the end is the end still
  end_stepped : (x : Ending (Stepped Tok)) → IsStepped P Q x End → IsStepped R Q x End
  end_stepped (At (One rest)) i = i
  end_stepped (At (Over rest)) i = i
  end_stepped Nowhere i = i
  end_stepped Refused i = i

  -- a value of an item, and one of what is made of it
  item_value : (x : Ending (Stepped Tok)) (v : Option V) (s : S) → IsStepped P Q x (More v s) → IfValue P v
  item_value (At (One rest)) v s i = i.0
  item_value (At (Over rest)) v s i = absurd i
  item_value Nowhere v s i = absurd i
  item_value Refused v s i = absurd i

  made_stepped : (x : Ending (Stepped Tok)) (v : Option V) (w : Option W) (s : S) → IsStepped P Q x (More v s) → IfValue R w → IsStepped R Q x (More w s)
  made_stepped (At (One rest)) v w s i j = (j, i.1)
  made_stepped (At (Over rest)) v w s i j = absurd i
  made_stepped Nowhere v w s i j = absurd i
  made_stepped Refused v w s i j = absurd i

module _ {Tok Cx St Er S V W : Type 0} (made : Option V → Meaning Tok Cx St Er W) where
  -- after a step what is made of its item; the end stays the end
  abbrev After : Option (Next S V) → Meaning Tok Cx St Er (Next S W)
  After = AfterStep (λ v s. Chained (made v) (λ w. Given (Some (More w s)))) (Given (Some End))

  module _ (P : V → Type 0) (R : W → Type 0) (Q : S → Type 0) (x : Ending (Stepped Tok)) where
    after_here : (n : Option (Next S V)) (c : Beginning Tok Cx St) → Within c → ((v : Option V) → IfValue P v → Here R (made v) (At (drop c.start c.tokens.list)) c)
        → IfValue (IsStepped P Q x) n → Here (IsStepped R Q x) (After n) (At (drop c.start c.tokens.list)) c
    after_here None c y h i = λ o m. absurd m
    after_here (Some End) c y h i = given-here Er (IsStepped R Q x) c y (Some End) (end_stepped P R Q x i)
    after_here (Some (More v s)) c y h i =
        chained-here R (IsStepped R Q x) (made v) (λ w. Given (Some (More w s))) (At (drop c.start c.tokens.list)) (λ us. At us) c y
        (h v (item_value P R Q x v s i)) (λ w d z e j. given-here Er (IsStepped R Q x) d z (Some (More w s)) (made_stepped P R Q x v w s i j))

    -- a step of whose item something is made, where that ends at once
    remade-here : (step : Meaning Tok Cx St Er (Next S V)) (b : Beginning Tok Cx St) → Within b
        → ((v : Option V) (c : Beginning Tok Cx St) → Within c → c.tokens ≡ b.tokens → place x ≡ At (drop c.start c.tokens.list) → IfValue P v → Here R (made v) (At (drop c.start c.tokens.list)) c)
        → Here (IsStepped P Q x) step (place x) b → Here (IsStepped R Q x) (Remade made step) (place x) b
    remade-here step b w h k o m =
        let Z : Next S W → Type 0 = IsStepped R Q x in
        let z : Answers Z (and_then (λ us. At us) (place x)) b.tokens.list o.verdict o.end =
        chained-on (IsStepped P Q x) Z step After (place x) (λ us. At us) b w k (λ n c y t e i. after_here n c y (λ v j. h v c y t e j) i) o m in
        subst (λ q. Answers Z q b.tokens.list o.verdict o.end) (and_then_some (place x)) z

  after_spares : ((v : Option V) → NeverOutOfMemory (made v)) → (n : Option (Next S V)) → NeverOutOfMemory (After n)
  after_spares h None = λ b o m. absurd m
  after_spares h (Some End) = given-spares (Some End)
  after_spares h (Some (More v s)) = chained-spares (made v) _ (h v) (λ w. given-spares (Some (More w s)))

  remade-spares : (step : Meaning Tok Cx St Er (Next S V)) → ((v : Option V) → NeverOutOfMemory (made v)) → NeverOutOfMemory step → NeverOutOfMemory (Remade made step)
  remade-spares step h k = chained-spares step _ k (after_spares h)

module _ {Tok Cx St Er S V W : Type 0} (begins : Meaning Tok Cx St Er S) (gives : S → Meaning Tok Cx St Er (Next S V))
    {L : ItemsLanguage Tok S V} {spare : Type 0} (h : AcceptsItems begins gives L spare) where
  -- `items.map(maps)`
  pub map_items-accepts : (maps : V → W → Type 0) → AcceptsItems begins (λ s. MapsItem maps (gives s)) (map_items_language maps L) spare
  map_items-accepts maps = record {
    described = λ e.
        let d = h.described e in
        record {
          start = d.start;
          step = λ k s g b w l o m.
              let ts : List Tok = drop b.start b.tokens.list in
              remade-here (GivenBy maps) (L.value k ts) (MapsSome (L.value k) maps ts) (λ t. L.has_given t (suc k))
              (L.next k ts) (gives s) b w (λ v c y t e i. given_by-here maps (L.value k) ts v i c y)
              (d.step k s g b w l) o m.remade;
          further = d.further;
          one = d.one;
          given = λ k ts rest w e i. (let b = d.given k ts rest i.0 e i.1 in record { word = b.word; all = b.all; is = (i.0, b.is, i.2) });
          over = d.over;
          each = d.each;
          ends = d.ends;
          decided = d.decided;
          never_empty = d.never_empty;
        };
    moving = λ e. let p = h.moving e in (maps_item-end maps begins gives p.0, maps_item-move maps begins gives p.1);
    sparing = λ q t. let n = h.sparing q t in record { begin = n.begin; step = λ s b o m. remade-spares (GivenBy maps) (gives s) (given_by-spares maps) (n.step s) b o m.remade };
  }

  -- `items.map_with(maps)`
  pub map_items_with-accepts : (maps : GivesShown Tok Cx St V W) → AcceptsItems begins (λ s. MapsItemWith maps (gives s)) (map_items_with_language maps L) spare
  map_items_with-accepts maps = record {
    described = λ e.
        let d = h.described e in
        record {
          start = d.start;
          step = λ k s g b w l o m.
              let ts : List Tok = drop b.start b.tokens.list in
              remade-here (GivenShown maps b.start) (L.value k ts) (GivesSince maps (λ us. place (L.next k us)) (L.value k) ts) (λ t. L.has_given t (suc k)) (L.next k ts) (gives s) b w
              (λ v c y t e i. given_shown-here maps (λ us. place (L.next k us)) (L.value k) ts b.start v i c y (ap (λ u. drop b.start u.list) t) e) (d.step k s g b w l) o m.remade;
          further = d.further;
          one = d.one;
          given = λ k ts rest w e i. gives_over maps (λ us. place (L.next k us)) (L.value k) (L.stands_for k) ts rest w (ap place e) i (d.given k ts rest i.of e i.is_value);
          over = d.over;
          each = d.each;
          ends = d.ends;
          decided = d.decided;
          never_empty = d.never_empty;
        };
    moving = λ e. let p = h.moving e in (maps_item_with-end maps begins gives p.0, maps_item_with-move maps begins gives p.1);
    sparing = λ q t. let n = h.sparing q t in record { begin = n.begin; step = λ s b o m. remade-spares (GivenShown maps b.start) (gives s) (given_shown-spares maps b.start) (n.step s) b o m.remade };
  }
