-- The items of each item.
use Rattle.std.specs.Prelude.{◌≡◌, ℕ, zero, suc, ◌+◌, ◌^◌, ◌≤◌, Option, Some, None, option_map, List, [], length, ◌⊎◌, ⊤, Result, Ok, Err}
use Rattle.chumsky_input.specs.declared.stop.Fault.{Fault}
use Rattle.chumsky_input.specs.declared.stop.Stop.TheVariants.{CountTooLarge}
use Rattle.chumsky_input.specs.Outcome.{Meaning, Beginning, Outcome}
use Rattle.chumsky_parser.specs.Chained.{Chained, Given}
use Rattle.chumsky_parser.specs.Choice.{OrElse}
use Rattle.chumsky_parser.specs.Failure.{SaysNo, Stops}
use Rattle.chumsky_parser.specs.Items.{Next, More, End, AfterStep, Item, next_after, room_after, after_all, past_all, Linked}
use Rattle.chumsky_flatten.specs.Collections.{CollectionHas, SameRest}
use Rattle.chumsky_flatten.specs.IntoItems.{MakesItem}

module _ {Tok Cx St Er S J : Type 0} where
  -- no collection is in hand yet
  abbrev pub BeginsInside : Meaning Tok Cx St Er S → Meaning Tok Cx St Er (S × Option J)
  BeginsInside begins = Chained begins (λ s. Given (option_map (λ t. (t, None)) s))

module _ {Tok Cx St Mk Er S O : Type 0} (mark : St → Mk) (back : St → Mk → St) (safe : Type 0) (gives : S → Meaning Tok Cx St Er (Next S O)) where
  -- a step of the items inside; a no is gone back from
  abbrev pub Inside : S → Meaning Tok Cx St Er (Next S O)
  Inside s = OrElse mark back safe (gives s) SaysNo

module _ {Tok Cx St Er O J A : Type 0} (makes : O → J → Type 0) (nexts : J → Option A → J → Type 0) where
  -- an empty collection is passed over
  abbrev pub PassesOver : Option (Unit {0}) → Option O → Meaning Tok Cx St Er (Unit {0})
  PassesOver a (Some o) b q = CollectionHas makes nexts o [] × Given a b q
  PassesOver a None b q = ⊥

module _ {Tok Cx St Er S O J A : Type 0} (makes : O → J → Type 0) (nexts : J → Option A → J → Type 0) where
  -- the first item of a collection, the others of which are left; where it has none, something else
  abbrev pub FirstElse : Meaning Tok Cx St Er (Next (S × Option J) A) → Option O → S → Meaning Tok Cx St Er (Next (S × Option J) A)
  FirstElse else (Some o) s b q =
      ((x : A) × (j : J) × (k : J) × makes o j × nexts j (Some x) k × Given (Some (More (Some x) (s, Some k))) b q) ⊎ (CollectionHas makes nexts o [] × else b q)
  FirstElse else None s b q = ⊥

-- one more empty collection is refused where no more can be counted; else it can't be the last
abbrev pub Uncounted : {Tok Cx St Er W : Type 0} → ℕ → Meaning Tok Cx St Er W
Uncounted zero = Stops CountTooLarge
Uncounted (suc left) = λ b o. ⊥

module _ {Tok Cx St Mk Er S O J A : Type 0} (mark : St → Mk) (back : St → Mk → St) (safe : Type 0)
    (makes : O → J → Type 0) (nexts : J → Option A → J → Type 0) (gives : S → Meaning Tok Cx St Er (Next S O)) where
  -- how the passing over closes: by the first item of a collection, by the end, by a step that gives no collection, or by an
  -- empty one that can't be counted
  abbrev pub ClosesAt : ℕ → S → Meaning Tok Cx St Er (Next (S × Option J) A)
  ClosesAt left s = Chained (Inside mark back safe gives s) (AfterStep (FirstElse makes nexts (Uncounted left)) (Given (Some End)))

  -- a list of empty collections, each from where the one before it ended, and how the passing over closes; no more of them
  -- than can be counted
  pub record FirstWithin (room : ℕ) (s : S) (b : Beginning Tok Cx St) (o : Outcome (Next (S × Option J) A) Er St) : Type 0 where
    pub passed : List (Item Er St S O (Unit {0}))
    pub fit : length passed ≤ room
    pub linked : Linked (Inside mark back safe gives) (PassesOver makes nexts) (Some tt) s b passed
    pub last : Outcome (Next (S × Option J) A) Er St
    pub closes : ClosesAt (room_after passed room) (next_after s passed) (past_all b passed) last
    pub whole : o ≡ after_all passed last

  -- the first item of the collections that follow
  pub record FirstOfNext (s : S) (b : Beginning Tok Cx St) (o : Outcome (Next (S × Option J) A) Er St) : Type 0 where
    pub room : ℕ
    pub full : room + 1 ≡ 2 ^ 64
    pub first : FirstWithin room s b o

  -- the next item of the collection in hand, and where it has no more, the first of those that follow
  abbrev pub InHandOrNext : Option J → S → Meaning Tok Cx St Er (Next (S × Option J) A)
  InHandOrNext None s b o = FirstOfNext s b o
  InHandOrNext (Some j) s b o = ((x : A) × (k : J) × nexts j (Some x) k × Given (Some (More (Some x) (s, Some k))) b o) ⊎ ((k : J) × nexts j None k × FirstOfNext s b o)

  pub record Flattens (s : S × Option J) (b : Beginning Tok Cx St) (o : Outcome (Next (S × Option J) A) Er St) : Type 0 where
    pub step : MakesItem (InHandOrNext s.1 s.0) b o

module _ {O J A : Type 0} (makes : O → J → Type 0) (nexts : J → Option A → J → Type 0) (same : O → O → Type 0) where
  -- no collection in hand, or collections of which as much is left
  abbrev pub SameInHand : Option J → Option J → Type 0
  SameInHand (Some i) (Some j) = SameRest makes nexts same i j
  SameInHand (Some i) None = ⊥
  SameInHand None (Some j) = ⊥
  SameInHand None None = ⊤

-- the iterations inside are alike, and what is in hand is
abbrev pub AlikeInside : {S O J A : Type 0} → (O → J → Type 0) → (J → Option A → J → Type 0) → (S → S → Type 0) → (O → O → Type 0) → S × Option J → S × Option J → Type 0
AlikeInside makes nexts alike same s t = alike s.0 t.0 × SameInHand makes nexts same s.1 t.1

-- what the first of the collections that follow answers: its item and the rest of it, with the iteration inside
abbrev pub with_rest : {S J A : Type 0} → S → Result (Option (A × J)) Fault → Result (Option (Next (S × Option J) A)) Fault
with_rest s (Ok (Some p)) = Ok (Some (More (Some p.0) (s, Some p.1)))
with_rest s (Ok None) = Ok (Some End)
with_rest s (Err f) = Err f
