-- Items: one step of an iteration, and all of its steps.
use Rattle.std.specs.Prelude.{◌≡◌, ℕ, zero, suc, ◌+◌, ◌^◌, ◌≤◌, true, Option, Some, None, List, [], ◌∷◌, length, ⊤, Result, Ok, Err}
use Rattle.chumsky_input.specs.declared.stop.Fault.{Fault}
use Rattle.chumsky_input.specs.declared.stop.Stop.TheVariants.{CountTooLarge}
use Rattle.chumsky_input.specs.Outcome.{Meaning, Beginning, Outcome, Yes, SameValue, EndsAfterStart, Agreeing}
use Rattle.chumsky_parser.specs.Chained.{Chained, Asked, from, after}
use Rattle.chumsky_parser.specs.Failure.{Stops, wanting}

-- one item, where it is wanted, and the iteration that goes on; or the end
pub data Next (S V : Type 0) : Type 0 where
  More : Option V → S → Next S V
  End : Next S V

-- what a step answers, with the iteration that it leaves
abbrev pub with_item : {S V : Type 0} → S → Result (Option V) Fault → Result (Option (Next S V)) Fault
with_item s (Ok (Some v)) = Ok (Some (More (Some v) s))
with_item s (Ok None) = Ok (Some End)
with_item s (Err f) = Err f

abbrev pub without_item : {S V : Type 0} → S → Result (Option (Unit {0})) Fault → Result (Option (Next S V)) Fault
without_item s (Ok (Some _)) = Ok (Some (More None s))
without_item s (Ok None) = Ok (Some End)
without_item s (Err f) = Err f

-- two items that are the same where both are there, and iterations that are alike; or two ends
abbrev pub SameNext : {S V : Type 0} → (V → V → Type 0) → (S → S → Type 0) → Next S V → Next S V → Type 0
SameNext same alike (More v s) (More w t) = SameValue same v w × alike s t
SameNext same alike (More v s) End = ⊥
SameNext same alike End (More w t) = ⊥
SameNext same alike End End = ⊤

module _ {Tok Cx St Er S V : Type 0} where
  -- the laws of an iteration: no answer ends before its start
  pub record ItemsEnd (begins : Meaning Tok Cx St Er S) (gives : S → Meaning Tok Cx St Er (Next S V)) : Type 0 where
    pub begin : EndsAfterStart begins
    pub step : (s : S) → EndsAfterStart (gives s)

  -- and two answers agree, of iterations that are alike
  pub record ItemsAgree (same : V → V → Type 0) (alike : S → S → Type 0) (begins : Meaning Tok Cx St Er S) (gives : S → Meaning Tok Cx St Er (Next S V)) : Type 0 where
    pub begin : Agreeing alike begins begins
    pub step : (s t : S) → alike s t → Agreeing (SameNext same alike) (gives s) (gives t)

  -- after a step: what goes on from its item, or what follows the end
  abbrev pub AfterStep : {W : Type 0} → (Option V → S → Meaning Tok Cx St Er W) → Meaning Tok Cx St Er W → Option (Next S V) → Meaning Tok Cx St Er W
  AfterStep on ended (Some (More v s)) = on v s
  AfterStep on ended (Some End) = ended
  AfterStep on ended None = λ b o. ⊥

-- an item of a run: its value, where one is wanted, the iteration that goes on, and what is made of it and the items before;
-- and what its step did, and then the making
pub record Item (Er St S V A : Type 0) : Type 0 where
  pub value : Option V
  pub next : S
  pub made : Option A
  pub step : Outcome (Next S V) Er St
  pub making : Outcome A Er St

module _ {Er St S V A : Type 0} where
  -- the iteration after these items
  abbrev pub next_after : S → List (Item Er St S V A) → S
  next_after s [] = s
  next_after s (x ∷ xs) = next_after x.next xs

  -- what is made of them
  abbrev pub made_of : Option A → List (Item Er St S V A) → Option A
  made_of a [] = a
  made_of a (x ∷ xs) = made_of x.made xs

  -- how many more items can be counted after them
  abbrev pub room_after : List (Item Er St S V A) → ℕ → ℕ
  room_after [] room = room
  room_after (x ∷ xs) zero = zero
  room_after (x ∷ xs) (suc room) = room_after xs room

  -- what q did, after what these items did
  abbrev pub after_all : {W : Type 0} → List (Item Er St S V A) → Outcome W Er St → Outcome W Er St
  after_all [] q = q
  after_all (x ∷ xs) q = after x.step (after x.making (after_all xs q))

module _ {Tok Cx St Er S V A : Type 0} where
  -- from where an item ended
  abbrev pub past : Beginning Tok Cx St → Item Er St S V A → Beginning Tok Cx St
  past b x = from (from b x.step) x.making

  -- from where the last of these items ended
  abbrev pub past_all : Beginning Tok Cx St → List (Item Er St S V A) → Beginning Tok Cx St
  past_all b [] = b
  past_all b (x ∷ xs) = past_all (past b x) xs

module _ {Tok Cx St Er S V A : Type 0} (step : S → Meaning Tok Cx St Er (Next S V)) (more : Option A → Option V → Meaning Tok Cx St Er A) where
  -- a step gives this item, and something is made of it
  pub record IsItem (a : Option A) (s : S) (b : Beginning Tok Cx St) (x : Item Er St S V A) : Type 0 where
    pub steps : step s b x.step
    pub gives : x.step.verdict ≡ Yes (Some (More x.value x.next))
    pub makes : more a x.value (from b x.step) x.making
    pub goes_on : x.making.verdict ≡ Yes x.made

  -- each item from where the one before it ended
  abbrev pub Linked : Option A → S → Beginning Tok Cx St → List (Item Er St S V A) → Type 0
  Linked a s b [] = ⊤
  Linked a s b (x ∷ xs) = IsItem a s b x × Linked x.made x.next (past b x) xs

-- where no more items can be counted, one more is refused; else nothing can be made of it
abbrev pub Unmade : {Tok Cx St Er A W : Type 0} → ℕ → Meaning Tok Cx St Er A → Meaning Tok Cx St Er W
Unmade zero making = Stops CountTooLarge
Unmade (suc left) making = Chained making (λ _ _ _. ⊥)

module _ {Tok Cx St Er S V A W : Type 0} (step : S → Meaning Tok Cx St Er (Next S V)) (more : Option A → Option V → Meaning Tok Cx St Er A) (ended : Option A → Meaning Tok Cx St Er W) where
  -- how a run closes after its last item: by the end, and what follows it; by a step that gives none; or by an item that
  -- can't be counted, or of which nothing can be made
  abbrev pub Closes : ℕ → Option A → S → Meaning Tok Cx St Er W
  Closes left a s = Chained (step s) (AfterStep (λ v _. Unmade left (more a v)) (ended a))

  -- a list of items, each from where the one before it ended, and how the run closes; no more of them than can be
  -- counted
  pub record AllItems (room : ℕ) (a : Option A) (s : S) (b : Beginning Tok Cx St) (o : Outcome W Er St) : Type 0 where
    pub items : List (Item Er St S V A)
    pub fit : length items ≤ room
    pub linked : Linked step more a s b items
    pub last : Outcome W Er St
    pub closes : Closes (room_after items room) (made_of a items) (next_after s items) (past_all b items) last
    pub whole : o ≡ after_all items last

  -- all items of an iteration that was made
  abbrev pub FromMade : ℕ → Option A → Option S → Meaning Tok Cx St Er W
  FromMade room a (Some s) = AllItems room a s
  FromMade room a None = λ b o. ⊥

  -- an iteration is made, and then all its items are given, from this
  pub record Items (begins : Meaning Tok Cx St Er S) (first : A) (b : Beginning Tok Cx St) (o : Outcome W Er St) : Type 0 where
    pub room : ℕ
    pub full : room + 1 ≡ 2 ^ 64
    pub run : Chained (Asked true begins) (FromMade room (wanting b.wanted first)) b o
