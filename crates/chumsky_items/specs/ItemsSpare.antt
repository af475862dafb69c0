-- Lists are never refused for memory where their items aren't, nor what is made of them without a collection.
-- Main laws: repeats-spare, separates-spare, items-spare, counts-spare. Read first: Memory.antt, MemoryLaws.antt.
use Rattle.std.proofs.Common.{ℕ, zero, suc, ◌+◌, Bool, true, false, Option, Some, None}
use Rattle.std.specs.Prelude.{option_map, nat_eq, nat_lt, List, [], ◌∷◌}
use Rattle.chumsky_input.specs.declared.stop.Stop.TheVariants.{NoProgress, CountTooLarge}
use Rattle.chumsky_input.specs.Outcome.{Meaning}
use Rattle.chumsky_parser.specs.Chained.{Chained, Given, Asked}
use Rattle.chumsky_parser.specs.Failure.{Stops, wanting}
use Rattle.chumsky_parser.specs.Items.{Next, More, End, AfterStep, FromMade, Items}
use Rattle.chumsky_parser.specs.Steps.{AllSteps, unlisted}
use Rattle.chumsky_items.specs.Consumers.{Skips, CountsUp, Passes, Counts}
use Rattle.chumsky_items.specs.Repeating.{Settled, Settles, Counted, EndsUnlessFew, Uncapped, Repeats, is_stuck, fits, asks, at_cap}
use Rattle.chumsky_items.specs.Separating.{Bounds, Perhaps, Lead, Last, Staying, Round, Unfilled, Separates, asks_after, stays, trails}
use Rattle.chumsky_parser.specs.Memory.{NeverOutOfMemory, ItemsNeverOutOfMemory}
use Rattle.chumsky_parser.specs.MemoryLaws.{given-spares, no-spares, stops-spares, asked-spares, chained-spares, or_else-spares}
use Rattle.chumsky_input.specs.Words.{Does}
use Rattle.chumsky_items.specs.declared.separated_by.SeparatedBy.{SeparatedBy}
use Rattle.chumsky_parser.specs.ByParts.{Part, part}

module _ {Tok Cx St Er S V W : Type 0} where
  after_step-spares : (on : Option V → S → Meaning Tok Cx St Er W) (ended : Meaning Tok Cx St Er W)
      → ((v : Option V) (s : S) → NeverOutOfMemory (on v s)) → NeverOutOfMemory ended → (x : Option (Next S V))
      → NeverOutOfMemory (AfterStep on ended x)
  after_step-spares on ended h e (Some (More v s)) = h v s
  after_step-spares on ended h e (Some End) = e
  after_step-spares on ended h e None = λ b o m. absurd m

module _ {Tok Cx St Er S V A W : Type 0} (step : S → Meaning Tok Cx St Er (Next S V)) (more : Option A → Option V → Meaning Tok Cx St Er A) (ended : Option A → Meaning Tok Cx St Er W) where
  module _ (hs : (s : S) → NeverOutOfMemory (step s)) (hm : (a : Option A) (v : Option V) → NeverOutOfMemory (more a v)) (he : (a : Option A) → NeverOutOfMemory (ended a)) where
    all_steps-spare : (room : ℕ) (a : Option A) (s : S) → NeverOutOfMemory (AllSteps step more ended room a s)
    all_steps-spare zero a s = chained-spares (step s) _ (hs s) (after_step-spares (λ _ _. Stops CountTooLarge) (ended a) (λ _ _. stops-spares CountTooLarge tt) (he a))
    all_steps-spare (suc room) a s =
        chained-spares (step s) _ (hs s)
        (after_step-spares (λ v t. Chained (more a v) (λ c. AllSteps step more ended room c t)) (ended a)
        (λ v t. chained-spares (more a v) _ (hm a v) (λ c. all_steps-spare room c t)) (he a))

    from_made-spares : (room : ℕ) (a : Option A) (s : Option S) → NeverOutOfMemory (FromMade step more ended room a s)
    from_made-spares room a (Some s) b o m = all_steps-spare room a s b o (unlisted step more ended room a s b o m)
    from_made-spares room a None b o m = absurd m

    -- what is made of all items, where neither they are refused nor the making of each and of the whole
    pub items-spare : (begins : Meaning Tok Cx St Er S) (first : A) → NeverOutOfMemory begins → NeverOutOfMemory (Items step more ended begins first)
    items-spare begins first h b o m = chained-spares (Asked true begins) _ (asked-spares true begins h) (from_made-spares m.room (wanting b.wanted first)) b o m.run

module _ {Tok Cx St Er S V : Type 0} (gives : S → Meaning Tok Cx St Er (Next S V)) (begins : Meaning Tok Cx St Er S) where
  -- all items, and no value
  pub passes-spare : ItemsNeverOutOfMemory begins gives → NeverOutOfMemory (Passes gives begins (Unit {0}))
  passes-spare h = items-spare gives Skips (λ _. Given None) h.step (λ a v. given-spares None) (λ _. given-spares None) begins tt h.begin

  -- their number
  pub counts-spare : ItemsNeverOutOfMemory begins gives → NeverOutOfMemory (Counts gives begins)
  counts-spare h =
      items-spare (λ s. Asked false (gives s)) CountsUp Given (λ s. asked-spares false (gives s) (h.step s)) (λ a v. given-spares (option_map (λ n. n + 1) a)) given-spares begins 0 h.begin

module _ {Tok Cx St Er V : Type 0} where
  settled-spares : (stuck fit : Bool) (k : ℕ) (v : Option V) → NeverOutOfMemory (Settled {Tok = Tok} {Cx = Cx} {St = St} {Er = Er} stuck fit k v)
  settled-spares true fit k v = stops-spares NoProgress tt
  settled-spares false true k v = given-spares (Some (More v (k + 1)))
  settled-spares false false k v = stops-spares CountTooLarge tt

  counted-spares : (asked : Bool) (k start : ℕ) (item : Meaning Tok Cx St Er V) → NeverOutOfMemory item → NeverOutOfMemory (Counted asked k start item)
  counted-spares asked k start item h b o m =
      chained-spares item (Settles asked k start) h (λ v c p n. settled-spares (is_stuck asked start c.start) (fits k) k v c p n) b o m.run

  closes-spare : (few : Bool) → NeverOutOfMemory (EndsUnlessFew {Tok = Tok} {Cx = Cx} {St = St} {Er = Er} {V = V} few)
  closes-spare true = no-spares
  closes-spare false = given-spares (Some End)

module _ {Tok Cx St Mk Er V : Type 0} (mark : St → Mk) (back : St → Mk → St) (safe : Type 0) (item : Meaning Tok Cx St Er V) (free : Bool) (least : ℕ) (most : Option ℕ) where
  module _ (still : safe) (h : NeverOutOfMemory item) where
    uncapped-spares : (full : Bool) (k start : ℕ) → NeverOutOfMemory (Uncapped mark back safe item free least most full k start)
    uncapped-spares true k start = given-spares (Some End)
    uncapped-spares false k start =
        or_else-spares mark back safe (Counted (asks free most) k start item) (EndsUnlessFew (nat_lt k least)) still (counted-spares (asks free most) k start item h) (closes-spare (nat_lt k least))

    -- an item more, where items are never refused
    pub repeats-spare : (k : ℕ) → NeverOutOfMemory (Repeats mark back safe item free least most k)
    repeats-spare k b o m = uncapped-spares (at_cap most k) k b.start b o m.step

module _ {Tok Cx St Mk Er U : Type 0} (mark : St → Mk) (back : St → Mk → St) (safe : Type 0) (separator : Meaning Tok Cx St Er U) (still : safe) (h : NeverOutOfMemory separator) where
  perhaps-spares : NeverOutOfMemory (Perhaps mark back safe separator)
  perhaps-spares = or_else-spares mark back safe (Asked false separator) (Given None) still (asked-spares false separator h) (given-spares None)

  lead-spares : (first leading : Bool) → NeverOutOfMemory (Lead mark back safe separator first leading)
  lead-spares false leading = asked-spares false separator h
  lead-spares true true = perhaps-spares
  lead-spares true false = given-spares None

  last-spares : {V : Type 0} (tried : Bool) → NeverOutOfMemory (Last mark back safe {V = V} separator tried)
  last-spares true = chained-spares (Perhaps mark back safe separator) _ perhaps-spares (λ _. given-spares (Some End))
  last-spares false = given-spares (Some End)

module _ {Tok Cx St Mk Er U V : Type 0} (mark : St → Mk) (back : St → Mk → St) (safe : Type 0) (separator : Meaning Tok Cx St Er U) (item : Meaning Tok Cx St Er V) (d : Bounds) where
  module _ (still : safe) (hs : NeverOutOfMemory separator) (hi : NeverOutOfMemory item) where
    staying-spares : (stay : Bool) (one : Meaning Tok Cx St Er (Next ℕ V)) → NeverOutOfMemory one → NeverOutOfMemory (Staying mark back safe stay one)
    staying-spares true one h = or_else-spares mark back safe one (EndsUnlessFew false) still h (closes-spare false)
    staying-spares false one h = h

    round-spares : (k start : ℕ) → NeverOutOfMemory (Round mark back safe separator item d k start)
    round-spares k start b o m =
        chained-spares (Lead mark back safe separator (nat_eq k 0) d.leading) _ (lead-spares mark back safe separator still hs (nat_eq k 0) d.leading)
        (λ _. staying-spares (stays d k) _ (counted-spares (asks_after (nat_eq k 0) d) k start item hi)) b o m.run

    unfilled-spares : (full : Bool) (k start : ℕ) → NeverOutOfMemory (Unfilled mark back safe separator item d full k start)
    unfilled-spares true k start = last-spares mark back safe separator still hs (trails d k)
    unfilled-spares false k start =
        or_else-spares mark back safe (Round mark back safe separator item d k start) (EndsUnlessFew (nat_lt k d.least)) still (round-spares k start) (closes-spare (nat_lt k d.least))

    -- an item more and its separator, where neither is ever refused
    pub separates-spare : (k : ℕ) → NeverOutOfMemory (Separates mark back safe separator item d k)
    separates-spare k b o m = unfilled-spares (at_cap d.most k) k b.start b o m.step

module _ {I Tok Sp Er St Mk Cx A B O U X F V W : Type 0} where
  -- the parts of a list: its items and its separators
  abbrev pub list_parts : (A → Does I Tok Sp Er St Mk Cx V) → (B → Does I Tok Sp Er St Mk Cx W) → SeparatedBy A B O U X F → List (Part I Tok Sp Er St Mk Cx)
  list_parts item separator list = part (item list.parser) ∷ part (separator list.separator) ∷ []
