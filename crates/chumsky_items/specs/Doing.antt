-- Lists and what is made of their items, in the words of their errors and of their states.
-- Main words: DoesRound, DoesCollect, DoesCollectExactly, and the laws whose names end in In. Read first: Separating.antt, Consumers.antt, Exactly.antt, Lists.antt.
use Rattle.std.specs.Prelude.{◌≡◌, ℕ, Bool, true, false, Option, List, length}
use Rattle.chumsky_input.specs.declared.error.Error as error_trait
use Rattle.chumsky_input.specs.declared.inspector.Inspector as inspector_trait
use Rattle.chumsky_input.specs.Words.{Does}
use Rattle.chumsky_parser.specs.declared.iter.IterParserDebug.{IterParserDebug}
use Rattle.chumsky_parser.specs.Items.{Next}
use Rattle.chumsky_items.specs.declared.collect.Collect.{Collect}
use Rattle.chumsky_items.specs.declared.count.Count.{Count}
use Rattle.chumsky_items.specs.declared.separated_by.SeparatedBy.{SeparatedBy}
use Rattle.chumsky_items.specs.Separating.{Bounds, Perhaps, Lead, Last, Round}
use Rattle.chumsky_items.specs.Consumers.{Passes, Counts, Collects}
use Rattle.chumsky_items.specs.Exactly.{CollectsExactly, AddsNoEvent}
use Rattle.chumsky_items.specs.Lists.{MoreOrNoMore, NeverEndsWithSeparator, CountsSize}

-- a run over items asks each for progress
abbrev pub asking : IterParserDebug
asking = record { nonconsumption_is_ok = false }

-- a run lets items end where they began
abbrev pub lenient : IterParserDebug
lenient = record { nonconsumption_is_ok = true }

-- no separator may lead, and none may trail
abbrev pub IsPlain : {A B O U I E : Type 0} → SeparatedBy A B O U I E → Type 0
IsPlain list = (list.allow_leading ≡ false) × (list.allow_trailing ≡ false)

-- the count of the items that are collected
abbrev pub count_of : {A O C : Type 0} → Collect A O C → Count A O
count_of collect = record { parser = collect.parser; of = record {} }

-- the bounds that a list was built with; and that no progress is asked
abbrev pub bounds_set : {A B O U I E : Type 0} → SeparatedBy A B O U I E → Bool → Bounds
bounds_set list free = record { least = list.at_least; most = list.at_most; leading = list.allow_leading; trailing = list.allow_trailing; free = free }

module _ {I Tok Sp Er St Mk Cx U : Type 0} (separator : Does I Tok Sp Er St Mk Cx U) where
  -- a separator that may be missing, without its value
  abbrev pub DoesPerhaps : Does I Tok Sp Er St Mk Cx U
  DoesPerhaps errors states = Perhaps states.mark states.back states.takes_no_memory (separator errors states)

  -- the separator before an item, without its value; whether that is the first, and whether one may lead
  abbrev pub DoesLead : Bool → Bool → Does I Tok Sp Er St Mk Cx U
  DoesLead first leading errors states = Lead states.mark states.back states.takes_no_memory (separator errors states) first leading

  -- the end at the cap, before which a separator may be tried
  abbrev pub DoesLast : {V : Type 0} → Bool → Does I Tok Sp Er St Mk Cx (Next ℕ V)
  DoesLast tried errors states = Last states.mark states.back states.takes_no_memory (separator errors states) tried

module _ {I Tok Sp Er St Mk Cx A B V U : Type 0} (item : A → Does I Tok Sp Er St Mk Cx V) (separator : B → Does I Tok Sp Er St Mk Cx U) where
  -- a round of a list: a separator and then an item, which is the next after k others; progress is asked from a place on
  abbrev pub DoesRound : {O P X F : Type 0} → SeparatedBy A B O P X F → IterParserDebug → ℕ → ℕ → Does I Tok Sp Er St Mk Cx (Next ℕ V)
  DoesRound list debug k start errors states =
      Round states.mark states.back states.takes_no_memory (separator list.separator errors states) (item list.parser errors states) (bounds_set list debug.nonconsumption_is_ok) k start

module _ {I Tok Sp Er St Mk Cx S V : Type 0} (begins : Does I Tok Sp Er St Mk Cx S) (gives : S → Does I Tok Sp Er St Mk Cx (Next S V)) where
  -- all items, and no value
  abbrev pub DoesPass : (W : Type 0) → Does I Tok Sp Er St Mk Cx W
  DoesPass W errors states = Passes (λ s. gives s errors states) (begins errors states) W

  -- the number of the items
  abbrev pub DoesCount : Does I Tok Sp Er St Mk Cx ℕ
  DoesCount errors states = Counts (λ s. gives s errors states) (begins errors states)

  -- the items, in a collection that holds them, for which memory may be wanting
  abbrev pub DoesCollect : {C : Type 0} → (List V → C → Type 0) → Type 0 → Does I Tok Sp Er St Mk Cx C
  DoesCollect holds quiet errors states = Collects (λ s. gives s errors states) (begins errors states) holds quiet

  -- just so many items, in a collection that holds them
  abbrev pub DoesCollectExactly : {C : Type 0} → (List V → C → Type 0) → ℕ → Does I Tok Sp Er St Mk Cx C
  DoesCollectExactly holds count errors states = CollectsExactly (λ s. gives s errors states) holds (begins errors states) count

module _ {I Tok Sp Er St Mk Cx : Type 0} (errors : error_trait.Ghosts Er I Tok Sp) (states : inspector_trait.Ghosts St I Mk Tok Sp) where
  -- the whole has no events but those of making its iteration and of its steps
  abbrev pub AddsNoEventIn : {S V W : Type 0} → Does I Tok Sp Er St Mk Cx S → (S → Does I Tok Sp Er St Mk Cx (Next S V)) → Does I Tok Sp Er St Mk Cx W → Type 0
  AddsNoEventIn begins gives whole = AddsNoEvent (begins errors states) (λ s. gives s errors states) (whole errors states)

  -- each answer of a step below the cap is one more item or no more
  abbrev pub MoreOrNoMoreIn : {V : Type 0} → Does I Tok Sp Er St Mk Cx V → ℕ → Option ℕ → (ℕ → Does I Tok Sp Er St Mk Cx (Next ℕ V)) → Type 0
  MoreOrNoMoreIn item least most gives = MoreOrNoMore states.mark states.back (item errors states) least most (λ k. gives k errors states)

  -- each yes of the whole is a list of rounds, and ends with the item of the last; the items run for their values where asked says so
  abbrev pub NeverEndsWithSeparatorIn : {A B O P X F U V W : Type 0} → (A → Does I Tok Sp Er St Mk Cx V)
      → (B → Does I Tok Sp Er St Mk Cx U) → SeparatedBy A B O P X F → (Bool → Bool) → Does I Tok Sp Er St Mk Cx W
      → Type 0
  NeverEndsWithSeparatorIn item separator list asked whole = NeverEndsWithSeparator (separator list.separator errors states) (item list.parser errors states) asked (whole errors states)

  -- of two answers from alike beginnings the one gives how many items the collection of the other holds
  abbrev pub CountsAllIn : {C V : Type 0} → (C → List V) → Does I Tok Sp Er St Mk Cx C → Does I Tok Sp Er St Mk Cx ℕ → Type 0
  CountsAllIn items collects counts = CountsSize (λ c. length (items c)) (collects errors states) (counts errors states)
