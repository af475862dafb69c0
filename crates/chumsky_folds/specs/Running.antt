-- Folds in the words of their errors and of their states, and what runs of them show.
-- Main words: DoesFold, DoesFoldShown, DoesFoldTried, AnswersSince. Read first: Folding.antt, FoldingShown.antt.
use Rattle.std.specs.Prelude.{◌≡◌, ◌≤◌, ℕ, false, Option, Some, List, Result}
use Rattle.std.specs.List.{All}
use Rattle.std.specs.declared.alloc.Global.{Global}
use Rattle.std.specs.declared.vec.Vec.{Vec}
use Rattle.chumsky_input.specs.declared.error.Error as error_trait
use Rattle.chumsky_input.specs.declared.inspector.Inspector as inspector_trait
use Rattle.chumsky_input.specs.declared.input.Input as input_trait
use Rattle.chumsky_input.specs.declared.input_ref.InputRef.{InputRef}
use Rattle.chumsky_input.specs.Extra.{Shown, shown_from}
use Rattle.chumsky_input.specs.Held.{held}
use Rattle.chumsky_input.specs.Words.{Does}
use Rattle.chumsky_parser.specs.declared.iter.IterParserDebug.{IterParserDebug}
use Rattle.chumsky_parser.specs.Items.{Next}
use Rattle.chumsky_parser.specs.Showing.{GivesShown, Makes}
use Rattle.chumsky_items.specs.Consumers.{Collects}
use Rattle.chumsky_folds.specs.declared.try_foldl.TryFoldl.{TryFoldl}
use Rattle.chumsky_folds.specs.Folding.{FoldsItems}
use Rattle.chumsky_folds.specs.FoldingShown.{TakesAll, TakesShown}
use Rattle.chumsky_folds.specs.FoldingBackShown.{FoldsRightShown}
use Rattle.chumsky_folds.specs.FoldingTried.{TakesTried, FoldsTried}
use Rattle.chumsky_folds.specs.Placed.{Placed, HoldsPlaced, StartsIn, places_of}

module _ {I Tok Sp Er St Mk Cx S V A : Type 0} (begins : Does I Tok Sp Er St Mk Cx S) (gives : IterParserDebug → S → Does I Tok Sp Er St Mk Cx (Next S V)) where
  -- all items are folded from the left, from this start
  abbrev pub DoesFold : (A → V → A → Type 0) → A → Does I Tok Sp Er St Mk Cx A
  DoesFold steps start errors states = FoldsItems (λ s. gives (record { nonconsumption_is_ok = false }) s errors states) (begins errors states) steps (Some start)

  -- each item is taken, from this start, by a folder that is shown what ran since a place
  abbrev pub DoesFoldShown : Makes I Tok Sp St Mk Cx (A × V) A → ℕ → A → Does I Tok Sp Er St Mk Cx A
  DoesFoldShown folds since start errors states =
      TakesAll (λ s. gives (record { nonconsumption_is_ok = false }) s errors states) (begins errors states) (TakesShown (folds states) since) (Some start)

  -- the same, until the folder refuses one
  abbrev pub DoesFoldTrying : Makes I Tok Sp St Mk Cx (A × V) (Result A Er) → ℕ → A → Does I Tok Sp Er St Mk Cx A
  DoesFoldTrying tries since start errors states =
      TakesAll (λ s. Placed (gives (record { nonconsumption_is_ok = false }) s errors states)) (begins errors states) (TakesTried errors.seen (tries states) since) (Some start)

module _ {I Tok Sp Er St Mk Cx F A B S V W : Type 0} (tries : F → Makes I Tok Sp St Mk Cx (V × W) (Result V Er))
    (part : A → Does I Tok Sp Er St Mk Cx V) (begins : B → Does I Tok Sp Er St Mk Cx S)
    (gives : B → IterParserDebug → S → Does I Tok Sp Er St Mk Cx (Next S W)) where
  -- a part runs, and then each item is so taken into its value, or refused
  abbrev pub DoesFoldTried : TryFoldl F A B W → Does I Tok Sp Er St Mk Cx V
  DoesFoldTried p errors states =
      FoldsTried (λ s. gives p.items (record { nonconsumption_is_ok = false }) s errors states) (begins p.items errors states) errors.seen (tries p.folder states) (part p.parser errors states)

module _ {I Tok Sp Er St Mk Cx S V : Type 0} (begins : Does I Tok Sp Er St Mk Cx S) (gives : IterParserDebug → S → Does I Tok Sp Er St Mk Cx (Next S V)) where
  -- all items are collected, each with a cursor at the place before its step
  abbrev pub DoesCollectPlaced : {Cu : Type 0} → input_trait.Ghosts I Cu Tok Sp → Does I Tok Sp Er St Mk Cx (Vec (V × Cu) Global)
  DoesCollectPlaced source errors states =
      Collects (λ s. Placed (gives (record { nonconsumption_is_ok = false }) s errors states)) (begins errors states) (HoldsPlaced source) ⊥

module _ {I X Cu Tok Sp Er St Cx Mk : Type 0} (source : input_trait.Ghosts I Cu Tok Sp) (errors : error_trait.Ghosts Er I Tok Sp) (states : inspector_trait.Ghosts St I Mk Tok Sp) where
  -- a cursor is one of the run's tokens
  abbrev pub InTokens : Cu → InputRef I X Cu Tok Sp Er St Cx Mk → Type 0
  InTokens cursor inp = source.cursor_tokens cursor ≡ (held source errors states inp).tokens

  -- a cursor is not past where the run stands
  abbrev pub NotPast : Cu → InputRef I X Cu Tok Sp Er St Cx Mk → Type 0
  NotPast cursor inp = source.place cursor ≤ (held source errors states inp).place

  -- so are the cursors of all these items
  abbrev pub AllNotPast : {V : Type 0} → List (V × Cu) → InputRef I X Cu Tok Sp Er St Cx Mk → Type 0
  AllNotPast items inp = All (StartsIn source (held source errors states inp).tokens (held source errors states inp).place) items

  -- nothing of the run but its state has changed
  abbrev pub OnlyState : InputRef I X Cu Tok Sp Er St Cx Mk → InputRef I X Cu Tok Sp Er St Cx Mk → Type 0
  OnlyState old new = held source errors states new ≡ record (held source errors states old) { state = (held source errors states new).state }

  -- an answer to what the run took since a cursor, and the state that it leaves
  abbrev pub AnswersSince : {A : Type 0} → (Shown Tok Cx states.Seen → A → states.Seen → Type 0) → Cu → InputRef I X Cu Tok Sp Er St Cx Mk → InputRef I X Cu Tok Sp Er St Cx Mk → A → Type 0
  AnswersSince gives since old new answer = gives (shown_from (source.place since) (held source errors states old)) answer (held source errors states new).state

  -- the items with cursors, folded from the last one back by a folder that is shown what ran since each one's cursor
  abbrev pub FoldsItemsBack : {V A : Type 0} → GivesShown Tok Cx states.Seen (V × A) A → A → List (V × Cu) → InputRef I X Cu Tok Sp Er St Cx Mk → InputRef I X Cu Tok Sp Er St Cx Mk → A → Type 0
  FoldsItemsBack folds last items old new answer =
      FoldsRightShown folds (shown_from (held source errors states old).place (held source errors states old)) last (places_of source items) answer (held source errors states new).state
