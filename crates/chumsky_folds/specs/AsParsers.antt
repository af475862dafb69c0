-- What the laws say of folds, as parsers, in the words of their errors and of their states.
-- Main words: FoldIsOfItems, BlindFoldl, BlindFoldr. Read first: Compared.antt.
use Rattle.std.specs.Prelude.{◌≡◌, ℕ, false, List, reverse, Result, ⊤}
use Rattle.std.specs.declared.alloc.Global.{Global}
use Rattle.std.specs.declared.vec.Vec.{Vec}
use Rattle.chumsky_input.specs.declared.error.Error as error_trait
use Rattle.chumsky_input.specs.declared.inspector.Inspector as inspector_trait
use Rattle.chumsky_input.specs.declared.input.Input as input_trait
use Rattle.chumsky_input.specs.Words.{Does}
use Rattle.chumsky_parser.specs.declared.iter.IterParserDebug.{IterParserDebug}
use Rattle.chumsky_parser.specs.Chained.{Sequence}
use Rattle.chumsky_parser.specs.Items.{Next}
use Rattle.chumsky_parser.specs.Showing.{Makes}
use Rattle.chumsky_items.specs.declared.collect.Collect.{Collect}
use Rattle.chumsky_folds.specs.declared.fold.Fold.{Fold}
use Rattle.chumsky_folds.specs.declared.foldl.Foldl.{Foldl}
use Rattle.chumsky_folds.specs.declared.foldl_with.FoldlWith.{FoldlWith}
use Rattle.chumsky_folds.specs.declared.foldr.Foldr.{Foldr}
use Rattle.chumsky_folds.specs.declared.foldr_with.FoldrWith.{FoldrWith}
use Rattle.chumsky_folds.specs.declared.try_foldl.TryFoldl.{TryFoldl}
use Rattle.chumsky_folds.specs.Compared.{FoldsCollected, StandsFrom, IsBlind, NeverRefuses, FoldsAlike, SameOutcomesFrom}
use Rattle.chumsky_folds.specs.Standing.{AtCursor}
use Rattle.chumsky_folds.specs.Folding.{FoldsLeft}

module _ {I Tok Sp Er St Mk Cx : Type 0} (errors : error_trait.Ghosts Er I Tok Sp) (states : inspector_trait.Ghosts St I Mk Tok Sp) where
  -- `fold` gives the fold, from a clone of its first value, of the items that `collect` into a `Vec` gives
  abbrev pub FoldIsOfItems : {F A B V : Type 0} → (B → B → Type 0) → (F → B → V → B → Type 0)
      → (Collect A V (Vec V Global) → Does I Tok Sp Er St Mk Cx (Vec V Global))
      → (Fold F A B V → Does I Tok Sp Er St Mk Cx B) → Fold F A B V → Type 0
  FoldIsOfItems {F} {A} {B} {V} clones steps collect fold p =
      FoldsCollected (λ (xs : List V) (v : Vec V Global). v.items ≡ xs)
      (λ (xs : List V) z. (first : B) × clones p.init first × FoldsLeft (steps p.folder) first xs z)
      (collect (record { parser = p.parser; of = record {} }) errors states) (fold p errors states)

  -- `foldl` gives the fold, from what its parser gives, of the items that `collect` gives then
  abbrev pub FoldlIsOfItems : {F A B V W : Type 0} → (F → V → W → V → Type 0) → (A → Does I Tok Sp Er St Mk Cx V)
      → (Collect B W (Vec W Global) → Does I Tok Sp Er St Mk Cx (Vec W Global))
      → (Foldl F A B W → Does I Tok Sp Er St Mk Cx V) → Foldl F A B W → Type 0
  FoldlIsOfItems {F} {A} {B} {V} {W} steps part collect foldl p =
      FoldsCollected (λ (l : V × List W) (c : V × Vec W Global). (l.0 ≡ c.0) × (c.1.items ≡ l.1))
      (λ (l : V × List W) z. FoldsLeft (steps p.folder) l.0 l.1 z)
      (Sequence (part p.parser errors states) (collect (record { parser = p.items; of = record {} }) errors states))
      (foldl p errors states)

  -- `foldr` gives the left fold, from what the parser after the items gives, of the reverse of the items that `collect` gives
  abbrev pub FoldrIsOfReverse : {F A B V W : Type 0} → (F → V → W → W → Type 0) → (B → Does I Tok Sp Er St Mk Cx W)
      → (Collect A V (Vec V Global) → Does I Tok Sp Er St Mk Cx (Vec V Global))
      → (Foldr F A B V → Does I Tok Sp Er St Mk Cx W) → Foldr F A B V → Type 0
  FoldrIsOfReverse {F} {A} {B} {V} {W} steps part collect foldr p =
      FoldsCollected (λ (l : List V × W) (c : Vec V Global × W). (c.0.items ≡ l.0) × (l.1 ≡ c.1))
      (λ (l : List V × W) z. FoldsLeft (λ a x w. steps p.folder x a w) l.1 (reverse l.0) z)
      (Sequence (collect p.items errors states) (part p.parser errors states)) (foldr p errors states)

  module _ {F G A B S V W : Type 0} (folds : F → Makes I Tok Sp St Mk Cx (V × W) V) (steps : G → V → W → V → Type 0)
      (part : A → Does I Tok Sp Er St Mk Cx V) (begins : B → Does I Tok Sp Er St Mk Cx S)
      (gives : B → IterParserDebug → S → Does I Tok Sp Er St Mk Cx (Next S W))
      (foldl_with : FoldlWith F A B W → Does I Tok Sp Er St Mk Cx V) (foldl : Foldl G A B W → Does I Tok Sp Er St Mk Cx V) (p : FoldlWith F A B W) (folder : G) where
    -- by a folder that takes no notice of the run wherever cursors are, `foldl_with` has the outcomes of `foldl` by a folder
    -- with the same answers
    abbrev pub BlindFoldl : {Cu : Type 0} → input_trait.Ghosts I Cu Tok Sp → Type 0
    BlindFoldl source =
        IsBlind (AtCursor source states) (folds p.folder states) (steps folder)
        → FoldsAlike
        (StandsFrom (AtCursor source states) (begins p.items errors states)
        (λ s. gives p.items (record { nonconsumption_is_ok = false }) s errors states)
        (part p.parser errors states))
        (foldl_with p errors states)
        (foldl (record { parser = p.parser; items = p.items; folder = folder; of = p.of }) errors states)

    -- the same by a folder that answers whatever it is shown, from wherever the run begins
    abbrev pub BlindAnywhere : Type 0
    BlindAnywhere =
        IsBlind (λ _ _ _. ⊤) (folds p.folder states) (steps folder)
        → FoldsAlike (λ _. ⊤) (foldl_with p errors states) (foldl (record { parser = p.parser; items = p.items; folder = folder; of = p.of }) errors states)

  -- by a folder that never refuses an item `try_foldl` has the outcomes of `foldl_with` by a folder with the same answers
  abbrev pub UnrefusingFoldl : {F G A B V W : Type 0} → (F → Makes I Tok Sp St Mk Cx (V × W) (Result V Er))
      → (G → Makes I Tok Sp St Mk Cx (V × W) V) → (TryFoldl F A B W → Does I Tok Sp Er St Mk Cx V)
      → (FoldlWith G A B W → Does I Tok Sp Er St Mk Cx V) → TryFoldl F A B W → G → Type 0
  UnrefusingFoldl tries folds try_foldl foldl_with p folder =
      NeverRefuses (tries p.folder states) (folds folder states)
      → FoldsAlike (λ _. ⊤) (try_foldl p errors states)
      (foldl_with (record { parser = p.parser; items = p.items; folder = folder; of = p.of }) errors states)

  -- by a folder that takes no notice of the run wherever cursors are, `foldr_with` has the outcomes of `foldr` by a folder with
  -- the same answers
  abbrev pub BlindFoldr : {Cu F G A B S V W : Type 0} → input_trait.Ghosts I Cu Tok Sp
      → (F → Makes I Tok Sp St Mk Cx (V × W) W) → (G → V → W → W → Type 0) → (A → Does I Tok Sp Er St Mk Cx S)
      → (A → IterParserDebug → S → Does I Tok Sp Er St Mk Cx (Next S V)) → (B → Does I Tok Sp Er St Mk Cx W)
      → (FoldrWith F A B V → Does I Tok Sp Er St Mk Cx W) → (Foldr G A B V → Does I Tok Sp Er St Mk Cx W) → FoldrWith F A B V → G → Type 0
  BlindFoldr source folds steps begins gives part foldr_with foldr p folder =
      IsBlind (AtCursor source states) (folds p.folder states) (steps folder)
      → SameOutcomesFrom
      (StandsFrom (AtCursor source states) (begins p.items errors states)
      (λ s. gives p.items (record { nonconsumption_is_ok = false }) s errors states)
      (part p.parser errors states))
      (foldr_with p errors states)
      (foldr (record { items = record { parser = p.items; of = record {} }; parser = p.parser; folder = folder }) errors states)
