-- Items out of collections in the words of their errors and of their states, and what the laws say of them as parsers.
-- Main words: DoesInHandOrNext, DoesFirstOfNext, IntoIterGives, FlattenGives. Read first: Flattening.antt, Compared.antt.
use Rattle.std.specs.Prelude.{◌≡◌, false, Option}
use Rattle.std.specs.declared.alloc.Global.{Global}
use Rattle.std.specs.declared.vec.Vec.{Vec}
use Rattle.chumsky_input.specs.declared.error.Error as error_trait
use Rattle.chumsky_input.specs.declared.inspector.Inspector as inspector_trait
use Rattle.chumsky_input.specs.Words.{Does}
use Rattle.chumsky_parser.specs.declared.iter.IterParserDebug.{IterParserDebug}
use Rattle.chumsky_parser.specs.Items.{Next}
use Rattle.chumsky_items.specs.declared.collect.Collect.{Collect}
use Rattle.chumsky_items.specs.Consumers.{Collects}
use Rattle.chumsky_flatten.specs.declared.flatten.Flatten.{Flatten}
use Rattle.chumsky_flatten.specs.declared.into_iter.IntoIter.{IntoIter}
use Rattle.chumsky_flatten.specs.Compared.{FlattensCollected, GivesItemsOf}
use Rattle.chumsky_flatten.specs.Flattening.{Inside, FirstOfNext, InHandOrNext}

module _ {I Tok Sp Er St Mk Cx S O : Type 0} (gives : IterParserDebug → S → Does I Tok Sp Er St Mk Cx (Next S O)) where
  -- a step of the items inside; a no is gone back from
  abbrev pub DoesInside : S → Does I Tok Sp Er St Mk Cx (Next S O)
  DoesInside s errors states = Inside states.mark states.back states.takes_no_memory (λ t. gives (record { nonconsumption_is_ok = false }) t errors states) s

  module _ {J A : Type 0} (makes : O → J → Type 0) (nexts : J → Option A → J → Type 0) where
    -- the first item of the collections that follow
    abbrev pub DoesFirstOfNext : S → Does I Tok Sp Er St Mk Cx (Next (S × Option J) A)
    DoesFirstOfNext s errors states =
        FirstOfNext states.mark states.back states.takes_no_memory makes nexts (λ t. gives (record { nonconsumption_is_ok = false }) t errors states) s

    -- the next item of the collection in hand, and where it has no more, the first of those that follow
    abbrev pub DoesInHandOrNext : Option J → S → Does I Tok Sp Er St Mk Cx (Next (S × Option J) A)
    DoesInHandOrNext in_hand s errors states =
        InHandOrNext states.mark states.back states.takes_no_memory makes nexts (λ t. gives (record { nonconsumption_is_ok = false }) t errors states) in_hand s

module _ {I Tok Sp Er St Mk Cx A O J V : Type 0} (errors : error_trait.Ghosts Er I Tok Sp)
    (states : inspector_trait.Ghosts St I Mk Tok Sp) (makes : O → J → Type 0)
    (nexts : J → Option V → J → Type 0) where
  -- what `collect` of `into_iter` into a `Vec` gives are the items of what the parser inside gives
  abbrev pub IntoIterGives : (A → Does I Tok Sp Er St Mk Cx O) → (Collect (IntoIter A O) V (Vec V Global) → Does I Tok Sp Er St Mk Cx (Vec V Global)) → Collect (IntoIter A O) V (Vec V Global) → Type 0
  IntoIterGives part whole p = GivesItemsOf makes nexts (λ xs (v : Vec V Global). v.items ≡ xs) (part p.parser.parser errors states) (whole p errors states)

  -- what `collect` of `flatten` into a `Vec` gives are the items of the collections that the items inside, collected, are
  abbrev pub FlattenGives : {S : Type 0} → (A → Does I Tok Sp Er St Mk Cx S)
      → (A → IterParserDebug → S → Does I Tok Sp Er St Mk Cx (Next S O))
      → (Collect (Flatten A O) V (Vec V Global) → Does I Tok Sp Er St Mk Cx (Vec V Global))
      → Collect (Flatten A O) V (Vec V Global) → Type 0
  FlattenGives begins gives whole p =
      FlattensCollected makes nexts (λ os (v : Vec O Global). v.items ≡ os) (λ xs (v : Vec V Global). v.items ≡ xs)
      (Collects (λ s. gives p.parser.parser (record { nonconsumption_is_ok = false }) s errors states)
      (begins p.parser.parser errors states) (λ os (v : Vec O Global). v.items ≡ os) ⊥)
      (whole p errors states)
