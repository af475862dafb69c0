-- Items that are configured by the context, or refused with an error.
-- Main words: TrySets, BeginsTried. Laws: TriedItemsLaws.antt. Steps: GivesBeside of ConfiguredItems.antt.
use Rattle.std.specs.Prelude.{◌≡◌, option_map, Result, Ok, Err}
use Rattle.chumsky_input.specs.declared.error.Error as error_trait
use Rattle.chumsky_input.specs.declared.input.Input as input_trait
use Rattle.chumsky_input.specs.Outcome.{Meaning, Beginning, Outcome}
use Rattle.chumsky_parser.specs.Chained.{Chained, Given}
use Rattle.chumsky_parser.specs.Failure.{FailsAt}

-- r is what is answered to a default configuration under the context x, with the span s: a configuration or an error
pub record TrySets {C Cx Sp R : Type 0} (default : C → Type 0) (gives : C → Cx → Sp → Result C R → Type 0) (x : Cx) (s : Sp) (r : Result C R) : Type 0 where
  pub start : C
  pub is_default : default start
  pub made : gives start x s r

-- equal configurations, or errors that count as one
abbrev pub SameConfig : {C R S : Type 0} → (R → S) → Result C R → Result C R → Type 0
SameConfig seen (Ok c) (Ok d) = c ≡ d
SameConfig seen (Ok c) (Err e) = ⊥
SameConfig seen (Err e) (Ok d) = ⊥
SameConfig seen (Err e) (Err f) = seen e ≡ seen f

-- under one context, with one span, there is one ruling
abbrev pub OneRuling : {C Cx Sp R S : Type 0} → (R → S) → (Cx → Sp → Result C R → Type 0) → Type 0
OneRuling {C} {Cx} {Sp} {R} seen tries = (x : Cx) (s : Sp) (r q : Result C R) → tries x s r → tries x s q → SameConfig seen r q

module _ {I Tok Sp Cu Er St Cx S C : Type 0} (source : input_trait.Ghosts I Cu Tok Sp) (errors : error_trait.Ghosts Er I Tok Sp) where
  -- by a configuration an iteration is made, beside it; by an error the run fails here
  abbrev pub ByRuling : Meaning Tok Cx St errors.Seen S → Result C Er → Meaning Tok Cx St errors.Seen (S × C)
  ByRuling begins (Ok c) b o = Chained begins (λ s. Given (option_map (λ t. (t, c)) s)) b o
  ByRuling begins (Err e) b o = FailsAt (record { place = b.start; error = errors.seen e }) b.start b.state o

  -- a ruling is made under the context, with the empty span here, and followed
  pub record BeginsTried (tries : Cx → Sp → Result C Er → Type 0) (begins : Meaning Tok Cx St errors.Seen S) (b : Beginning Tok Cx St) (o : Outcome (S × C) errors.Seen St) : Type 0 where
    pub ruling : Result C Er
    pub says : tries b.context (source.span_between b.tokens b.start b.start) ruling
    pub does : ByRuling begins ruling b o
