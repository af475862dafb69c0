-- A token that is in a sequence, or that isn't.
use Rattle.std.specs.Prelude.{◌≡◌, Bool, true, false, not, Option, Some, None, List, [], ◌∷◌, ◌⊎◌, slice_get, map}
use Rattle.std.specs.List.{list_any}
use Rattle.chumsky_input.specs.declared.error.Error as error_trait
use Rattle.chumsky_input.specs.declared.inspector.Inspector as inspector_trait
use Rattle.chumsky_input.specs.declared.input.Input as input_trait
use Rattle.chumsky_input.specs.Held.{Held}
use Rattle.chumsky_input.specs.Wanted as wanted
use Rattle.chumsky_input.specs.Wanted.{Wanted}
use Rattle.chumsky_input.specs.Outcome.{Meaning, Beginning, Outcome}
use Rattle.chumsky_parser.specs.Failure.{Refuses, Misses, expects}
use Rattle.chumsky_primitive.specs.Any.{MeansAny, CountsAs}
use Rattle.chumsky_primitive.specs.Just.{past, told}

-- one of the members equals the token
abbrev pub among : {Tok : Type 0} → (Tok → Tok → Bool) → List Tok → Tok → Bool
among equal members t = list_any (λ m. equal m t) members

-- none of the members equals the token
abbrev pub outside : {Tok : Type 0} → (Tok → Tok → Bool) → List Tok → Tok → Bool
outside equal members t = not (among equal members t)

-- what was found is a token that passes the test
abbrev pub passes : {Tok : Type 0} → (Tok → Bool) → Option Tok → Bool
passes test None = false
passes test (Some t) = test t

-- what was found, where that is a token that passes the test
abbrev pub FoundPasses : {Tok : Type 0} → (Tok → Bool) → Option Tok → Option Tok → Type 0
FoundPasses test found None = passes test found ≡ false
FoundPasses test found (Some t) = (found ≡ Some t) × (test t ≡ true)

module _ {Tok Cx St Er : Type 0} where
  -- what was found is told to the state, and gone back from
  abbrev pub gone_back_from : {Mk : Type 0} → (St → Tok → St) → (St → Mk) → (St → Mk → St) → Option Tok → Held Tok Cx St Er → Held Tok Cx St Er
  gone_back_from after mark back found h = record h { state = back (told after found h.state) (mark h.state) }

  -- no memory for the mark, or to go back to it
  abbrev pub StaysAt : Type 0 → (St → Tok → St) → Option Tok → Held Tok Cx St Er → Held Tok Cx St Er → Type 0
  StaysAt safe after found old new = (safe → ⊥) × ((new ≡ old) ⊎ (new ≡ record old { state = told after found old.state }))

module _ {I Tok Sp Cu Er St Mk Cx S : Type 0} (source : input_trait.Ghosts I Cu Tok Sp) (seen : Tok → S)
    (safe : Tok → Type 0) (errors : error_trait.Ghosts Er I Tok Sp)
    (states : inspector_trait.Ghosts St I Mk Tok Sp) where
  -- a token that passes is taken as any token is; another, or none, is gone back from
  abbrev pub MeansFound : List (Wanted Tok) → Option Tok → Bool → Meaning Tok Cx states.Seen errors.Seen Tok
  MeansFound what found true b o = MeansAny source (CountsAs seen) safe errors states b o
  MeansFound what found false b o =
      let gone = told states.after found b.state in
      Refuses (states.takes_no_memory → ⊥) b.state o
      ⊎
      (Refuses (states.takes_no_memory → ⊥) gone o ⊎ Misses errors.takes_no_memory
      (expects source errors b.tokens what found b.start (past found b.start)) b.start
      (states.back gone (states.mark b.state)) o)

  -- one token, by a test
  pub record MeansTested (test : Tok → Bool) (what : List (Wanted Tok)) (b : Beginning Tok Cx states.Seen) (o : Outcome Tok errors.Seen states.Seen) : Type 0 where
    pub by_token : MeansFound what (slice_get b.tokens.list b.start) (passes test (slice_get b.tokens.list b.start)) b o

  -- a member, and where there is none, each was expected
  abbrev pub MeansOneOf : (Tok → Tok → Bool) → List Tok → Meaning Tok Cx states.Seen errors.Seen Tok
  MeansOneOf equal members = MeansTested (among equal members) (map wanted.Token members)

  -- no member, and where there is one, something else was expected
  abbrev pub MeansNoneOf : (Tok → Tok → Bool) → List Tok → Meaning Tok Cx states.Seen errors.Seen Tok
  MeansNoneOf equal members = MeansTested (outside equal members) (wanted.SomethingElse ∷ [])
