-- A fixed sequence of tokens.
use Rattle.std.specs.Prelude.{◌≡◌, ℕ, ◌+◌, Bool, true, false, Option, Some, None, List, [], ◌∷◌, ◌⊎◌, slice_get}
use Rattle.chumsky_input.specs.declared.error.Error as error_trait
use Rattle.chumsky_input.specs.declared.inspector.Inspector as inspector_trait
use Rattle.chumsky_input.specs.declared.input.Input as input_trait
use Rattle.chumsky_input.specs.Wanted as wanted
use Rattle.chumsky_input.specs.Outcome.{Meaning, Beginning, Outcome, Yes}
use Rattle.chumsky_parser.specs.Chained.{Chained, Given}
use Rattle.chumsky_parser.specs.Copied.{GivesCopy}
use Rattle.chumsky_parser.specs.Failure.{Refuses, Misses, expects}

-- the place past what was found at one
abbrev pub past : {Tok : Type 0} → Option Tok → ℕ → ℕ
past None p = p
past (Some t) p = p + 1

-- the state, told of what was found
abbrev pub told : {Tok St : Type 0} → (St → Tok → St) → Option Tok → St → St
told after None s = s
told after (Some t) s = after s t

-- there is a member
abbrev pub has_members : {T : Type 0} → List T → Bool
has_members [] = false
has_members (x ∷ xs) = true

-- what was found is a token that equals the member
abbrev pub is_member : {Tok : Type 0} → (Tok → Tok → Bool) → Tok → Option Tok → Bool
is_member equal m None = false
is_member equal m (Some t) = equal m t

module _ {I Tok Sp Cu Er St Mk Cx : Type 0} (source : input_trait.Ghosts I Cu Tok Sp) (equal : Tok → Tok → Bool)
    (errors : error_trait.Ghosts Er I Tok Sp) (states : inspector_trait.Ghosts St I Mk Tok Sp) where
  -- a member is taken; where another token or none is found, that is gone back from
  abbrev pub MeansMemberFound : Tok → Option Tok → Bool → Meaning Tok Cx states.Seen errors.Seen (Unit {0})
  MeansMemberFound m found true b o = o ≡ record { verdict = Yes None; end = past found b.start; state = told states.after found b.state; events = []; emitted = [] }
  MeansMemberFound m found false b o =
      let gone = told states.after found b.state in
      Refuses (states.takes_no_memory → ⊥) gone o
      ⊎ Misses errors.takes_no_memory
      (expects source errors b.tokens (wanted.Token m ∷ []) found b.start (past found b.start)) b.start
      (states.back gone (states.mark b.state)) o

  -- one member
  pub record MeansMember (m : Tok) (b : Beginning Tok Cx states.Seen) (o : Outcome (Unit {0}) errors.Seen states.Seen) : Type 0 where
    pub by_token : Refuses (states.takes_no_memory → ⊥) b.state o ⊎ MeansMemberFound m (slice_get b.tokens.list b.start) (is_member equal m (slice_get b.tokens.list b.start)) b o

  -- the members, each where the former ended
  abbrev pub MeansMembers : List Tok → Meaning Tok Cx states.Seen errors.Seen (Unit {0})
  MeansMembers [] = Given None
  MeansMembers (m ∷ ms) = Chained (MeansMember m) (λ _. MeansMembers ms)

  -- all the members, and then a copy of their sequence
  abbrev pub MeansJust : {V : Type 0} → (V → Type 0) → Type 0 → List Tok → Meaning Tok Cx states.Seen errors.Seen V
  MeansJust copies safe ms = Chained (MeansMembers ms) (λ _. GivesCopy copies safe)
