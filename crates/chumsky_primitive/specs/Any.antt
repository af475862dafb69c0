-- Any token.
use Rattle.std.specs.Prelude.{◌≡◌, ◌+◌, true, Option, Some, None, [], ◌∷◌, ◌⊎◌, slice_get}
use Rattle.std.specs.Borrow.{Bor}
use Rattle.chumsky_input.specs.declared.error.Error as error_trait
use Rattle.chumsky_input.specs.declared.inspector.Inspector as inspector_trait
use Rattle.chumsky_input.specs.declared.input.Input as input_trait
use Rattle.chumsky_input.specs.Wanted as wanted
use Rattle.chumsky_input.specs.Outcome.{Meaning, Beginning, Outcome, Yes}
use Rattle.chumsky_parser.specs.Failure.{IsWanted, Refuses, Misses, expects}

-- v counts as the token t
abbrev pub CountsAs : {Tok S : Type 0} → (Tok → S) → Tok → Tok → Type 0
CountsAs seen t v = seen v ≡ seen t

-- v points to the token t
abbrev pub PointsTo : {Tok : Type 0} → Tok → Bor Tok → Type 0
PointsTo t v = v.now ≡ t

-- `IsOf t v` says that v is the token t, by value or by reference
module _ {I Tok Sp Cu Er St Mk Cx V : Type 0} (source : input_trait.Ghosts I Cu Tok Sp) (IsOf : Tok → V → Type 0)
    (safe : Tok → Type 0) (errors : error_trait.Ghosts Er I Tok Sp)
    (states : inspector_trait.Ghosts St I Mk Tok Sp) where
  -- a token is there, and is taken: with a value where one is wanted
  pub record Takes (t : Tok) (b : Beginning Tok Cx states.Seen) (o : Outcome V errors.Seen states.Seen) : Type 0 where
    pub value : Option V
    pub is_value : IsWanted (IsOf t) b.wanted value
    pub outcome : o ≡ record { verdict = Yes value; end = b.start + 1; state = states.after b.state t; events = []; emitted = [] }

  abbrev pub MeansAnyAt : Option Tok → Meaning Tok Cx states.Seen errors.Seen V
  MeansAnyAt (Some t) b o = Refuses ((b.wanted ≡ true) × (safe t → ⊥)) b.state o ⊎ Takes t b o
  MeansAnyAt None b o = Misses errors.takes_no_memory (expects source errors b.tokens (wanted.Any ∷ []) None b.start b.start) b.start b.state o

  pub record MeansAny (b : Beginning Tok Cx states.Seen) (o : Outcome V errors.Seen states.Seen) : Type 0 where
    pub by_token : MeansAnyAt (slice_get b.tokens.list b.start) b o
