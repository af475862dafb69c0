-- What is made of a value by what is shown the run.
use Rattle.std.specs.Prelude.{◌≡◌, ℕ, Option, Some, None, []}
use Rattle.chumsky_input.specs.declared.inspector.Inspector as inspector_trait
use Rattle.chumsky_input.specs.Extra.{Shown}
use Rattle.chumsky_input.specs.Outcome.{Meaning, Beginning, Outcome, Yes}
use Rattle.chumsky_parser.specs.Chained.{Given}

-- what is given for a value and what is shown, and the state that is left
abbrev pub GivesShown : (Tok Cx St V W : Type 0) → Type 1
GivesShown Tok Cx St V W = V → Shown Tok Cx St → W → St → Type 0

-- the same, in the words of the states
abbrev pub Makes : (I Tok Sp St Mk Cx V W : Type 0) → Type 1
Makes I Tok Sp St Mk Cx V W = (states : inspector_trait.Ghosts St I Mk Tok Sp) → GivesShown Tok Cx states.Seen V W

module _ {Tok Cx St V W : Type 0} (gives : GivesShown Tok Cx St V W) where
  -- to one value and one run one answer, and the state is left as it is
  abbrev pub OnlyAnswers : Type 0
  OnlyAnswers = (v : V) (x : Shown Tok Cx St) (w w' : W) (s t : St) → gives v x w s → gives v x w' t → (w ≡ w') × (s ≡ x.state)

  -- two answers to values that are the same, shown one run
  pub record SameShown (same : V → V → Type 0) (w w' : W) : Type 0 where
    pub first : V
    pub second : V
    pub shown : Shown Tok Cx St
    pub state : St
    pub other_state : St
    pub alike : same first second
    pub from_first : gives first shown w state
    pub from_second : gives second shown w' other_state

-- what is shown here of a run, from a place on
abbrev pub shown_since : {Tok Cx St : Type 0} → ℕ → Beginning Tok Cx St → Shown Tok Cx St
shown_since from b = record { tokens = b.tokens; from = from; to = b.start; context = b.context; state = b.state }

module _ {Tok Cx St Er V W : Type 0} (gives : GivesShown Tok Cx St V W) where
  abbrev pub GivenSince : ℕ → Option V → Meaning Tok Cx St Er W
  GivenSince from (Some v) b o = (w : W) × (s : St) × gives v (shown_since from b) w s × (o ≡ record { verdict = Yes (Some w); end = b.start; state = s; events = []; emitted = [] })
  GivenSince from None b o = Given None b o

  -- an answer, where there is a value, to what ran since this place
  pub record GivenShown (from : ℕ) (v : Option V) (b : Beginning Tok Cx St) (o : Outcome W Er St) : Type 0 where
    pub by_value : GivenSince from v b o
