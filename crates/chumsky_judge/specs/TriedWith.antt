-- A fallible mapper that is shown the run.
use Rattle.std.specs.Prelude.{◌≡◌, ℕ, Result, Ok, Err, ⊤}
use Rattle.chumsky_input.specs.Extra.{Shown}
use Rattle.chumsky_input.specs.Outcome.{Beginning}
use Rattle.chumsky_parser.specs.Showing.{GivesShown}
use Rattle.chumsky_judge.specs.Vetted.{SameRuling}
use Rattle.chumsky_judge.specs.Tried.{ruling_seen}

-- what is shown of a part that ran from a beginning to a place and left a state
abbrev pub shown_of : {Tok Cx St : Type 0} → Beginning Tok Cx St → ℕ → St → Shown Tok Cx St
shown_of b end s = record { tokens = b.tokens; from = b.start; to = end; context = b.context; state = s }

module _ {Tok Cx St E Er V W : Type 0} (seen : E → Er) (says : GivesShown Tok Cx St V (Result W E)) where
  -- what a fallible closure answers to the value of the part, shown what the part took
  pub record ByTryWith (b : Beginning Tok Cx St) (end : ℕ) (s : St) (v : V) (r : Result W Er) (t : St) : Type 0 where
    pub ruling : Result W E
    pub answers : says v (shown_of b end s) ruling t
    pub answer : r ≡ ruling_seen seen ruling

  module _ (same : V → V → Type 0) where
    -- to values that are the same and one run, two values, or errors that count as one; and one state
    abbrev pub TriesWithAlike : Type 0
    TriesWithAlike =
        (v w : V) (x : Shown Tok Cx St) (r r' : Result W E) (s t : St) → same v w → says v x r s → says w x r' t
        → SameRuling (λ _ _. ⊤) (ruling_seen seen r) (ruling_seen seen r') × (s ≡ t)

    -- two values that the closure made of values that are the same, shown one run
    pub record SameTriedWith (x y : W) : Type 0 where
      pub first : V
      pub second : V
      pub shown : Shown Tok Cx St
      pub state : St
      pub other_state : St
      pub alike : same first second
      pub from_first : says first shown (Ok x) state
      pub from_second : says second shown (Ok y) other_state
