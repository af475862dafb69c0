-- The longest run of tokens of a kind, and what is expected where it ends.
-- Main words: leading, run_end, run_state, expected_at. Parsers of runs: TextRun.antt.
use Rattle.std.specs.Prelude.{◌≡◌, ℕ, ◌+◌, Bool, true, false, cond, MatchOption, Option, Some, None, List, [], ◌∷◌, length, slice_get, drop}
use Rattle.chumsky_input.specs.Layout.{Layout}
use Rattle.chumsky_input.specs.declared.error.Error as error_trait
use Rattle.chumsky_input.specs.declared.input.Input as input_trait
use Rattle.chumsky_input.specs.declared.stop.Fault.{Fault}
use Rattle.chumsky_input.specs.declared.stop.Fault.TheVariants as fault
use Rattle.chumsky_input.specs.Held.{Held}
use Rattle.chumsky_input.specs.Outcome.{Event}
use Rattle.chumsky_input.specs.Run.{Fails}
use Rattle.chumsky_input.specs.Wanted.{Wanted}
use Rattle.chumsky_parser.specs.Failure.{expects}
use Rattle.chumsky_primitive.specs.Just.{past}
use Rattle.chumsky_primitive.specs.OneOf.{passes}

-- the items at the front that pass, up to the first that doesn't
abbrev pub leading : {A : Type 0} → (A → Bool) → List A → List A
leading test [] = []
leading test (x ∷ xs) = cond (test x) (x ∷ leading test xs) []

-- the state, told of each token
abbrev pub told_all : {Tok St : Type 0} → (St → Tok → St) → List Tok → St → St
told_all after [] s = s
told_all after (t ∷ ts) s = told_all after ts (after s t)

-- where the run of passing tokens from a place ends, and the state told of them
abbrev pub run_end : {Tok : Type 0} → (Tok → Bool) → Layout Tok → ℕ → ℕ
run_end test ts p = p + length (leading test (drop p ts.list))

abbrev pub run_state : {Tok St : Type 0} → (St → Tok → St) → (Tok → Bool) → Layout Tok → ℕ → St → St
run_state after test ts p s = told_all after (leading test (drop p ts.list)) s

-- the next token, if it passes
abbrev pub one_more : {A : Type 0} → (A → Bool) → Option A → List A
one_more test None = []
one_more test (Some t) = cond (test t) (t ∷ []) []

abbrev pub one_end : {Tok : Type 0} → (Tok → Bool) → Layout Tok → ℕ → ℕ
one_end test ts p = p + length (one_more test (slice_get ts.list p))

abbrev pub one_state : {Tok St : Type 0} → (St → Tok → St) → (Tok → Bool) → Layout Tok → ℕ → St → St
one_state after test ts p s = told_all after (one_more test (slice_get ts.list p)) s

-- whether nothing is expected
abbrev pub is_empty : {A : Type 0} → List A → Bool
is_empty [] = true
is_empty (x ∷ xs) = false

-- the run is taken
abbrev pub ran_on : {Tok Cx St Er : Type 0} → (St → Tok → St) → (Tok → Bool) → Held Tok Cx St Er → Held Tok Cx St Er
ran_on after test h = record h { place = run_end test h.tokens h.place; state = run_state after test h.tokens h.place h.state }

module _ {I Tok Sp Cu Er : Type 0} (source : input_trait.Ghosts I Cu Tok Sp) (errors : error_trait.Ghosts Er I Tok Sp) where
  -- the event where this was expected at a place, of what stands there
  abbrev pub expected_at : List (Wanted Tok) → Layout Tok → ℕ → Event errors.Seen
  expected_at what ts p = expects source errors ts what (slice_get ts.list p) p (past (slice_get ts.list p) p)

  -- at the end of a run this was expected, of which an event is added; nothing is done where it is nothing
  abbrev pub EndsRun : {Cx St : Type 0} → List (Wanted Tok) → Held Tok Cx St errors.Seen → Held Tok Cx St errors.Seen → Fault → Type 0
  EndsRun [] old new f = (f ≡ fault.Fail) × (new ≡ old)
  EndsRun (w ∷ ws) old new f = Fails errors.merged errors.takes_no_memory (expected_at (w ∷ ws) old.tokens old.place) old new f

-- a token that passes is taken, and this may follow it
pub record Begins {Tok Cx St Er R : Type 0} (after : St → Tok → St) (test : Tok → Bool) (rest_after : Tok → R) (fits : R → Type 0) (old new : Held Tok Cx St Er) (r : R) : Type 0 where
  pub first : Tok
  pub there : slice_get old.tokens.list old.place ≡ Some first
  pub passes : test first ≡ true
  pub rest : r ≡ rest_after first
  pub fit : fits r
  pub taken : new ≡ record old { place = old.place + 1; state = after old.state first }

-- whether a token that passes was there, and is taken; else nothing is done
abbrev pub StepsBy : {Tok Cx St Er : Type 0} → (St → Tok → St) → (Tok → Bool) → Bool → Held Tok Cx St Er → Held Tok Cx St Er → Type 0
StepsBy {Tok} after test true old new = (t : Tok) × (slice_get old.tokens.list old.place ≡ Some t) × (test t ≡ true) × (new ≡ record old { place = old.place + 1; state = after old.state t })
StepsBy after test false old new = (passes test (slice_get old.tokens.list old.place) ≡ false) × (new ≡ old)

-- what may follow a token that passes, which was there and is taken; else nothing is done
abbrev pub BeginsBy : {Tok Cx St Er R : Type 0} → (St → Tok → St) → (Tok → Bool) → (Tok → R) → (R → Type 0) → Option R → Held Tok Cx St Er → Held Tok Cx St Er → Type 0
BeginsBy after test rest_after fits result old new = MatchOption result (StepsBy after test false old new) (λ r. Begins after test rest_after fits old new r)
