-- A part whose value is judged.
use Rattle.std.specs.Prelude.{◌≡◌, ℕ, Bool, true, false, Option, Some, None, Result, Ok, Err, ◌⊎◌, ⊤}
use Rattle.chumsky_input.specs.declared.error.Error as error_trait
use Rattle.chumsky_input.specs.declared.input.Input as input_trait
use Rattle.chumsky_input.specs.Outcome.{Event, Meaning, Beginning, Outcome, Yes, Alike}
use Rattle.chumsky_parser.specs.Chained.{retold, Asked}
use Rattle.chumsky_parser.specs.Failure.{wanting}
use Rattle.chumsky_judge.specs.Judged.{as_one, failing, OrClash, OrLacks, OfYes, Judged, NoAsOne, something_else}

-- what a judge may answer to a value of a part, which ran from a beginning to a place and left a state: another value, or an
-- error; and the state that the judge leaves
abbrev pub Vets : (Tok Cx St Er V W : Type 0) → Type 1
Vets Tok Cx St Er V W = Beginning Tok Cx St → ℕ → St → V → Result W Er → St → Type 0

module _ {Tok Cx St Er V W : Type 0} (merged : Er → Er → Er) (free : Type 0) where
  -- an accepted value stands, and the part's events count as one; a refusal is one event at the start in their place, whose
  -- error may have to be built
  abbrev pub OnRuling : Result W Er → St → Beginning Tok Cx St → Outcome V Er St → Outcome W Er St → Type 0
  OnRuling (Ok w) s b p o = OrClash (record (retold (Yes (wanting b.wanted w)) (as_one merged p)) { state = s }) o
  OnRuling (Err e) s b p o = OrLacks free (record (failing (record { place = b.start; error = e }) p) { state = s }) o

  module _ (vets : Vets Tok Cx St Er V W) where
    -- some answer of the judge to the part's value
    abbrev pub Vetting : OfYes Tok Cx St Er V W
    Vetting b (Some v) p o = (r : Result W Er) × (s : St) × vets b p.end p.state v r s × OnRuling r s b p o
    Vetting b None p o = ⊥

    -- the part, which always runs for its value, and then the judge
    pub record Vetted (part : Meaning Tok Cx St Er V) (b : Beginning Tok Cx St) (o : Outcome W Er St) : Type 0 where
      pub run : Judged (Asked true part) Vetting (NoAsOne merged) b o

-- two answers of judges: values that are the same, or one error
abbrev pub SameRuling : {W Er : Type 0} → (W → W → Type 0) → Result W Er → Result W Er → Type 0
SameRuling same (Ok w) (Ok x) = same w x
SameRuling same (Ok w) (Err e) = ⊥
SameRuling same (Err d) (Ok x) = ⊥
SameRuling same (Err d) (Err e) = d ≡ e

-- to values that are the same, of parts that ran alike, the judge answers the same and leaves one state
abbrev pub VetsAlike : {Tok Cx St Er V W : Type 0} → (V → V → Type 0) → (W → W → Type 0) → Vets Tok Cx St Er V W → Type 0
VetsAlike {Tok} {Cx} {St} {Er} {V} {W} same same_out vets =
    (b c : Beginning Tok Cx St) (end : ℕ) (s t t' : St) (v v' : V) (r r' : Result W Er) → Alike b c → same v v' → vets b end s v r t → vets c end s v' r' t' → SameRuling same_out r r' × (t ≡ t')

module _ {I Tok Sp Cu Er St Cx V : Type 0} (source : input_trait.Ghosts I Cu Tok Sp) (errors : error_trait.Ghosts Er I Tok Sp) (tests : V → Bool → Type 0) where
  -- a value that passes the test is accepted as it is; at another something else was expected than the token at the start
  abbrev pub tested : Bool → Beginning Tok Cx St → ℕ → V → Result V errors.Seen
  tested true b end v = Ok v
  tested false b end v = Err (something_else source errors b.tokens b.start end).error

  pub record ByTest (b : Beginning Tok Cx St) (end : ℕ) (s : St) (v : V) (r : Result V errors.Seen) (t : St) : Type 0 where
    pub passes : Bool
    pub says : tests v passes
    pub answer : r ≡ tested passes b end v
    pub keeps : t ≡ s

-- the test answers alike to values that are the same
abbrev pub TestsAlike : {V : Type 0} → (V → V → Type 0) → (V → Bool → Type 0) → Type 0
TestsAlike {V} same tests = (v w : V) (x y : Bool) → same v w → tests v x → tests w y → x ≡ y
