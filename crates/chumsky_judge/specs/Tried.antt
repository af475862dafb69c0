-- Judges that make another value, or refuse.
use Rattle.std.specs.Prelude.{◌≡◌, ℕ, Option, Some, None, Result, Ok, Err, ⊤}
use Rattle.chumsky_input.specs.declared.error.Error as error_trait
use Rattle.chumsky_input.specs.declared.input.Input as input_trait
use Rattle.chumsky_input.specs.Outcome.{Beginning}
use Rattle.chumsky_judge.specs.Judged.{something_else}
use Rattle.chumsky_judge.specs.Vetted.{Vets, SameRuling}

-- an answer, by what counts of its error
abbrev pub ruling_seen : {W E S : Type 0} → (E → S) → Result W E → Result W S
ruling_seen seen (Ok w) = Ok w
ruling_seen seen (Err e) = Err (seen e)

module _ {I Tok Sp Cu Er St Cx W : Type 0} (source : input_trait.Ghosts I Cu Tok Sp) (errors : error_trait.Ghosts Er I Tok Sp) where
  -- the value that was picked, and where there is none something else was expected than the token at the start
  abbrev pub picked : Option W → Beginning Tok Cx St → ℕ → Result W errors.Seen
  picked (Some w) b end = Ok w
  picked None b end = Err (something_else source errors b.tokens b.start end).error

module _ {I Tok Sp Cu Er St Cx V W : Type 0} (source : input_trait.Ghosts I Cu Tok Sp) (errors : error_trait.Ghosts Er I Tok Sp) where
  -- what a fallible mapper answers to the value and the span of the part
  pub record ByTry (gives : V → Sp → Result W Er → Type 0) (b : Beginning Tok Cx St) (end : ℕ) (s : St) (v : V) (r : Result W errors.Seen) (t : St) : Type 0 where
    pub ruling : Result W Er
    pub says : gives v (source.span_between b.tokens b.start end) ruling
    pub answer : r ≡ ruling_seen errors.seen ruling
    pub keeps : t ≡ s

  -- what a picking mapper answers to the value of the part
  pub record ByPick (gives : V → Option W → Type 0) (b : Beginning Tok Cx St) (end : ℕ) (s : St) (v : V) (r : Result W errors.Seen) (t : St) : Type 0 where
    pub pick : Option W
    pub says : gives v pick
    pub answer : r ≡ picked source errors pick b end
    pub keeps : t ≡ s

module _ {V W Sp Er S : Type 0} (same : V → V → Type 0) (seen : Er → S) (gives : V → Sp → Result W Er → Type 0) where
  -- to values that are the same, with one span, two values, or errors that count as one
  abbrev pub TriesAlike : Type 0
  TriesAlike = (v w : V) (span : Sp) (x y : Result W Er) → same v w → gives v span x → gives w span y → SameRuling (λ _ _. ⊤) (ruling_seen seen x) (ruling_seen seen y)

  -- two values that the mapper made of values that are the same, with one span
  pub record SameTryMapped (x y : W) : Type 0 where
    pub first : V
    pub second : V
    pub span : Sp
    pub alike : same first second
    pub from_first : gives first span (Ok x)
    pub from_second : gives second span (Ok y)

-- two picks, or none twice
abbrev pub SamePick : {W : Type 0} → (W → W → Type 0) → Option W → Option W → Type 0
SamePick same (Some v) (Some w) = same v w
SamePick same (Some v) None = ⊥
SamePick same None (Some w) = ⊥
SamePick same None None = ⊤

module _ {V W : Type 0} (same : V → V → Type 0) (gives : V → Option W → Type 0) where
  -- of values that are the same, both are picked or neither is
  abbrev pub FilterMapsAlike : Type 0
  FilterMapsAlike = (v w : V) (x y : Option W) → same v w → gives v x → gives w y → SamePick (λ _ _. ⊤) x y

  -- two values that were picked of values that are the same
  pub record SameFilterMapped (x y : W) : Type 0 where
    pub first : V
    pub second : V
    pub alike : same first second
    pub from_first : gives first (Some x)
    pub from_second : gives second (Some y)
