-- Parsers compared with their parts.
use Rattle.std.specs.Prelude.{◌≡◌, ℕ, Bool, Option, Some, None, List, [], Result, Ok, true}
use Rattle.std.specs.Borrow.{MutBor}
use Rattle.std.specs.Fn.{Shared}
use Rattle.chumsky_input.specs.declared.error.Error as error_trait
use Rattle.chumsky_input.specs.declared.inspector.Inspector as inspector_trait
use Rattle.chumsky_input.specs.declared.input.Input as input_trait
use Rattle.chumsky_input.specs.declared.map_extra.MapExtra.{MapExtra}
use Rattle.chumsky_input.specs.Extra.{Shown, MayAnswer}
use Rattle.chumsky_input.specs.Outcome.{Meaning, Beginning, Outcome, Verdict, Yes, No, Halt, Clash, IsAnswer}
use Rattle.chumsky_parser.specs.Chained.{retold}
use Rattle.chumsky_input.specs.Words.{Does}
use Rattle.chumsky_parser.specs.Failure.{wanting}
use Rattle.chumsky_parser.specs.Showing.{GivesShown}
use Rattle.chumsky_combinator.specs.Compared.{SameOutcomes}
use Rattle.chumsky_judge.specs.declared.try_map.TryMap.{TryMap}
use Rattle.chumsky_judge.specs.declared.try_map_with.TryMapWith.{TryMapWith}
use Rattle.chumsky_judge.specs.MapErr.{ErrMaps}
use Rattle.chumsky_judge.specs.Judged.{as_one}
use Rattle.chumsky_judge.specs.TriedWith.{shown_of}
use Rattle.chumsky_judge.specs.Validated.{Emits}

module _ {Tok Cx St Er V : Type 0} where
  -- a yes ends where it began
  abbrev pub YesStays : Meaning Tok Cx St Er V → Type 0
  YesStays m = (b : Beginning Tok Cx St) (o : Outcome V Er St) (v : Option V) → m b o → o.verdict ≡ Yes v → o.end ≡ b.start

module _ {Er V W : Type 0} (becomes : V → W → Type 0) (wanted : Bool) where
  -- a yes stays a yes, where one is wanted with what its value becomes; and a no a no
  abbrev pub BecomesBy : Verdict V Er → Verdict W Er → Type 0
  BecomesBy (Yes (Some v)) u = (w : W) × becomes v w × (u ≡ Yes (wanting wanted w))
  BecomesBy (Yes None) u = ⊥
  BecomesBy No u = u ≡ No
  BecomesBy (Halt s) u = ⊥
  BecomesBy (Clash e) u = ⊥

module _ {Tok Cx St Er V W : Type 0} (merged : Er → Er → Er) (becomes : Beginning Tok Cx St → ℕ → V → W → Type 0) (part : Meaning Tok Cx St Er V) where
  -- an outcome of the part, run for its value, with its end and its state and its emitted errors; its events count as one
  pub record AsPart (b : Beginning Tok Cx St) (o : Outcome W Er St) : Type 0 where
    pub first : Outcome V Er St
    pub meant : part (record b { wanted = true }) first
    pub verdict : BecomesBy (becomes b first.end) b.wanted first.verdict o.verdict
    pub rest : o ≡ retold o.verdict (as_one merged first)

  -- so is each answer
  abbrev pub AnswersAsPart : Meaning Tok Cx St Er W → Type 0
  AnswersAsPart m = (b : Beginning Tok Cx St) (o : Outcome W Er St) → m b o → IsAnswer o.verdict → AsPart b o

module _ {Tok Cx St Er V : Type 0} (part : Meaning Tok Cx St Er V) where
  -- each yes ends where a yes of the part ends, with its value
  abbrev pub YesEndsAs : Meaning Tok Cx St Er V → Type 0
  YesEndsAs m = (b : Beginning Tok Cx St) (o : Outcome V Er St) (v : Option V) → m b o → o.verdict ≡ Yes v → (p : Outcome V Er St) × part b p × (p.verdict ≡ Yes v) × (o.end ≡ p.end)

module _ {Tok Cx St Er V W : Type 0} (becomes : Beginning Tok Cx St → Outcome V Er St → V → W → Type 0) (part : Meaning Tok Cx St Er V) where
  -- an outcome of the part, run for its value, and all of it but what its value becomes
  pub record JustAsPart (b : Beginning Tok Cx St) (o : Outcome W Er St) : Type 0 where
    pub first : Outcome V Er St
    pub meant : part (record b { wanted = true }) first
    pub verdict : BecomesBy (becomes b first) b.wanted first.verdict o.verdict
    pub rest : o ≡ retold o.verdict first

  -- so is each answer
  abbrev pub AnswersJustAsPart : Meaning Tok Cx St Er W → Type 0
  AnswersJustAsPart m = (b : Beginning Tok Cx St) (o : Outcome W Er St) → m b o → IsAnswer o.verdict → JustAsPart b o

-- a validator that emits nothing, and leaves the state
abbrev pub EmitsNothing : {Tok Cx St Er V W : Type 0} → Emits Tok Cx St Er V W → Type 0
EmitsNothing {Tok} {Cx} {St} {Er} {V} {W} emits = (v : V) (x : Shown Tok Cx St) (w : W) (s : St) (emitted : Option (List Er)) → emits v x w s emitted → (emitted ≡ Some []) × (s ≡ x.state)

-- a test that every value passes
abbrev pub PassesEach : {V : Type 0} → (V → Bool → Type 0) → Type 0
PassesEach {V} tests = (v : V) (passes : Bool) → tests v passes → passes ≡ true

-- a picker that picks of every value
abbrev pub PicksEach : {V W : Type 0} → (V → Option W → Type 0) → Type 0
PicksEach {V} {W} gives = (v : V) (r : Option W) → gives v r → (w : W) × (r ≡ Some w)

-- a fallible mapper that refuses no value
abbrev pub MapsEach : {V W Sp Er : Type 0} → (V → Sp → Result W Er → Type 0) → Type 0
MapsEach {V} {W} {Sp} {Er} gives = (v : V) (span : Sp) (r : Result W Er) → gives v span r → (w : W) × (r ≡ Ok w)

-- what it makes of the value of a part, and of the span that the part took
abbrev pub maps_spanned : {I Cu Tok Sp Cx St Er V W : Type 0} → input_trait.Ghosts I Cu Tok Sp → (V → Sp → Result W Er → Type 0) → Beginning Tok Cx St → ℕ → V → W → Type 0
maps_spanned source gives b end v w = gives v (source.span_between b.tokens b.start end) (Ok w)

-- `parser.try_map_by(mapper)`
abbrev pub try_map_of : {A O F U : Type 0} → A → F → TryMap A O F U
try_map_of parser mapper = record { parser = parser; mapper = mapper; of = record {} }

-- a fallible mapper that takes no notice of the run but for the span, and leaves the state: it answers as this one
pub record TriesBlindly {I Cu Tok Sp Cx St Er V W : Type 0} (source : input_trait.Ghosts I Cu Tok Sp)
    (says : GivesShown Tok Cx St V (Result W Er)) (gives : V → Sp → Result W Er → Type 0) : Type 0 where
  pub sees : (v : V) (x : Shown Tok Cx St) (r : Result W Er) (s : St) → says v x r s → gives v (source.span_between x.tokens x.from x.to) r × (s ≡ x.state)
  pub answers : (v : V) (x : Shown Tok Cx St) (r : Result W Er) → gives v (source.span_between x.tokens x.from x.to) r → says v x r x.state

-- a mapper that is handed the error alone, and gives back each
abbrev pub GivesBackAlone : {Er : Type 0} → (Er → Er → Type 0) → Type 0
GivesBackAlone {Er} maps = (e r : Er) → maps e r → r ≡ e

-- a mapper that is handed a span and the state, gives back each error and leaves the state
abbrev pub GivesBackFrom : {Sp St Er : Type 0} → (Sp → St → Er → Er → St → Type 0) → Type 0
GivesBackFrom {Sp} {St} {Er} maps = (span : Sp) (x : St) (e r : Er) (s : St) → maps span x e r s → (r ≡ e) × (s ≡ x)

-- a mapper that is shown the run, gives back each error and leaves the state
abbrev pub GivesBack : {Tok Cx St Er : Type 0} → ErrMaps Tok Cx St Er → Type 0
GivesBack {Tok} {Cx} {St} {Er} maps = (x : Shown Tok Cx St) (e r : Er) (s : St) → maps x e r s → (r ≡ e) × (s ≡ x.state)

module _ {Tok Cx St Er V : Type 0} (merged : Er → Er → Er) (part m : Meaning Tok Cx St Er V) where
  -- each answer is one of the part, its events counting as one
  abbrev pub AnswersAsOne : Type 0
  AnswersAsOne = (b : Beginning Tok Cx St) (o : Outcome V Er St) → m b o → IsAnswer o.verdict → (p : Outcome V Er St) × part b p × (o ≡ as_one merged p)

  -- each yes is one of the part, its events counting as one; and each yes of the part, with its events so, is one
  pub record SucceedsAsPart : Type 0 where
    pub of_part : (b : Beginning Tok Cx St) (o : Outcome V Er St) (v : Option V) → m b o → o.verdict ≡ Yes v → (p : Outcome V Er St) × part b p × (o ≡ as_one merged p)
    pub each : (b : Beginning Tok Cx St) (p : Outcome V Er St) (v : Option V) → part b p → p.verdict ≡ Yes v → m b (as_one merged p)

-- what a validator gives for the value of a part, shown what the part took, where it leaves the state and emits nothing
abbrev pub validated_quietly : {Tok Cx St Er V W : Type 0} → Emits Tok Cx St Er V W → Beginning Tok Cx St → Outcome V Er St → V → W → Type 0
validated_quietly emits b p v w = emits v (shown_of b p.end p.state) w p.state (Some [])

module _ {I Tok Sp Er St Mk Cx V W : Type 0} (errors : error_trait.Ghosts Er I Tok Sp) (states : inspector_trait.Ghosts St I Mk Tok Sp) where
  -- AnswersAsPart, in the words of the errors and of the states
  abbrev pub DoesAsPart : (Beginning Tok Cx states.Seen → ℕ → V → W → Type 0) → Does I Tok Sp Er St Mk Cx V → Does I Tok Sp Er St Mk Cx W → Type 0
  DoesAsPart becomes part whole = AnswersAsPart errors.merged becomes (part errors states) (whole errors states)

  -- where the validator emits nothing and leaves the state, each answer of the whole is one of the part, but for the value,
  -- which is what the validator gives
  abbrev pub DoesAsPartIfQuiet : Emits Tok Cx states.Seen errors.Seen V W → Does I Tok Sp Er St Mk Cx V → Does I Tok Sp Er St Mk Cx W → Type 0
  DoesAsPartIfQuiet emits part whole = EmitsNothing emits → AnswersJustAsPart (validated_quietly emits) (part errors states) (whole errors states)

module _ {I Tok Sp Er St Mk Cx V : Type 0} (errors : error_trait.Ghosts Er I Tok Sp) (states : inspector_trait.Ghosts St I Mk Tok Sp) where
  -- AnswersAsOne and SucceedsAsPart, in the words of the errors and of the states
  abbrev pub DoesAsOne : Does I Tok Sp Er St Mk Cx V → Does I Tok Sp Er St Mk Cx V → Type 0
  DoesAsOne part whole = AnswersAsOne errors.merged (part errors states) (whole errors states)

  abbrev pub SucceedsAs : Does I Tok Sp Er St Mk Cx V → Does I Tok Sp Er St Mk Cx V → Type 0
  SucceedsAs part whole = SucceedsAsPart errors.merged (part errors states) (whole errors states)

module _ {I X Tok Sp Cu Er St Cx Mk V W A F G : Type 0} (source : input_trait.Ghosts I Cu Tok Sp)
    (errors : error_trait.Ghosts Er I Tok Sp) (states : inspector_trait.Ghosts St I Mk Tok Sp)
    (calls : Shared F (V × (MutBor (MapExtra I X Cu Tok Sp Er St Cx Mk) × Unit {0}))
    (Result W Er × (MutBor (MapExtra I X Cu Tok Sp Er St Cx Mk) × Unit {0})))
    (gives : G → V → Sp → Result W Er → Type 0) where
  -- where the closure of a `try_map_with` takes no notice of the run but for the span, and answers as a mapper, it has the
  -- outcomes of `try_map_by` with that mapper; these are what the two do
  abbrev pub SameIfBlind : {O : Type 0} → (TryMapWith A V F W → Does I Tok Sp Er St Mk Cx O) → (TryMap A V G W → Does I Tok Sp Er St Mk Cx O) → TryMapWith A V F W → G → Type 0
  SameIfBlind one other whole mapper =
      TriesBlindly source (MayAnswer source states calls whole.mapper) (gives mapper) → SameOutcomes (one whole errors states) (other (try_map_of whole.parser mapper) errors states)
