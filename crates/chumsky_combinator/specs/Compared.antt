-- Two parsers compared, whose values have one type or two.
-- Main words: DoesSame, DoesNoMore, DoesShown.
use Rattle.std.specs.Prelude.{◌≡◌, option_map, ◌↔◌}
use Rattle.chumsky_input.specs.declared.error.Error as error_trait
use Rattle.chumsky_input.specs.declared.inspector.Inspector as inspector_trait
use Rattle.chumsky_input.specs.Extra.{Shown}
use Rattle.chumsky_input.specs.Outcome.{Meaning, Beginning, Outcome, Verdict, Yes, No, Halt, Clash, IsAnswer, Alike, Agree}
use Rattle.chumsky_input.specs.Words.{Does}
use Rattle.chumsky_parser.specs.Chained.{retold}
use Rattle.chumsky_parser.specs.Showing.{GivesShown}

-- the verdict, its value put through a function
abbrev pub put_through : {V W Er : Type 0} → (V → W) → Verdict V Er → Verdict W Er
put_through f (Yes v) = Yes (option_map f v)
put_through f No = No
put_through f (Halt s) = Halt s
put_through f (Clash e) = Clash e

-- the outcome, its value put through a function
abbrev pub shown_as : {V W Er St : Type 0} → (V → W) → Outcome V Er St → Outcome W Er St
shown_as f o = retold (put_through f o.verdict) o

module _ {Tok Cx St Er V W : Type 0} (f : V → W) where
  -- each outcome of the one is one of the other, its value put through f
  abbrev pub ShownAs : Meaning Tok Cx St Er V → Meaning Tok Cx St Er W → Type 0
  ShownAs m n = (b : Beginning Tok Cx St) (o : Outcome V Er St) → m b o → n b (shown_as f o)

  -- two answers from alike beginnings agree, the value of the first put through f
  abbrev pub AgreesAs : (W → W → Type 0) → Meaning Tok Cx St Er V → Meaning Tok Cx St Er W → Type 0
  AgreesAs same m n = (b c : Beginning Tok Cx St) (o : Outcome V Er St) (q : Outcome W Er St) → Alike b c → m b o → n c q → IsAnswer o.verdict → IsAnswer q.verdict → Agree same (shown_as f o) q

-- each outcome of the one is one of the other
abbrev pub MeansNoMore : {Tok Cx St Er V : Type 0} → Meaning Tok Cx St Er V → Meaning Tok Cx St Er V → Type 0
MeansNoMore {Tok} {Cx} {St} {Er} {V} m n = (b : Beginning Tok Cx St) (o : Outcome V Er St) → m b o → n b o

-- each outcome of the one is one of the other, and the other way round
abbrev pub SameOutcomes : {Tok Cx St Er V : Type 0} → Meaning Tok Cx St Er V → Meaning Tok Cx St Er V → Type 0
SameOutcomes {Tok} {Cx} {St} {Er} {V} m n = (b : Beginning Tok Cx St) (o : Outcome V Er St) → m b o ↔ n b o

module _ {I Tok Sp Er St Mk Cx : Type 0} (errors : error_trait.Ghosts Er I Tok Sp) (states : inspector_trait.Ghosts St I Mk Tok Sp) where
  -- each outcome of the one parser is one of the other, in the words of its errors and of its states
  abbrev pub DoesNoMore : {V : Type 0} → Does I Tok Sp Er St Mk Cx V → Does I Tok Sp Er St Mk Cx V → Type 0
  DoesNoMore one other = MeansNoMore (one errors states) (other errors states)

  -- each outcome of the one parser is one of the other, and the other way round
  abbrev pub DoesSame : {V : Type 0} → Does I Tok Sp Er St Mk Cx V → Does I Tok Sp Er St Mk Cx V → Type 0
  DoesSame one other = SameOutcomes (one errors states) (other errors states)

  -- each outcome of the one parser is one of the other, its value put through a function
  abbrev pub DoesShown : {V W : Type 0} → (V → W) → Does I Tok Sp Er St Mk Cx V → Does I Tok Sp Er St Mk Cx W → Type 0
  DoesShown f one other = ShownAs f (one errors states) (other errors states)

-- a mapper that takes no notice of what it is shown, and leaves the state: it answers as this one
pub record MapsBlindly {Tok Cx St V W : Type 0} (gives : GivesShown Tok Cx St V W) (maps : V → W → Type 0) : Type 0 where
  pub sees : (v : V) (x : Shown Tok Cx St) (w : W) (s : St) → gives v x w s → maps v w × (s ≡ x.state)
  pub answers : (v : V) (x : Shown Tok Cx St) (w : W) → maps v w → gives v x w x.state

-- the same three values, in pairs from the right and from the left
abbrev pub regroup : {U V W : Type 0} → (U × V) × W → U × (V × W)
regroup p = (p.0.0, (p.0.1, p.1))

abbrev pub ungroup : {U V W : Type 0} → U × (V × W) → (U × V) × W
ungroup p = ((p.0, p.1.0), p.1.1)
