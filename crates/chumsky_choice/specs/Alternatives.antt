-- The alternatives of a choice, each in the words of its errors and of its states.
-- Main words: DoesFirst, DoesAmong, TriesInOrder, StandsByOneIn. Laws: AlternativesLaws.antt. Read first: Among.antt, InOrder.antt, and Standing.antt of chumsky_combinator.
use Rattle.std.specs.Prelude.{List, [], ◌∷◌, map}
use Rattle.chumsky_input.specs.declared.error.Error as error_trait
use Rattle.chumsky_input.specs.declared.inspector.Inspector as inspector_trait
use Rattle.chumsky_input.specs.declared.input.Input as input_trait
use Rattle.chumsky_input.specs.Outcome.{Meaning, Beginning, Outcome}
use Rattle.chumsky_input.specs.Words.{Does}
use Rattle.chumsky_parser.specs.Choice.{FirstOf, SameByOne}
use Rattle.chumsky_combinator.specs.Standing.{SameByStandingIfAny, each_meant}
use Rattle.chumsky_choice.specs.Among.{FirstAmong}
use Rattle.chumsky_choice.specs.InOrder.{StandsByOneIfAny}

-- whatever values this calls the same, one of these does
abbrev pub OnlyByOne : {V : Type 0} → (V → V → Type 0) → (V → V → Type 0) → List (V → V → Type 0) → Type 0
OnlyByOne {V} same first others = (x y : V) → same x y → SameByOne first others x y

module _ {I Tok Sp Er St Mk Cx V : Type 0} (errors : error_trait.Ghosts Er I Tok Sp) (states : inspector_trait.Ghosts St I Mk Tok Sp) where
  -- each outcome of the whole is that of the first of its alternatives that does not say no, else of the last; and it has one
  abbrev pub TriesInOrder : Does I Tok Sp Er St Mk Cx V → List (Does I Tok Sp Er St Mk Cx V) → Type 0
  TriesInOrder whole [] = ⊥
  TriesInOrder whole (first ∷ others) =
      (b : Beginning Tok Cx states.Seen) (o : Outcome V errors.Seen states.Seen) → whole errors states b o
      → FirstOf states.mark states.back states.takes_no_memory (first errors states) (each_meant errors states others) b o

  -- in each answer of the whole one of its alternatives stands; where it has none, the answer is no
  abbrev pub StandsByOneIn : Does I Tok Sp Er St Mk Cx V → List (Does I Tok Sp Er St Mk Cx V) → Type 0
  StandsByOneIn whole alternatives = StandsByOneIfAny states.mark states.back (whole errors states) (each_meant errors states alternatives)

module _ {I Tok Sp Er St Mk Cx V : Type 0} where
  -- the first of several parsers that does not say no, else the last
  abbrev pub DoesFirst : Does I Tok Sp Er St Mk Cx V → List (Does I Tok Sp Er St Mk Cx V) → Does I Tok Sp Er St Mk Cx V
  DoesFirst first others errors states = FirstOf states.mark states.back states.takes_no_memory (first errors states) (each_meant errors states others)

module _ {I Tok Sp Cu Er St Mk Cx V X : Type 0} (source : input_trait.Ghosts I Cu Tok Sp) where
  -- the same of the parsers of a list: of none, a failure that expects nothing
  abbrev pub DoesAmong : (X → Does I Tok Sp Er St Mk Cx V) → List X → Does I Tok Sp Er St Mk Cx V
  DoesAmong meaning parsers errors states = FirstAmong source errors states (map (λ p. meaning p errors states) parsers)

module _ {I Tok Sp Er St Mk Cx V X : Type 0} (errors : error_trait.Ghosts Er I Tok Sp) (states : inspector_trait.Ghosts St I Mk Tok Sp) where
  -- in each answer of the whole one of a list of parsers stands; where there is none, the answer is no
  abbrev pub StandsByOneOf : Does I Tok Sp Er St Mk Cx V → (X → Does I Tok Sp Er St Mk Cx V) → List X → Type 0
  StandsByOneOf whole meaning parsers = StandsByOneIfAny states.mark states.back (whole errors states) (map (λ p. meaning p errors states) parsers)

  -- in any two answers of the whole, from alike beginnings, one and the same of a list of parsers stands, which calls their values the same
  abbrev pub SameByOneOf : Does I Tok Sp Er St Mk Cx V → (X → V → V → Type 0) → (X → Does I Tok Sp Er St Mk Cx V) → List X → Type 0
  SameByOneOf whole same meaning parsers = SameByStandingIfAny states.mark states.back states.takes_no_memory (whole errors states) (map same parsers) (map (λ p. meaning p errors states) parsers)
