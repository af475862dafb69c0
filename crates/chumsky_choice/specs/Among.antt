-- A choice among a list of alternatives.
use Rattle.std.specs.Prelude.{None, List, [], ◌∷◌}
use Rattle.chumsky_input.specs.declared.error.Error as error_trait
use Rattle.chumsky_input.specs.declared.inspector.Inspector as inspector_trait
use Rattle.chumsky_input.specs.declared.input.Input as input_trait
use Rattle.chumsky_input.specs.Outcome.{Meaning, Beginning, Outcome}
use Rattle.chumsky_parser.specs.Choice.{FirstOf, SameByOne}
use Rattle.chumsky_parser.specs.Failure.{Misses, expects}

module _ {I Tok Sp Cu Er St Mk Cx V : Type 0} (source : input_trait.Ghosts I Cu Tok Sp) (errors : error_trait.Ghosts Er I Tok Sp) (states : inspector_trait.Ghosts St I Mk Tok Sp) where
  -- of no alternative a failure that expects nothing, else the first that does not say no
  abbrev pub NoneOrFirst : List (Meaning Tok Cx states.Seen errors.Seen V) → Meaning Tok Cx states.Seen errors.Seen V
  NoneOrFirst [] b o = Misses errors.takes_no_memory (expects source errors b.tokens [] None b.start b.start) b.start b.state o
  NoneOrFirst (first ∷ others) b o = FirstOf states.mark states.back states.takes_no_memory first others b o

  pub record FirstAmong (alternatives : List (Meaning Tok Cx states.Seen errors.Seen V)) (b : Beginning Tok Cx states.Seen) (o : Outcome V errors.Seen states.Seen) : Type 0 where
    pub cases : NoneOrFirst alternatives b o

-- two values that one of a list calls the same, if there is one
abbrev pub SameByAny : {V : Type 0} → List (V → V → Type 0) → V → V → Type 0
SameByAny [] v w = ⊥
SameByAny (s ∷ ss) v w = SameByOne s ss v w
