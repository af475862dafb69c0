-- The words of an error type and of a state type.
use Rattle.chumsky_input.specs.declared.error.Error as error_trait
use Rattle.chumsky_input.specs.declared.inspector.Inspector as inspector_trait
use Rattle.chumsky_input.specs.Outcome.{Meaning}

-- what a parser may do, in the words of its errors and of its states
abbrev pub Does : (I Tok Sp Er St Mk Cx V : Type 0) → Type 1
Does I Tok Sp Er St Mk Cx V = (errors : error_trait.Ghosts Er I Tok Sp) (states : inspector_trait.Ghosts St I Mk Tok Sp) → Meaning Tok Cx states.Seen errors.Seen V
