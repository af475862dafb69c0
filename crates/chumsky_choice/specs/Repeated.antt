-- One parser beside another that does no more, in the words of their errors and of their states.
-- Main word: DoesNoMoreButMemory. Read first: OrLaws.antt, and Compared.antt of chumsky_combinator.
use Rattle.chumsky_input.specs.declared.error.Error as error_trait
use Rattle.chumsky_input.specs.declared.inspector.Inspector as inspector_trait
use Rattle.chumsky_input.specs.Words.{Does}
use Rattle.chumsky_combinator.specs.declared.or.Or.{Or}
use Rattle.chumsky_combinator.specs.Built.{or_of}
use Rattle.chumsky_choice.specs.declared.choice.Choice.{Choice}
use Rattle.chumsky_choice.specs.OrLaws.{MeansNoMoreButMemory}

-- `first.or(second).or(third)`
abbrev pub ors_of : {A B C : Type 0} → A → B → C → Or (Or A B) C
ors_of first second third = or_of (or_of first second) third

-- `choice(parsers)`
abbrev pub choice_of : {T : Type 0} → T → Choice T
choice_of parsers = record { parsers = parsers }

module _ {I Tok Sp Er St Mk Cx V : Type 0} (errors : error_trait.Ghosts Er I Tok Sp) (states : inspector_trait.Ghosts St I Mk Tok Sp) where
  -- each outcome of the one parser is one of the other, refusals for memory aside
  abbrev pub DoesNoMoreButMemory : Does I Tok Sp Er St Mk Cx V → Does I Tok Sp Er St Mk Cx V → Type 0
  DoesNoMoreButMemory one other = MeansNoMoreButMemory (one errors states) (other errors states)
