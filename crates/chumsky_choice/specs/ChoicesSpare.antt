-- A choice is never refused for memory where none of its alternatives is.
-- Main laws: first_among-spares, in_order-spares. Read first: ChoiceSpares.antt of the parsers.
use Rattle.std.proofs.Common.{List, [], ◌∷◌, map}
use Rattle.chumsky_input.specs.declared.error.Error as error_trait
use Rattle.chumsky_input.specs.declared.inspector.Inspector as inspector_trait
use Rattle.chumsky_input.specs.declared.input.Input as input_trait
use Rattle.chumsky_input.specs.Outcome.{Meaning}
use Rattle.chumsky_input.specs.Words.{Does}
use Rattle.chumsky_parser.specs.ByParts.{part, NoneOut, OutOnlyBy}
use Rattle.chumsky_parser.specs.ChoiceSpares.{NoneOutOfMemory, first_of-spares}
use Rattle.chumsky_parser.specs.Memory.{NeverOutOfMemory}
use Rattle.chumsky_parser.specs.MemoryLaws.{misses-spares}
use Rattle.chumsky_combinator.specs.Standing.{each_meant}
use Rattle.chumsky_choice.specs.Among.{FirstAmong}
use Rattle.chumsky_choice.specs.Alternatives.{TriesInOrder}

module _ {I Tok Sp Cu Er St Mk Cx V : Type 0} (source : input_trait.Ghosts I Cu Tok Sp)
    (errors : error_trait.Ghosts Er I Tok Sp) (states : inspector_trait.Ghosts St I Mk Tok Sp)
    (quiet : errors.takes_no_memory) (still : states.takes_no_memory) where
  -- the same of a list, where the error of an empty one takes none either
  pub first_among-spares : (ms : List (Meaning Tok Cx states.Seen errors.Seen V)) → NoneOutOfMemory ms → NeverOutOfMemory (FirstAmong source errors states ms)
  first_among-spares [] h b o m = misses-spares quiet m.cases
  first_among-spares (first ∷ others) h b o m = first_of-spares states.mark states.back states.takes_no_memory still first others h.0 h.1 b o m.cases

module _ {I Tok Sp Er St Mk Cx V : Type 0} (errors : error_trait.Ghosts Er I Tok Sp) (states : inspector_trait.Ghosts St I Mk Tok Sp) where
  none-meant : (alternatives : List (Does I Tok Sp Er St Mk Cx V)) → NoneOut errors states (map part alternatives) → NoneOutOfMemory (each_meant errors states alternatives)
  none-meant [] h = tt
  none-meant (d ∷ ds) h = (h.0, none-meant ds h.1)

  -- alternatives that are tried in order, where a mark and going back take no memory
  pub in_order-spares : states.takes_no_memory
      → (whole : Does I Tok Sp Er St Mk Cx V) (alternatives : List (Does I Tok Sp Er St Mk Cx V))
      → TriesInOrder errors states whole alternatives → OutOnlyBy errors states (map part alternatives) whole
  in_order-spares still whole [] m h = absurd m
  in_order-spares still whole (first ∷ others) m h =
      λ b o x. first_of-spares states.mark states.back states.takes_no_memory still (first errors states)
      (each_meant errors states others) h.0 (none-meant others h.1) b o (m b o x)
