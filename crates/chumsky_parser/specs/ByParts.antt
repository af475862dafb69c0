-- What is never refused for memory but by its parts, in the words of their errors and of their states.
-- Main words: Part, NeverOut, OutOnlyBy, OutOnlyByEach, ItemsNeverOut, ItemsOutOnlyBy. Read first: Memory.antt.
use Rattle.std.specs.Prelude.{Bool, Option, Result, List, [], ◌∷◌, ⊤}
use Rattle.std.specs.List.{All}
use Rattle.chumsky_input.specs.declared.error.Error as error_trait
use Rattle.chumsky_input.specs.declared.inspector.Inspector as inspector_trait
use Rattle.chumsky_input.specs.declared.stop.Fault.{Fault}
use Rattle.chumsky_input.specs.Held.{Held}
use Rattle.chumsky_input.specs.Run.{Ran}
use Rattle.chumsky_input.specs.Words.{Does}
use Rattle.chumsky_parser.specs.declared.iter.IterParserDebug.{IterParserDebug}
use Rattle.chumsky_parser.specs.Items.{Next}
use Rattle.chumsky_parser.specs.Memory.{NeverOutOfMemory, ItemsNeverOutOfMemory, AnswersWithoutMemory}

-- what a part does, whose outputs are of its own type
pub record Part (I Tok Sp Er St Mk Cx : Type 0) : Type 1 where
  pub Output : Type 0
  pub does : Does I Tok Sp Er St Mk Cx Output

abbrev pub part : {I Tok Sp Er St Mk Cx V : Type 0} → Does I Tok Sp Er St Mk Cx V → Part I Tok Sp Er St Mk Cx
part {V} does = record { Output = V; does = does }

module _ {I Tok Sp Er St Mk Cx : Type 0} (errors : error_trait.Ghosts Er I Tok Sp) (states : inspector_trait.Ghosts St I Mk Tok Sp) where
  -- no outcome is a refusal for memory
  abbrev pub NeverOut : {V : Type 0} → Does I Tok Sp Er St Mk Cx V → Type 0
  NeverOut does = NeverOutOfMemory (does errors states)

  -- no outcome of any of these parts is
  abbrev pub NoneOut : List (Part I Tok Sp Er St Mk Cx) → Type 0
  NoneOut [] = ⊤
  NoneOut (p ∷ ps) = NeverOutOfMemory (p.does errors states) × NoneOut ps

  -- the whole is refused for memory only where one of these parts may be
  abbrev pub OutOnlyBy : {V : Type 0} → List (Part I Tok Sp Er St Mk Cx) → Does I Tok Sp Er St Mk Cx V → Type 0
  OutOnlyBy parts whole = NoneOut parts → NeverOutOfMemory (whole errors states)

  -- the same of parts of one kind
  abbrev pub OutOnlyByEach : {P V W : Type 0} → (P → Does I Tok Sp Er St Mk Cx V) → List P → Does I Tok Sp Er St Mk Cx W → Type 0
  OutOnlyByEach meaning parts whole = All (λ p. NeverOutOfMemory (meaning p errors states)) parts → NeverOutOfMemory (whole errors states)

  -- no iteration is refused for memory, and no step of one
  abbrev pub ItemsNeverOut : {S V : Type 0} → Does I Tok Sp Er St Mk Cx S → (S → Does I Tok Sp Er St Mk Cx (Next S V)) → Type 0
  ItemsNeverOut begins gives = ItemsNeverOutOfMemory (begins errors states) (λ s. gives s errors states)

  -- an iteration or a step of one is refused for memory only where one of these parts may be, whether or not progress is asked
  abbrev pub ItemsOutOnlyBy : {S V : Type 0} → List (Part I Tok Sp Er St Mk Cx) → Does I Tok Sp Er St Mk Cx S → (IterParserDebug → S → Does I Tok Sp Er St Mk Cx (Next S V)) → Type 0
  ItemsOutOnlyBy parts begins gives = NoneOut parts → (d : IterParserDebug) → ItemsNeverOut begins (gives d)

  -- no call that shows a run of the parser is refused for memory
  abbrev pub NoRunOut : {V : Type 0} → Does I Tok Sp Er St Mk Cx V → Type 0
  NoRunOut {V} does =
      (wanted : Bool) (old new : Held Tok Cx states.Seen errors.Seen) (result : Result (Option V) Fault)
      → Ran errors.merged errors.takes_no_memory (does errors states) wanted old new result
      → AnswersWithoutMemory result
