-- Of what kind a frame is, and what comes next.
-- Main words: waiting_of, kind_of.
use Rattle.std.specs.Prelude.{Option, Some, None, Result, List, [], ◌∷◌, reverse}
use Rattle.chumsky_input.specs.declared.stop.Fault.{Fault}
use Rattle.chumsky_pratt.specs.declared.machine.Frame.{Frame}
use Rattle.chumsky_pratt.specs.declared.machine.Frame.TheVariants as frame
use Rattle.chumsky_pratt.specs.declared.machine.Todo.{Todo}
use Rattle.chumsky_pratt.specs.declared.machine.Todo.TheVariants as todo
use Rattle.chumsky_pratt.specs.declared.machine.Waiting.{Waiting}
use Rattle.chumsky_pratt.specs.declared.machine.Waiting.TheVariants as waiting
use Rattle.chumsky_pratt.specs.declared.machine.Kind.{Kind}
use Rattle.chumsky_pratt.specs.declared.machine.Kind.TheVariants as kind

module _ {A B Cu Mk : Type 0} where
  -- for which operand a frame waits
  abbrev pub waiting_of : Frame A B Cu Mk → Waiting
  waiting_of (frame.Before p) = waiting.Prefix
  waiting_of (frame.Between p) = waiting.Infix

  -- for which operand the last frame on a stack waits
  abbrev pub first_waiting : List (Frame A B Cu Mk) → Option Waiting
  first_waiting [] = None
  first_waiting (f ∷ fs) = Some (waiting_of f)

  abbrev pub last_waiting : List (Frame A B Cu Mk) → Option Waiting
  last_waiting fs = first_waiting (reverse fs)

module _ {A Cu Mk : Type 0} where
  -- of what kind what comes next is
  abbrev pub kind_of : Todo A Cu Mk → Kind
  kind_of (todo.Begin least) = kind.Begin
  kind_of (todo.Prefixes p) = kind.Prefixes
  kind_of (todo.Value p) = kind.Value
  kind_of (todo.Postfixes p) = kind.Postfixes
  kind_of (todo.Infixes p) = kind.Infixes
  kind_of (todo.Answer r) = kind.Answer

  -- the answer, where one comes next
  abbrev pub answer_of : Todo A Cu Mk → Option (Result A Fault)
  answer_of (todo.Begin least) = None
  answer_of (todo.Prefixes p) = None
  answer_of (todo.Value p) = None
  answer_of (todo.Postfixes p) = None
  answer_of (todo.Infixes p) = None
  answer_of (todo.Answer r) = Some r
