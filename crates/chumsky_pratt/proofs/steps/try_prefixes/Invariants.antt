use Rattle.std.proofs.Common.{◌≡◌, ◌≤◌, ◌-◌, length, reverse}
use Rattle.chumsky_input.specs.Held.{held, marks}
use Rattle.chumsky_pratt.specs.declared.machine.Todo.TheVariants.{Prefixes}
use Rattle.chumsky_pratt.specs.Climbing.{MayGo, GoesOn}
use Rattle.chumsky_pratt.specs.Weight.{total}
use Rattle.chumsky_pratt.proofs.steps.try_prefixes.Given as goal

-- what is tried next leads on from what was tried first, and weighs no more
abbrev pub invariant-tries : goal.invariant-tries
invariant-tries g l =
    record {
      may : MayGo g.I.Input g.E.Error.Error g.E.State.Inspector
          (g.P.Parser.meaning l.atom) (g.R.Operators.syntax l.operators)
          g.D.Way.wanted g.D.Way.shown g.D.Way.found (reverse l.stack.items) l.inp (Prefixes l.head);
      goes : GoesOn g.I.Input g.E.Error.Error g.E.State.Inspector
          (g.P.Parser.meaning l.atom) (g.R.Operators.syntax l.operators)
          g.D.Way.wanted g.D.Way.shown g.D.Way.found (reverse l.fn.stack.items) l.fn.inp (Prefixes l.fn.head) (reverse l.stack.items) l.inp (Prefixes l.head);
      lighter : total (g.R.Operators.syntax l.operators).number (length (g.I.Input.cursor_tokens l.fn.inp.cursor).list) g.I.Input l.stack.items l.inp.cursor (Prefixes l.head)
          ≤ total (g.R.Operators.syntax l.operators).number (length (g.I.Input.cursor_tokens l.fn.inp.cursor).list) g.I.Input l.fn.stack.items l.fn.inp.cursor (Prefixes l.fn.head);
      upto : l.head.next ≤ (g.R.Operators.syntax l.operators).number;
      stood : (marks g.I.Input g.E.State.Inspector l.head.before).tokens ≡ (held g.I.Input g.E.Error.Error g.E.State.Inspector l.inp).tokens;
      tokens : g.I.Input.cursor_tokens l.inp.cursor ≡ g.I.Input.cursor_tokens l.fn.inp.cursor;
      lent : l.inp.state.ghost_name ≡ l.fn.inp.state.ghost_name;
    }

abbrev pub decreases-tries : goal.decreases-tries
decreases-tries g l = (g.R.Operators.syntax l.operators).number - l.head.next
