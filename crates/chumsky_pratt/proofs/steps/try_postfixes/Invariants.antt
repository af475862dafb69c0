use Rattle.std.proofs.Common.{◌≡◌, ◌≤◌, ◌-◌, length, reverse}
use Rattle.chumsky_folds.specs.Running.{InTokens}
use Rattle.chumsky_input.specs.Held.{held, marks}
use Rattle.chumsky_pratt.specs.declared.machine.Todo.TheVariants.{Postfixes}
use Rattle.chumsky_pratt.specs.Climbing.{GoesOn}
use Rattle.chumsky_pratt.specs.Weight.{total}
use Rattle.chumsky_pratt.proofs.steps.try_postfixes.Given as goal

-- what is tried next leads on from what was tried first, and weighs no more
abbrev pub invariant-tries : goal.invariant-tries
invariant-tries g l =
    record {
      goes : GoesOn g.I.Input g.E.Error.Error g.E.State.Inspector
          (g.P.Parser.meaning l.atom) (g.R.Operators.syntax l.operators)
          g.D.Way.wanted g.D.Way.shown g.D.Way.found (reverse l.fn.stack.items) l.fn.inp (Postfixes l.fn.turn) (reverse l.stack.items) l.inp (Postfixes l.turn);
      lighter : total (g.R.Operators.syntax l.operators).number (length (g.I.Input.cursor_tokens l.fn.inp.cursor).list) g.I.Input l.stack.items l.inp.cursor (Postfixes l.turn)
          ≤ total (g.R.Operators.syntax l.operators).number (length (g.I.Input.cursor_tokens l.fn.inp.cursor).list) g.I.Input l.fn.stack.items l.fn.inp.cursor (Postfixes l.fn.turn);
      upto : l.turn.next ≤ (g.R.Operators.syntax l.operators).number;
      stood : (marks g.I.Input g.E.State.Inspector l.turn.before).tokens ≡ (held g.I.Input g.E.Error.Error g.E.State.Inspector l.inp).tokens;
      since : InTokens g.I.Input g.E.Error.Error g.E.State.Inspector l.turn.level.start l.inp;
      order : g.I.Input.place l.turn.level.start ≤ g.I.Input.place l.turn.before.cursor;
      tokens : g.I.Input.cursor_tokens l.inp.cursor ≡ g.I.Input.cursor_tokens l.fn.inp.cursor;
      lent : l.inp.state.ghost_name ≡ l.fn.inp.state.ghost_name;
    }

abbrev pub decreases-tries : goal.decreases-tries
decreases-tries g l = (g.R.Operators.syntax l.operators).number - l.turn.next
