use Rattle.std.proofs.Common.{◌≡◌, length, reverse}
use Rattle.chumsky_input.specs.Held.{held}
use Rattle.chumsky_pratt.specs.Doing.{syntax_of}
use Rattle.chumsky_pratt.specs.Climbing.{Climbs, MayGo}
use Rattle.chumsky_pratt.specs.Weight.{total}
use Rattle.chumsky_pratt.proofs.machine.climb.Given as goal

-- what comes next leads to the expression that began first
abbrev pub invariant-steps : goal.invariant-steps
invariant-steps g l =
    record {
      climbs : Climbs g.I.Input g.E.Error.Error g.E.State.Inspector
          (syntax_of (g.P.Parser.meaning l.atom) (g.R.Operators.syntax l.operators) g.E.Error.Error g.E.State.Inspector)
          g.D.Way.wanted g.D.Way.shown g.D.Way.found
          (record { least = 0; held = held g.I.Input g.E.Error.Error g.E.State.Inspector l.fn.inp })
          (reverse l.stack.items) (held g.I.Input g.E.Error.Error g.E.State.Inspector l.inp) l.todo;
      may : MayGo g.I.Input g.E.Error.Error g.E.State.Inspector
          (g.P.Parser.meaning l.atom) (g.R.Operators.syntax l.operators)
          g.D.Way.wanted g.D.Way.shown g.D.Way.found (reverse l.stack.items) l.inp l.todo;
      lent : l.inp.state.ghost_name ≡ l.fn.inp.state.ghost_name;
    }

abbrev pub decreases-steps : goal.decreases-steps
decreases-steps g l = total (g.R.Operators.syntax l.operators).number (length (g.I.Input.cursor_tokens l.fn.inp.cursor).list) g.I.Input l.stack.items l.inp.cursor l.todo
