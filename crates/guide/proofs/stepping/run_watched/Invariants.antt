use Rattle.std.proofs.Common.{◌≡◌, true, ◌+◌, ◌-◌, ◌*◌, ◌≤◌, length}
use Rattle.std.specs.List.{All}
use Rattle.chumsky_input.specs.Held.{held}
use Rattle.chumsky_recursive.specs.Means.{acts_of}
use Rattle.chumsky_recursive.specs.Beside.{IsFlat}
use Rattle.chumsky_recursive.specs.Frames.{Left, IsKnownFrame, IsThere}
use Rattle.chumsky_recursive.specs.Weight.{total, HasRoom}
use Rattle.guide.proofs.stepping.run_watched.Given as goal

-- what is left to do is what the node does, there is room for it, and what `step` asks of a run that goes on
abbrev pub invariant-steps : goal.invariant-steps
invariant-steps g l = record {
  left : Left g.I.Input g.E.Error.Error g.E.State.Inspector (acts_of g.A.Actions l.actions g.I.Input g.E.Error.Error g.E.State.Inspector) l.rules l.stack.frames (record { more = l.fn.limit - 1; node = l.fn.node; wanted = true; held = held g.I.Input g.E.Error.Error g.E.State.Inspector l.fn.inp }) (held g.I.Input g.E.Error.Error g.E.State.Inspector l.inp) l.todo;
  known : All (IsKnownFrame g.I.Input g.E.State.Inspector l.rules.nodes (held g.I.Input g.E.Error.Error g.E.State.Inspector l.inp).tokens) l.stack.frames;
  there : IsThere (length l.rules.nodes) l.todo;
  flat : IsFlat l.stack;
  room : HasRoom l.fn.limit (length l.rules.nodes) l.stack.frames l.todo;
  few : l.deepest ≤ 1 + l.fn.limit * length l.rules.nodes;
  lent : l.inp.state.ghost_name ≡ l.fn.inp.state.ghost_name;
}

-- it falls at each step
abbrev pub decreases-steps : goal.decreases-steps
decreases-steps g l = total (length l.rules.nodes) l.stack.frames l.todo
