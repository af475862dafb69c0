use Rattle.std.proofs.Common.{◌≡◌, ◌-◌, ◌^◌, false}
use Rattle.chumsky_input.specs.Held.{held}
use Rattle.chumsky_flatten.proofs.FlatteningLemmas.{PassedFrom}
use Rattle.chumsky_flatten.proofs.flatten.first_of_next.Given as goal

abbrev pub invariant-loop-collection : goal.invariant-loop-collection
invariant-loop-collection g l = record {
  from : PassedFrom g.E.Error.Error.merged g.E.Error.Error.takes_no_memory g.E.State.Inspector.mark
      g.E.State.Inspector.back g.E.State.Inspector.takes_no_memory g.O.IntoIterator.into_iter_gives
      g.O.IntoIter.Iterator.next_gives
      (λ t. g.A.IterParser.gives l.parser (record { nonconsumption_is_ok = false }) t g.E.Error.Error g.E.State.Inspector)
      l.fn.inner l.passed l.inner (held g.I.Input g.E.Error.Error g.E.State.Inspector l.fn.inp)
      (held g.I.Input g.E.Error.Error g.E.State.Inspector l.inp);
  may : g.A.IterParser.may_step l.parser l.inner;
  lent : l.inp.state.ghost_name ≡ l.fn.inp.state.ghost_name;
}

abbrev pub decreases-loop-collection : goal.decreases-loop-collection
decreases-loop-collection g l = 2 ^ 64 - l.passed
