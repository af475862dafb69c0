use Rattle.std.proofs.Common.{◌≡◌, ◌-◌, ◌^◌, false}
use Rattle.std.specs.List.{All}
use Rattle.chumsky_input.specs.Held.{held}
use Rattle.chumsky_items.proofs.ConsumersLemmas.{Collecting}
use Rattle.chumsky_folds.specs.Placed.{Placed, HoldsPlaced, StartsIn}
use Rattle.chumsky_folds.proofs.foldr_with.collect_placed.Given as goal

abbrev pub invariant-loop-items : goal.invariant-loop-items
invariant-loop-items g l = record {
  so : Collecting g.E.Error.Error.merged g.E.Error.Error.takes_no_memory
      (λ s. Placed (g.A.IterParser.gives l.parser (record { nonconsumption_is_ok = false }) s g.E.Error.Error g.E.State.Inspector))
      (g.A.IterParser.begins l.parser g.E.Error.Error g.E.State.Inspector) (HoldsPlaced g.I.Input) ⊥ l.count l.items
      l.state (held g.I.Input g.E.Error.Error g.E.State.Inspector l.fn.inp)
      (held g.I.Input g.E.Error.Error g.E.State.Inspector l.inp);
  within : All (StartsIn g.I.Input (held g.I.Input g.E.Error.Error g.E.State.Inspector l.inp).tokens (held g.I.Input g.E.Error.Error g.E.State.Inspector l.inp).place) l.items.items;
  may : g.A.IterParser.may_step l.parser l.state;
  lent : l.inp.state.ghost_name ≡ l.fn.inp.state.ghost_name;
}

abbrev pub decreases-loop-items : goal.decreases-loop-items
decreases-loop-items g l = 2 ^ 64 - l.count
