use Rattle.std.proofs.Common.{◌≡◌, ◌-◌, ◌^◌, false, Some}
use Rattle.std.specs.Prelude.{⊤}
use Rattle.chumsky_input.specs.Held.{held}
use Rattle.chumsky_items.proofs.ConsumersLemmas.{Collecting}
use Rattle.chumsky_folds.specs.Folding.{FoldsFrom}
use Rattle.chumsky_folds.proofs.from_left.fold_from_left.Given as goal

abbrev pub invariant-loop-state : goal.invariant-loop-state
invariant-loop-state g l = record {
  so : Collecting g.E.Error.Error.merged g.E.Error.Error.takes_no_memory
      (λ s. g.A.IterParser.gives l.parser (record { nonconsumption_is_ok = false }) s g.E.Error.Error g.E.State.Inspector)
      (g.A.IterParser.begins l.parser g.E.Error.Error g.E.State.Inspector)
      (FoldsFrom (g.F.Folder.gives l.folder) (Some l.fn.first)) ⊤ l.count l.accumulator l.state
      (held g.I.Input g.E.Error.Error g.E.State.Inspector l.fn.inp)
      (held g.I.Input g.E.Error.Error g.E.State.Inspector l.inp);
  may : g.A.IterParser.may_step l.parser l.state;
  lent : l.inp.state.ghost_name ≡ l.fn.inp.state.ghost_name;
}

abbrev pub decreases-loop-state : goal.decreases-loop-state
decreases-loop-state g l = 2 ^ 64 - l.count
