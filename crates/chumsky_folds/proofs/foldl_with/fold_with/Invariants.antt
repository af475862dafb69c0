use Rattle.std.proofs.Common.{◌≡◌, ◌≤◌, ◌-◌, ◌^◌, true, false, Some}
use Rattle.chumsky_input.specs.Held.{held}
use Rattle.chumsky_parser.specs.Chained.{Given}
use Rattle.chumsky_parser.proofs.ItemsLemmas.{StepsFrom}
use Rattle.chumsky_folds.specs.FoldingShown.{TakesShown}
use Rattle.chumsky_folds.proofs.foldl_with.fold_with.Given as goal

abbrev pub invariant-loop-state : goal.invariant-loop-state
invariant-loop-state g l = record {
  so : StepsFrom g.E.Error.Error.merged g.E.Error.Error.takes_no_memory
      (λ s. g.A.IterParser.gives l.parser (record { nonconsumption_is_ok = false }) s g.E.Error.Error g.E.State.Inspector)
      (TakesShown (g.F.FolderWith.gives l.folder g.E.State.Inspector) (g.I.Input.place l.since)) Given
      (g.A.IterParser.begins l.parser g.E.Error.Error g.E.State.Inspector) l.fn.first true l.count
      (Some l.accumulator) l.state (held g.I.Input g.E.Error.Error g.E.State.Inspector l.fn.inp)
      (held g.I.Input g.E.Error.Error g.E.State.Inspector l.inp);
  may : g.A.IterParser.may_step l.parser l.state;
  tokens : g.I.Input.cursor_tokens l.since ≡ (held g.I.Input g.E.Error.Error g.E.State.Inspector l.inp).tokens;
  order : g.I.Input.place l.since ≤ (held g.I.Input g.E.Error.Error g.E.State.Inspector l.inp).place;
  lent : l.inp.state.ghost_name ≡ l.fn.inp.state.ghost_name;
}

abbrev pub decreases-loop-state : goal.decreases-loop-state
decreases-loop-state g l = 2 ^ 64 - l.count
