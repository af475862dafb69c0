use Rattle.std.proofs.Common.{◌≡◌}
use Rattle.std.specs.List.{All}
use Rattle.chumsky_input.specs.Extra.{shown_from}
use Rattle.chumsky_input.specs.Held.{held}
use Rattle.chumsky_folds.specs.Placed.{StartsIn, places_of}
use Rattle.chumsky_folds.specs.FoldingBackShown.{FoldsRightShown}
use Rattle.chumsky_folds.proofs.foldr_with.fold_back_with.Given as goal

abbrev pub invariant-loop-placed : goal.invariant-loop-placed
invariant-loop-placed g l = record {
  so : (z : g.row.U.Denot) (s : g.E.State.Inspector.Seen)
      → FoldsRightShown (g.F.RightFolderWith.gives l.folder g.E.State.Inspector)
      (shown_from (held g.I.Input g.E.Error.Error g.E.State.Inspector l.inp).place
      (held g.I.Input g.E.Error.Error g.E.State.Inspector l.inp))
      l.accumulator (places_of g.I.Input l.left.items) z s
      → FoldsRightShown (g.F.RightFolderWith.gives l.folder g.E.State.Inspector)
      (shown_from (held g.I.Input g.E.Error.Error g.E.State.Inspector l.fn.inp).place
      (held g.I.Input g.E.Error.Error g.E.State.Inspector l.fn.inp))
      l.fn.last (places_of g.I.Input l.fn.items.items) z s;
  within : All (StartsIn g.I.Input (held g.I.Input g.E.Error.Error g.E.State.Inspector l.inp).tokens (held g.I.Input g.E.Error.Error g.E.State.Inspector l.inp).place) l.left.items;
  moves : held g.I.Input g.E.Error.Error g.E.State.Inspector l.inp
      ≡ record (held g.I.Input g.E.Error.Error g.E.State.Inspector l.fn.inp)
      { state = (held g.I.Input g.E.Error.Error g.E.State.Inspector l.inp).state };
  lent : l.inp.state.ghost_name ≡ l.fn.inp.state.ghost_name;
}

abbrev pub decreases-loop-placed : goal.decreases-loop-placed
decreases-loop-placed g l = goal.left-loop-placed g l
