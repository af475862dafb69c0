use Rattle.chumsky_folds.specs.FoldingBack.{FoldsRight}
use Rattle.chumsky_folds.proofs.foldr.fold_from_right.Given as goal

abbrev pub invariant-loop-item : goal.invariant-loop-item
invariant-loop-item g l =
    record {
      so : (z : g.row.U.Denot) → FoldsRight (g.F.RightFolder.gives l.folder) l.accumulator l.left.items z
          → FoldsRight (g.F.RightFolder.gives l.folder) l.fn.last l.fn.items.items z;
    }

abbrev pub decreases-loop-item : goal.decreases-loop-item
decreases-loop-item g l = goal.left-loop-item g l
