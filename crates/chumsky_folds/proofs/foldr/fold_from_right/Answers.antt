use Rattle.std.proofs.Common.{sym, subst}
use Rattle.chumsky_folds.specs.FoldingBack.{FoldsRight}
use Rattle.chumsky_folds.proofs.FoldingBackLemmas.{folds_right-less}
use Rattle.chumsky_folds.proofs.foldr.fold_from_right.Goals as goal

pub loop-item-preserved : goal.loop-item-preserved
loop-item-preserved g c =
    let steps = g.F.RightFolder.gives c.args.folder.now in
    record {
      so = λ z f. c.loop-item.invariant.so z
          (subst (λ xs. FoldsRight steps c.loop-item.accumulator xs z) (sym c.in-Some.ensures.items)
          (folds_right-less steps c.pop.new.self.items c.in-Some.item _ _ z c.step-accumulator.ensures f));
    }
