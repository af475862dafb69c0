use Rattle.std.proofs.Common.{rules}
use Rattle.chumsky_input.specs.Held.{held}
use Rattle.chumsky_folds.proofs.PlacedLemmas.{starts-popped}
use Rattle.chumsky_folds.proofs.FoldingBackShownLemmas.{folds_back-on, moves-on}
use Rattle.chumsky_folds.proofs.foldr_with.fold_back_with.Goals as goal

pub loop-placed-preserved : goal.loop-placed-preserved
loop-placed-preserved g c =
    let folds = g.F.RightFolderWith.gives c.args.folder.now g.E.State.Inspector in
    let so = c.loop-placed.invariant in
    let start = held g.I.Input g.E.Error.Error g.E.State.Inspector c.args.inp.now in
    let mid = held g.I.Input g.E.Error.Error g.E.State.Inspector c.loop-placed.inp in
    let new = held g.I.Input g.E.Error.Error g.E.State.Inspector c.step_with-accumulator.new.inp in
    let step = c.step_with-accumulator.ensures in
    record {
      so = folds_back-on g.I.Input folds start mid new c.args.items.items _ _ _ _ _ _ c.in-Some.ensures.items step.moves step.gives so.so;
      within = starts-popped g.I.Input mid new _ _ _ c.in-Some.ensures.items step.moves so.within;
      moves = moves-on start mid new so.moves step.moves;
      lent = search rules;
    }
