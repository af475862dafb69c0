use Rattle.std.proofs.Common.{rules, arith, refl, ◌++◌, ◌∷◌, []}
use Rattle.chumsky_parser.proofs.ChainedLemmas.{emit_ok, emit_err}
use Rattle.chumsky_parser.proofs.ItemsLemmas.{items-unmade, items-made, steps-failed, steps-ended, steps-full, steps-more, emit_item, emit_end, emit_fault}
use Rattle.chumsky_items.proofs.ConsumersLemmas.{ran-appended, ran-collected}
use Rattle.chumsky_folds.specs.FoldingLaws.{folds_left-more}
use Rattle.chumsky_folds.proofs.from_left.fold_from_left.Goals as goal

pub returns-in_err-state-clause-ran : goal.returns-in_err-state-clause-ran
returns-in_err-state-clause-ran g c = items-unmade c.make_iter.ensures.ran (emit_err c.in_err-state.was) (emit_err (search rules))

pub loop-state-init : goal.loop-state-init
loop-state-init g c = record {
  so = record { items = []; held = refl; from = items-made c.make_iter.ensures.ran (emit_ok c.in_ok-state.was) };
  may = c.in_ok-state.ensures.may;
  lent = c.make_iter.ensures.lent;
}

pub returns-in_err-next_emit-clause-ran : goal.returns-in_err-next_emit-clause-ran
returns-in_err-next_emit-clause-ran g c = steps-failed c.loop-state.invariant.so.from c.next_emit.ensures.ran (emit_fault _ c.in_err-next_emit.was) (emit_err (search rules))

pub returns-in-None-clause-ran : goal.returns-in-None-clause-ran
returns-in-None-clause-ran g c =
    let so = c.loop-state.invariant.so in
    steps-ended so.from c.next_emit.ensures.ran (emit_end _ c.in_ok-next_emit.was c.in-None.is) (ran-collected so.items c.loop-state.accumulator so.held)

pub returns-then-count-clause-ran : goal.returns-then-count-clause-ran
returns-then-count-clause-ran g c = steps-full c.loop-state.invariant.so.from c.next_emit.ensures.ran (emit_item _ c.in_ok-next_emit.was c.in-Some.is) (omega arith)

pub loop-state-preserved : goal.loop-state-preserved
loop-state-preserved g c =
    let so = c.loop-state.invariant.so in
    record {
      so = record {
        items = so.items ++ c.in-Some.item ∷ [];
        held = folds_left-more _ so.items _ _ _ c.in-Some.item so.held c.step-accumulator.ensures;
        from = steps-more so.from c.next_emit.ensures.ran (emit_item _ c.in_ok-next_emit.was c.in-Some.is) (λ z. omega (arith, z)) (ran-appended so.items c.in-Some.item);
      };
      may = search rules;
      lent = search rules;
    }
