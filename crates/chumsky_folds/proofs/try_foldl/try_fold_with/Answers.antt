use Rattle.std.proofs.Common.{rules, arith, false, refl, sym, ◌∙◌, ap}
use Rattle.chumsky_parser.proofs.ChainedLemmas.{emit_ok, emit_err, ran-given}
use Rattle.chumsky_parser.proofs.ItemsLemmas.{items-unmade, items-made, steps-failed, steps-ended, steps-full, steps-refused, steps-more, emit_item, emit_end, emit_fault}
use Rattle.chumsky_parser.proofs.OnwardLemmas.{onward}
use Rattle.chumsky_folds.proofs.FoldingShownLemmas.{takes-all}
use Rattle.chumsky_folds.proofs.FoldingTriedLemmas.{ran-tried, ran-refused}
use Rattle.chumsky_folds.proofs.PlacedLemmas.{placed-failed, placed-ended, placed-item}
use Rattle.chumsky_folds.proofs.try_foldl.try_fold_with.Goals as goal

pub returns-in_err-state-clause-ran : goal.returns-in_err-state-clause-ran
returns-in_err-state-clause-ran g c = takes-all (items-unmade c.make_iter.ensures.ran (emit_err c.in_err-state.was) (emit_err (search rules)))

pub loop-state-init : goal.loop-state-init
loop-state-init g c =
    let law = (g.met.A.IterParser c.lifetimes (search rules)).ends_after_start c.args.parser.now (record { nonconsumption_is_ok = false }) in
    let on = onward law.begin c.make_iter.ensures.ran (emit_ok c.in_ok-state.was) in
    record {
      so = items-made c.make_iter.ensures.ran (emit_ok c.in_ok-state.was);
      may = c.in_ok-state.ensures.may;
      tokens = c.requires.tokens ∙ sym c.make_iter.ensures.ran.same.tokens;
      order = omega (arith, c.requires.order, on);
      lent = c.make_iter.ensures.lent;
    }

pub returns-in_err-next_item-clause-ran : goal.returns-in_err-next_item-clause-ran
returns-in_err-next_item-clause-ran g c =
    takes-all
    (steps-failed c.loop-state.invariant.so
    (placed-failed c.next_item.ensures.ran (emit_fault _ c.in_err-next_item.was))
    refl (emit_err (search rules)))

pub returns-in-None-clause-ran : goal.returns-in-None-clause-ran
returns-in-None-clause-ran g c = takes-all (steps-ended c.loop-state.invariant.so (placed-ended c.next_item.ensures.ran (emit_end _ c.in_ok-next_item.was c.in-None.is)) refl ran-given)

pub returns-then-count-clause-ran : goal.returns-then-count-clause-ran
returns-then-count-clause-ran g c = takes-all (steps-full c.loop-state.invariant.so (placed-item c.next_item.ensures.ran (emit_item _ c.in_ok-next_item.was c.in-Some.is)) refl (omega arith))

pub returns-in-Err-clause-ran : goal.returns-in-Err-clause-ran
returns-in-Err-clause-ran g c =
    takes-all
    (steps-refused c.loop-state.invariant.so
    (placed-item c.next_item.ensures.ran (emit_item _ c.in_ok-next_item.was c.in-Some.is))
    refl (λ z. omega (arith, z))
    (ran-refused _ _ _ c.in-Err.ensures.moves c.in-Err.ensures.gives (rw (c.place.ensures, c.cursor-before.ensures) at c.add_event.ensures.adds)))

pub loop-state-preserved : goal.loop-state-preserved
loop-state-preserved g c =
    let moves = c.in-Ok.ensures.moves in
    record {
      so =
          steps-more c.loop-state.invariant.so
          (placed-item c.next_item.ensures.ran (emit_item _ c.in_ok-next_item.was c.in-Some.is))
          refl (λ z. omega (arith, z)) (ran-tried _ moves c.in-Ok.ensures.gives);
      may = search rules;
      tokens = c.loop-state.invariant.tokens ∙ sym c.next_item.ensures.tokens ∙ sym (ap (λ z. z.tokens) moves);
      order = omega (arith, c.loop-state.invariant.order, c.in_ok-next_item.ensures.onward, ap (λ z. z.place) moves);
      lent = search rules;
    }
