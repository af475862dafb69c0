use Rattle.std.proofs.Common.{rules, arith, false, sym, ◌∙◌, ap}
use Rattle.chumsky_parser.proofs.ChainedLemmas.{emit_ok, emit_err, ran-given}
use Rattle.chumsky_parser.proofs.ItemsLemmas.{items-unmade, items-made, steps-failed, steps-ended, steps-full, steps-more, emit_item, emit_end, emit_fault}
use Rattle.chumsky_parser.proofs.OnwardLemmas.{onward}
use Rattle.chumsky_parser.proofs.ShowingLemmas.{ran-shown}
use Rattle.chumsky_folds.proofs.FoldingShownLemmas.{takes-all}
use Rattle.chumsky_folds.proofs.foldl_with.fold_with.Goals as goal

pub returns-in_err-state-clause-ran : goal.returns-in_err-state-clause-ran
returns-in_err-state-clause-ran g c = takes-all (items-unmade c.make_iter.ensures.ran (emit_err c.in_err-state.was) (emit_err (search rules)))

pub loop-state-init : goal.loop-state-init
loop-state-init g c =
    let law = (g.met.A.IterParser c.lifetimes (search rules)).ends_after_start c.args.parser.now (record { nonconsumption_is_ok = false }) in
    let on = onward law.begin c.make_iter.ensures.ran (emit_ok c.in_ok-state.was) in
    record {
      so = items-made c.make_iter.ensures.ran (emit_ok c.in_ok-state.was);
      may = c.in_ok-state.ensures.may;
      tokens = c.requires.tokens ∙ sym c.make_iter.ensures.ran.same.tokens;
      order = omega (arith, c.requires.order, on);
      lent = c.make_iter.ensures.lent;
    }

pub returns-in_err-next_item-clause-ran : goal.returns-in_err-next_item-clause-ran
returns-in_err-next_item-clause-ran g c = takes-all (steps-failed c.loop-state.invariant.so c.next_item.ensures.ran (emit_fault _ c.in_err-next_item.was) (emit_err (search rules)))

pub returns-in-None-clause-ran : goal.returns-in-None-clause-ran
returns-in-None-clause-ran g c = takes-all (steps-ended c.loop-state.invariant.so c.next_item.ensures.ran (emit_end _ c.in_ok-next_item.was c.in-None.is) ran-given)

pub returns-then-count-clause-ran : goal.returns-then-count-clause-ran
returns-then-count-clause-ran g c = takes-all (steps-full c.loop-state.invariant.so c.next_item.ensures.ran (emit_item _ c.in_ok-next_item.was c.in-Some.is) (omega arith))

pub loop-state-preserved : goal.loop-state-preserved
loop-state-preserved g c =
    let moves = c.step_with-accumulator.ensures.moves in
    record {
      so =
          steps-more c.loop-state.invariant.so c.next_item.ensures.ran
          (emit_item _ c.in_ok-next_item.was c.in-Some.is) (λ z. omega (arith, z))
          (ran-shown _ moves c.step_with-accumulator.ensures.gives);
      may = search rules;
      tokens = c.loop-state.invariant.tokens ∙ sym c.next_item.ensures.tokens ∙ sym (ap (λ z. z.tokens) moves);
      order = omega (arith, c.loop-state.invariant.order, c.in_ok-next_item.ensures.onward, ap (λ z. z.place) moves);
      lent = search rules;
    }
