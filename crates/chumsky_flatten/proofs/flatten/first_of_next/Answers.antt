use Rattle.std.proofs.Common.{rules, arith, refl}
use Rattle.chumsky_parser.proofs.ItemsLemmas.{emit_item, emit_end, emit_fault}
use Rattle.chumsky_flatten.proofs.FlatteningLemmas.{passed-begun, passed-failed, passed-ended, passed-first, passed-full, passed-more, rest_fault}
use Rattle.chumsky_flatten.proofs.flatten.first_of_next.Goals as goal

pub loop-collection-init : goal.loop-collection-init
loop-collection-init g c = record { from = passed-begun; may = c.requires.inside; lent = refl }

pub returns-in_err-step_inside-clause-ran : goal.returns-in_err-step_inside-clause-ran
returns-in_err-step_inside-clause-ran g c = passed-failed c.loop-collection.invariant.from c.step_inside.ensures.ran (emit_fault _ c.in_err-step_inside.was) (rest_fault _ (search rules))

pub returns-in-None-clause-ran : goal.returns-in-None-clause-ran
returns-in-None-clause-ran g c = passed-ended c.loop-collection.invariant.from c.step_inside.ensures.ran (emit_end _ c.in_ok-step_inside.was c.in-None.is)

pub returns-in-Some-next-clause-ran : goal.returns-in-Some-next-clause-ran
returns-in-Some-next-clause-ran g c =
    passed-first c.loop-collection.invariant.from c.step_inside.ensures.ran
    (emit_item _ c.in_ok-step_inside.was c.in-Some.is) c.into_iter-rest.ensures.into_iter_gives _ _
    c.in-Some-next.is c.next.ensures.steps

pub returns-then-passed-clause-ran : goal.returns-then-passed-clause-ran
returns-then-passed-clause-ran g c =
    passed-full c.loop-collection.invariant.from c.step_inside.ensures.ran
    (emit_item _ c.in_ok-step_inside.was c.in-Some.is) c.into_iter-rest.ensures.into_iter_gives _
    c.in-None-next.is c.next.ensures.steps (omega arith)

pub loop-collection-preserved : goal.loop-collection-preserved
loop-collection-preserved g c = record {
  from =
      passed-more c.loop-collection.invariant.from c.step_inside.ensures.ran
      (emit_item _ c.in_ok-step_inside.was c.in-Some.is) c.into_iter-rest.ensures.into_iter_gives _
      c.in-None-next.is c.next.ensures.steps (λ z. omega (arith, z));
  may = search rules;
  lent = search rules;
}
