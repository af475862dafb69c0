use Rattle.std.proofs.Common.{rules, ◌≡◌, refl, arith, Err}
use Rattle.chumsky_input.specs.declared.stop.Fault.TheVariants as fault
use Rattle.chumsky_pratt.proofs.WeightLemmas.{beside_frame, heard_prefix, heard_value, heard_some}
use Rattle.chumsky_pratt.proofs.ClimbLemmas.{prefix_ok, prefix_stops, prefix_fails, prefix_lacks}
use Rattle.chumsky_pratt.proofs.steps.hear_prefix.Goals as goal

pub returns-in-Ok-clause-goes : goal.returns-in-Ok-clause-goes
returns-in-Ok-clause-goes g c =
    λ to w. (
      w.2.0,
      w.2.1,
      prefix_ok _ _ _ _ w.2.0 _ _ _ _ w.2.2 ((g.met.P.Parser c.lifetimes (search rules)).ends_after_start _)
          ((g.met.R.Operators c.lifetimes (search rules)).ends_after_start _) _ _ (rw c.in-Ok.is at w.1)
          (rw w.2.1.place at c.fold-output.ensures.ran),
      w.2.3,
    )

pub returns-in-Err-Stop-clause-goes : goal.returns-in-Err-Stop-clause-goes
returns-in-Err-Stop-clause-goes g c = λ to w. (w.2.0, prefix_stops _ _ _ _ w.2.0 _ _ _ _ w.2.2 _ (let e : c.args.answer ≡ Err (fault.Stop c.in-Err-Stop.stop) = search rules in rw e at w.1), w.2.3)

pub rewind-requires : goal.rewind-requires
rewind-requires g c = λ k. ((refl, tt), c.requires.tokens)

pub returns-in-Ok-rewind-clause-goes : goal.returns-in-Ok-rewind-clause-goes
returns-in-Ok-rewind-clause-goes g c =
    λ to w. (
      w.2.0,
      w.2.1,
      prefix_fails _ _ _ _ w.2.0 _ _ _ _ w.2.2
          (let e : c.args.answer ≡ Err fault.Fail = search rules in rw e at w.1) c.in-Ok-rewind.ensures.back,
      w.2.3,
    )

pub returns-clause-goes : goal.returns-clause-goes
returns-clause-goes g c =
    λ to w. (
      w.2.0,
      prefix_lacks _ _ _ _ w.2.0 _ _ _ _ w.2.2
          (let e : c.args.answer ≡ Err fault.Fail = search rules in rw e at w.1) c.in-Err.ensures.back.0
          c.in-Err.ensures.back.1,
      w.2.3,
    )

pub returns-in-Ok-clause-lighter : goal.returns-in-Ok-clause-lighter
returns-in-Ok-clause-lighter g c = beside_frame _ _ _ (heard_value _ _ _ _ _ (omega arith))

pub returns-in-Err-Stop-clause-lighter : goal.returns-in-Err-Stop-clause-lighter
returns-in-Err-Stop-clause-lighter g c = beside_frame _ _ _ (heard_some _ _ _ _)

pub returns-in-Ok-rewind-clause-lighter : goal.returns-in-Ok-rewind-clause-lighter
returns-in-Ok-rewind-clause-lighter g c = beside_frame _ _ _ (heard_prefix _ _ _ _)

pub returns-clause-lighter : goal.returns-clause-lighter
returns-clause-lighter g c = beside_frame _ _ _ (heard_some _ _ _ _)
