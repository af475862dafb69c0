use Rattle.std.proofs.Common.{rules, ◌≡◌, refl, ap, arith, Err}
use Rattle.chumsky_input.specs.Held.{Held}
use Rattle.chumsky_input.specs.declared.stop.Fault.TheVariants as fault
use Rattle.chumsky_pratt.proofs.WeightLemmas.{beside_frame, fewer, heard_infix, heard_both, heard_none}
use Rattle.chumsky_pratt.proofs.RoundLemmas.{infix_ok, infix_still, infix_refused, infix_failed, infix_unrestored}
use Rattle.chumsky_pratt.proofs.steps.hear_infix.Goals as goal

pub returns-then-place-clause-goes : goal.returns-then-place-clause-goes
returns-then-place-clause-goes g c =
    λ to w. (
      w.2.0,
      infix_still _ _ _ _ w.2.0 _ _ _ _ _ _ _ w.2.2 _ (rw c.in-Ok.is at w.1)
          (omega (arith, c.if-place.true, rw c.cursor.ensures at c.place.ensures, c.place-in-Ok.ensures, w.2.2.at)),
      w.2.3,
    )

pub returns-in-Ok-clause-goes : goal.returns-in-Ok-clause-goes
returns-in-Ok-clause-goes g c =
    λ to w. (
      w.2.0,
      w.2.1,
      infix_ok _ _ _ _ w.2.0 _ _ _ _ _ _ _ w.2.2 _ _ (rw c.in-Ok.is at w.1)
          (omega (arith, c.if-place.false, rw c.cursor.ensures at c.place.ensures, c.place-in-Ok.ensures, w.2.2.at))
          (rw w.2.1.place at c.fold-output.ensures.ran)
          (ap (λ (z : Held _ _ _ _). z.place) c.fold-output.ensures.moves),
      w.2.3,
    )

pub returns-in-Err-Stop-clause-goes : goal.returns-in-Err-Stop-clause-goes
returns-in-Err-Stop-clause-goes g c =
    λ to w. (
      w.2.0,
      infix_refused _ _ _ _ w.2.0 _ _ _ _ _ _ _ w.2.2 _
          (let e : c.args.answer ≡ Err (fault.Stop c.in-Err-Stop.stop) = search rules in rw e at w.1),
      w.2.3,
    )

pub rewind-requires : goal.rewind-requires
rewind-requires g c = λ k. ((refl, tt), c.requires.tokens)

pub returns-in-Ok-rewind-clause-goes : goal.returns-in-Ok-rewind-clause-goes
returns-in-Ok-rewind-clause-goes g c =
    λ to w. (
      w.2.0,
      w.2.1,
      infix_failed _ _ _ _ w.2.0 _ _ _ _ _ _ _ w.2.2
          (let e : c.args.answer ≡ Err fault.Fail = search rules in rw e at w.1) c.in-Ok-rewind.ensures.back,
      w.2.3,
    )

pub returns-clause-goes : goal.returns-clause-goes
returns-clause-goes g c =
    λ to w. (
      w.2.0,
      infix_unrestored _ _ _ _ w.2.0 _ _ _ _ _ _ _ w.2.2
          (let e : c.args.answer ≡ Err fault.Fail = search rules in rw e at w.1) c.in-Err.ensures.back.0
          c.in-Err.ensures.back.1,
      w.2.3,
    )

pub returns-then-place-clause-lighter : goal.returns-then-place-clause-lighter
returns-then-place-clause-lighter g c = beside_frame _ _ _ (heard_none _ _ _ _ _)

pub returns-in-Ok-clause-lighter : goal.returns-in-Ok-clause-lighter
returns-in-Ok-clause-lighter g c =
    let m : g.I.Input.place c.fold-output.new.inp.cursor ≡ g.I.Input.place c.args.inp.now.cursor = ap (λ (z : Held _ _ _ _). z.place) c.fold-output.ensures.moves in
    beside_frame _ _ _
    (heard_both _ _ _ _ _ _
    (fewer _ _ _ (omega (arith, m, c.if-place.false, rw c.cursor.ensures at c.place.ensures, c.place-in-Ok.ensures))
    (let w = (g.met.I.Input c.lifetimes (search rules)).within c.args.inp.now.cursor in omega (arith, m, w))))

pub returns-in-Err-Stop-clause-lighter : goal.returns-in-Err-Stop-clause-lighter
returns-in-Err-Stop-clause-lighter g c = beside_frame _ _ _ (heard_none _ _ _ _ _)

pub returns-in-Ok-rewind-clause-lighter : goal.returns-in-Ok-rewind-clause-lighter
returns-in-Ok-rewind-clause-lighter g c = beside_frame _ _ _ (heard_infix _ _ _ _ _)

pub returns-clause-lighter : goal.returns-clause-lighter
returns-clause-lighter g c = beside_frame _ _ _ (heard_none _ _ _ _ _)
