use Rattle.std.proofs.Common.{refl, sym, ◌∙◌, ap, arith, inl, inr, length, rules}
use Rattle.chumsky_input.specs.Held.{Held}
use Rattle.chumsky_input.specs.Layout.{same_list}
use Rattle.chumsky_pratt.proofs.AnswerLemmas.{waited}
use Rattle.chumsky_pratt.proofs.RoundLemmas.{infixes_rest, infix_before, no_infix_prefix, no_infix_postfix, unfit_infix}
use Rattle.chumsky_pratt.proofs.RoundLemmas.{infix_fails, infix_unread, infix_read_refused, infix_stays, infix_unpushed, infix_waits}
use Rattle.chumsky_pratt.proofs.WeightLemmas.{beside_most, beside_below, below_most, fewer, infix_next, infix_some, infix_wait, waited_less}
use Rattle.chumsky_pratt.proofs.steps.try_infixes.Goals as goal

pub tries-init : goal.tries-init
tries-init g c =
    record {
      goes = λ to w. w;
      lighter = omega arith;
      upto = (let w = c.requires.may.1 in infix_before _ _ _ _ w.0 _ _ _ _ _ w.2);
      stood = (let w = c.requires.may.1 in w.2.stands.tokens);
      tokens = refl;
      lent = refl;
    }

pub returns-then-turn-count-clause-goes : goal.returns-then-turn-count-clause-goes
returns-then-turn-count-clause-goes g c = λ to v. let w = c.tries.invariant.goes to v in (
  w.0,
  infixes_rest _ _ _ _ w.0 _ _ _ _ _ w.2
      (c.if-turn-count.true ∙ c.count.ensures),
  w.3,
)

pub returns-then-place-clause-goes : goal.returns-then-place-clause-goes
returns-then-place-clause-goes g c =
    λ to v. let w = c.tries.invariant.goes to v in (
      w.0,
      infix_stays _ _ _ _ w.0 _ _ _ _ _ w.2 (omega (arith, c.tries.invariant.upto, c.if-turn-count.false, c.count.ensures)) _ _ _ (sym c.fixity.ensures ∙ c.in-Infix.is)
          (omega (arith, c.if-left-turn.false, w.1.least)) (omega (arith, c.if-turn-left.false)) _ (rw c.in-Read.is at c.attempt.ensures.tried)
          (omega (arith, c.if-place.true, rw c.cursor.ensures at c.place.ensures, c.place-in-Read.ensures, w.1.place)),
      w.3,
    )

pub returns-in-Refused-clause-goes : goal.returns-in-Refused-clause-goes
returns-in-Refused-clause-goes g c =
    λ to v. let w = c.tries.invariant.goes to v in (
      w.0,
      infix_read_refused _ _ _ _ w.0 _ _ _ _ _ w.2
          (omega (arith, c.tries.invariant.upto, c.if-turn-count.false, c.count.ensures)) _ _ _ (sym c.fixity.ensures ∙ c.in-Infix.is)
          (omega (arith, c.if-left-turn.false, w.1.least)) (omega (arith, c.if-turn-left.false)) _ (rw c.in-Refused.is at c.attempt.ensures.tried),
      w.3,
    )

pub returns-in-Read-clause-goes : goal.returns-in-Read-clause-goes
returns-in-Read-clause-goes g c =
    λ to v. let w = c.tries.invariant.goes to v in waited _ _ _ _ _ _ _ to w.0 _ _ _ _ _ _ c.wait.ensures (
      w.0,
      w.1,
      infix_waits _ _ _ _ w.0 _ _ _ _ _ w.2 (omega (arith, c.tries.invariant.upto, c.if-turn-count.false, c.count.ensures)) _ _ _ (sym c.fixity.ensures ∙ c.in-Infix.is)
          (omega (arith, c.if-left-turn.false, w.1.least)) (omega (arith, c.if-turn-left.false)) _ (rw c.in-Read.is at c.attempt.ensures.tried)
          (omega (arith, c.if-place.false, rw c.cursor.ensures at c.place.ensures, c.place-in-Read.ensures, w.1.place))
          ((g.met.I.Input c.lifetimes (search rules)).within _) _ (omega arith) _ c.bound_after-then_below.ensures,
      w.3,
    )
    (infix_unpushed _ _ _ _ w.0 _ _ _ _ _ w.2 (omega (arith, c.tries.invariant.upto, c.if-turn-count.false, c.count.ensures)) _ _ _
    (sym c.fixity.ensures ∙ c.in-Infix.is) (omega (arith, c.if-left-turn.false, w.1.least)) (omega (arith, c.if-turn-left.false)) _
    (rw c.in-Read.is at c.attempt.ensures.tried) (omega (arith, c.if-place.false, rw c.cursor.ensures at c.place.ensures, c.place-in-Read.ensures, w.1.place))) w.3

pub returns-then-turn-count-clause-lighter : goal.returns-then-turn-count-clause-lighter
returns-then-turn-count-clause-lighter g c = beside_below _ _ _ _ (infix_some _ _ _ _ _) c.tries.invariant.lighter

pub returns-then-place-clause-lighter : goal.returns-then-place-clause-lighter
returns-then-place-clause-lighter g c = beside_below _ _ _ _ (infix_some _ _ _ _ _) c.tries.invariant.lighter

pub returns-in-Refused-clause-lighter : goal.returns-in-Refused-clause-lighter
returns-in-Refused-clause-lighter g c = beside_below _ _ _ _ (infix_some _ _ _ _ _) c.tries.invariant.lighter

pub returns-in-Read-clause-lighter : goal.returns-in-Read-clause-lighter
returns-in-Read-clause-lighter g c =
    below_most _ _ _
    (waited_less _ _ g.I.Input _ _ _ _ _ _ _ c.wait.ensures
    (infix_wait _ _ _ _ _ _ (omega (arith, c.tries.invariant.upto, c.if-turn-count.false, c.count.ensures))
    (fewer _ _ _ (omega (arith, c.if-place.false, rw c.cursor.ensures at c.place.ensures, c.place-in-Read.ensures))
    (let k = (g.met.I.Input c.lifetimes (search rules)).within c.attempt.new.inp.cursor in
    let t = rw c.in-Read.is at c.attempt.ensures.tried in
    let e = ap length (same_list (t.same.tokens ∙ c.tries.invariant.tokens)) in omega (arith, k, e)))))
    c.tries.invariant.lighter

pub tries-preserved-in-Absent : goal.tries-preserved-in-Absent
tries-preserved-in-Absent g c =
    let t = rw c.in-Absent.is at c.attempt.ensures.tried in
    record {
      goes = λ to v. let w = c.tries.invariant.goes to v in (
        w.0,
        w.1,
        infix_fails _ _ _ _ w.0 _ _ _ _ _ w.2
            (omega (arith, c.tries.invariant.upto, c.if-turn-count.false, c.count.ensures)) _ _ _ (sym c.fixity.ensures ∙ c.in-Infix.is)
            (omega (arith, c.if-left-turn.false, w.1.least)) (omega (arith, c.if-turn-left.false))
            (infix_unread _ _ _ _ w.0 _ _ _ _ _ w.2 (omega (arith, c.tries.invariant.upto, c.if-turn-count.false, c.count.ensures)) _ _ _
            (sym c.fixity.ensures ∙ c.in-Infix.is) (omega (arith, c.if-left-turn.false, w.1.least)) (omega (arith, c.if-turn-left.false)) t.1) t.2 _ (omega arith),
        w.3,
      );
      lighter = beside_most _ _ _ _ (infix_next _ _ _ _ _ (omega (arith, c.tries.invariant.upto, c.if-turn-count.false, c.count.ensures))) c.tries.invariant.lighter;
      upto = omega (arith, c.tries.invariant.upto, c.if-turn-count.false, c.count.ensures);
      stood = c.tries.invariant.stood ∙ sym t.1.same.tokens ∙ sym (ap (λ (z : Held _ _ _ _). z.tokens) t.2);
      tokens = ap (λ (z : Held _ _ _ _). z.tokens) t.2 ∙ t.1.same.tokens ∙ c.tries.invariant.tokens;
      lent = c.attempt.ensures.lent ∙ c.tries.invariant.lent;
    }

pub tries-preserved-then-left-turn : goal.tries-preserved-then-left-turn
tries-preserved-then-left-turn g c =
    record {
      goes = λ to v. let w = c.tries.invariant.goes to v in (
        w.0,
        w.1,
        unfit_infix _ _ _ _ w.0 _ _ _ _ _ w.2
            (omega (arith, c.tries.invariant.upto, c.if-turn-count.false, c.count.ensures)) _ _ _ (sym c.fixity.ensures ∙ c.in-Infix.is)
            (inl (omega (arith, c.if-left-turn.true, w.1.least))) _ (omega arith),
        w.3,
      );
      lighter = beside_most _ _ _ _ (infix_next _ _ _ _ _ (omega (arith, c.tries.invariant.upto, c.if-turn-count.false, c.count.ensures))) c.tries.invariant.lighter;
      upto = omega (arith, c.tries.invariant.upto, c.if-turn-count.false, c.count.ensures);
      stood = c.tries.invariant.stood;
      tokens = c.tries.invariant.tokens;
      lent = c.tries.invariant.lent;
    }

pub tries-preserved-then-turn-left : goal.tries-preserved-then-turn-left
tries-preserved-then-turn-left g c =
    record {
      goes = λ to v. let w = c.tries.invariant.goes to v in (
        w.0,
        w.1,
        unfit_infix _ _ _ _ w.0 _ _ _ _ _ w.2
            (omega (arith, c.tries.invariant.upto, c.if-turn-count.false, c.count.ensures)) _ _ _ (sym c.fixity.ensures ∙ c.in-Infix.is) (inr c.if-turn-left.true) _
            (omega arith),
        w.3,
      );
      lighter = beside_most _ _ _ _ (infix_next _ _ _ _ _ (omega (arith, c.tries.invariant.upto, c.if-turn-count.false, c.count.ensures))) c.tries.invariant.lighter;
      upto = omega (arith, c.tries.invariant.upto, c.if-turn-count.false, c.count.ensures);
      stood = c.tries.invariant.stood;
      tokens = c.tries.invariant.tokens;
      lent = c.tries.invariant.lent;
    }

pub tries-preserved-in-Prefix : goal.tries-preserved-in-Prefix
tries-preserved-in-Prefix g c =
    record {
      goes = λ to v. let w = c.tries.invariant.goes to v in (
        w.0,
        w.1,
        no_infix_prefix _ _ _ _ w.0 _ _ _ _ _ w.2
            (omega (arith, c.tries.invariant.upto, c.if-turn-count.false, c.count.ensures)) _ (sym c.fixity.ensures ∙ c.in-Prefix.is) _ (omega arith),
        w.3,
      );
      lighter = beside_most _ _ _ _ (infix_next _ _ _ _ _ (omega (arith, c.tries.invariant.upto, c.if-turn-count.false, c.count.ensures))) c.tries.invariant.lighter;
      upto = omega (arith, c.tries.invariant.upto, c.if-turn-count.false, c.count.ensures);
      stood = c.tries.invariant.stood;
      tokens = c.tries.invariant.tokens;
      lent = c.tries.invariant.lent;
    }

pub tries-preserved : goal.tries-preserved
tries-preserved g c =
    record {
      goes = λ to v. let w = c.tries.invariant.goes to v in (
        w.0,
        w.1,
        no_infix_postfix _ _ _ _ w.0 _ _ _ _ _ w.2
            (omega (arith, c.tries.invariant.upto, c.if-turn-count.false, c.count.ensures)) _ (sym c.fixity.ensures ∙ c.in-Postfix.is) _ (omega arith),
        w.3,
      );
      lighter = beside_most _ _ _ _ (infix_next _ _ _ _ _ (omega (arith, c.tries.invariant.upto, c.if-turn-count.false, c.count.ensures))) c.tries.invariant.lighter;
      upto = omega (arith, c.tries.invariant.upto, c.if-turn-count.false, c.count.ensures);
      stood = c.tries.invariant.stood;
      tokens = c.tries.invariant.tokens;
      lent = c.tries.invariant.lent;
    }
