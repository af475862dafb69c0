use Rattle.std.proofs.Common.{◌≡◌, refl, sym, ◌∙◌, ap, arith, length, rules}
use Rattle.chumsky_input.specs.Held.{Held}
use Rattle.chumsky_input.specs.Layout.{same_list}
use Rattle.chumsky_pratt.proofs.RoundLemmas.{to_infixes, postfix_before, no_postfix_prefix, no_postfix_infix, weak_postfix, postfix_fails, postfix_read_refused, postfix_stays, postfix_goes}
use Rattle.chumsky_pratt.proofs.WeightLemmas.{beside_most, beside_below, fewer, postfix_infix, postfix_next, postfix_value, postfix_some}
use Rattle.chumsky_pratt.proofs.steps.try_postfixes.Goals as goal

pub tries-init : goal.tries-init
tries-init g c =
    record {
      goes = λ to w. w;
      lighter = omega arith;
      upto = (let w = c.requires.may.1 in postfix_before _ _ _ _ w.0 _ _ _ _ _ w.2);
      since = c.requires.since;
      order = c.requires.order;
      stood = (let w = c.requires.may.1 in w.2.stands.tokens);
      tokens = refl;
      lent = refl;
    }

pub returns-then-turn-count-clause-goes : goal.returns-then-turn-count-clause-goes
returns-then-turn-count-clause-goes g c = λ to v. let w = c.tries.invariant.goes to v in (
  w.0,
  w.1,
  to_infixes _ _ _ _ w.0 _ _ _ _ _ w.2
      (c.if-turn-count.true ∙ c.count.ensures),
  w.3,
)

pub returns-then-turn-count-clause-lighter : goal.returns-then-turn-count-clause-lighter
returns-then-turn-count-clause-lighter g c = beside_below _ _ _ _ (postfix_infix _ _ _ _ _) c.tries.invariant.lighter

pub returns-then-place-clause-goes : goal.returns-then-place-clause-goes
returns-then-place-clause-goes g c =
    λ to v. let w = c.tries.invariant.goes to v in (
      w.0,
      postfix_stays _ _ _ _ w.0 _ _ _ _ _ w.2 (omega (arith, c.tries.invariant.upto, c.if-turn-count.false, c.count.ensures)) _ (sym c.fixity.ensures ∙ c.in-Postfix.is)
          (omega (arith, c.if-power-turn.false, w.1.least)) _ (rw c.in-Read.is at c.attempt.ensures.tried)
          (omega (arith, c.if-place.true, rw c.cursor.ensures at c.place.ensures, c.place-in-Read.ensures, w.2.at)),
      w.3,
    )

pub returns-in-Refused-clause-goes : goal.returns-in-Refused-clause-goes
returns-in-Refused-clause-goes g c =
    λ to v. let w = c.tries.invariant.goes to v in (
      w.0,
      postfix_read_refused _ _ _ _ w.0 _ _ _ _ _ w.2
          (omega (arith, c.tries.invariant.upto, c.if-turn-count.false, c.count.ensures)) _ (sym c.fixity.ensures ∙ c.in-Postfix.is)
          (omega (arith, c.if-power-turn.false, w.1.least)) _ (rw c.in-Refused.is at c.attempt.ensures.tried),
      w.3,
    )

pub returns-in-Read-clause-goes : goal.returns-in-Read-clause-goes
returns-in-Read-clause-goes g c =
    λ to v. let w = c.tries.invariant.goes to v in (
      w.0,
      w.1,
      postfix_goes _ _ _ _ w.0 _ _ _ _ _ w.2 (omega (arith, c.tries.invariant.upto, c.if-turn-count.false, c.count.ensures)) _ (sym c.fixity.ensures ∙ c.in-Postfix.is)
          (omega (arith, c.if-power-turn.false, w.1.least)) _ _ (rw c.in-Read.is at c.attempt.ensures.tried)
          (omega (arith, c.if-place.false, rw c.cursor.ensures at c.place.ensures, c.place-in-Read.ensures, w.2.at))
          (rw w.1.place at c.fold-output.ensures.ran)
          (ap (λ (z : Held _ _ _ _). z.place) c.fold-output.ensures.moves),
      w.3,
    )

pub returns-then-place-clause-lighter : goal.returns-then-place-clause-lighter
returns-then-place-clause-lighter g c = beside_below _ _ _ _ (postfix_some _ _ _ _ _) c.tries.invariant.lighter

pub returns-in-Refused-clause-lighter : goal.returns-in-Refused-clause-lighter
returns-in-Refused-clause-lighter g c = beside_below _ _ _ _ (postfix_some _ _ _ _ _) c.tries.invariant.lighter

pub returns-in-Read-clause-lighter : goal.returns-in-Read-clause-lighter
returns-in-Read-clause-lighter g c =
    let m : g.I.Input.place c.fold-output.new.inp.cursor ≡ g.I.Input.place c.attempt.new.inp.cursor = ap (λ (z : Held _ _ _ _). z.place) c.fold-output.ensures.moves in
    beside_below _ _ _ _
    (postfix_value _ _ _ _ _ _
    (fewer _ _ _ (omega (arith, m, c.if-place.false, rw c.cursor.ensures at c.place.ensures, c.place-in-Read.ensures))
    (let k = (g.met.I.Input c.lifetimes (search rules)).within c.attempt.new.inp.cursor in
    let t = rw c.in-Read.is at c.attempt.ensures.tried in
    let e = ap length (same_list (t.same.tokens ∙ c.tries.invariant.tokens)) in omega (arith, m, k, e))))
    c.tries.invariant.lighter

pub tries-preserved-in-Absent : goal.tries-preserved-in-Absent
tries-preserved-in-Absent g c =
    let t = rw c.in-Absent.is at c.attempt.ensures.tried in
    record {
      goes = λ to v. let w = c.tries.invariant.goes to v in (
        w.0,
        w.1,
        postfix_fails _ _ _ _ w.0 _ _ _ _ _ w.2
            (omega (arith, c.tries.invariant.upto, c.if-turn-count.false, c.count.ensures)) _ (sym c.fixity.ensures ∙ c.in-Postfix.is)
            (omega (arith, c.if-power-turn.false, w.1.least)) t.1 t.2 _ (omega arith),
        w.3,
      );
      lighter = beside_most _ _ _ _ (postfix_next _ _ _ _ _ (omega (arith, c.tries.invariant.upto, c.if-turn-count.false, c.count.ensures))) c.tries.invariant.lighter;
      upto = omega (arith, c.tries.invariant.upto, c.if-turn-count.false, c.count.ensures);
      stood = c.tries.invariant.stood ∙ sym t.1.same.tokens ∙ sym (ap (λ (z : Held _ _ _ _). z.tokens) t.2);
      since = c.tries.invariant.since ∙ sym t.1.same.tokens ∙ sym (ap (λ (z : Held _ _ _ _). z.tokens) t.2);
      order = c.tries.invariant.order;
      tokens = ap (λ (z : Held _ _ _ _). z.tokens) t.2 ∙ t.1.same.tokens ∙ c.tries.invariant.tokens;
      lent = c.attempt.ensures.lent ∙ c.tries.invariant.lent;
    }

pub tries-preserved-then-power-turn : goal.tries-preserved-then-power-turn
tries-preserved-then-power-turn g c =
    record {
      goes = λ to v. let w = c.tries.invariant.goes to v in (
        w.0,
        w.1,
        weak_postfix _ _ _ _ w.0 _ _ _ _ _ w.2
            (omega (arith, c.tries.invariant.upto, c.if-turn-count.false, c.count.ensures)) _ (sym c.fixity.ensures ∙ c.in-Postfix.is)
            (omega (arith, c.if-power-turn.true, w.1.least)) _ (omega arith),
        w.3,
      );
      lighter = beside_most _ _ _ _ (postfix_next _ _ _ _ _ (omega (arith, c.tries.invariant.upto, c.if-turn-count.false, c.count.ensures))) c.tries.invariant.lighter;
      upto = omega (arith, c.tries.invariant.upto, c.if-turn-count.false, c.count.ensures);
      since = c.tries.invariant.since;
      order = c.tries.invariant.order;
      stood = c.tries.invariant.stood;
      tokens = c.tries.invariant.tokens;
      lent = c.tries.invariant.lent;
    }

pub tries-preserved-in-Prefix : goal.tries-preserved-in-Prefix
tries-preserved-in-Prefix g c =
    record {
      goes = λ to v. let w = c.tries.invariant.goes to v in (
        w.0,
        w.1,
        no_postfix_prefix _ _ _ _ w.0 _ _ _ _ _ w.2
            (omega (arith, c.tries.invariant.upto, c.if-turn-count.false, c.count.ensures)) _ (sym c.fixity.ensures ∙ c.in-Prefix.is) _ (omega arith),
        w.3,
      );
      lighter = beside_most _ _ _ _ (postfix_next _ _ _ _ _ (omega (arith, c.tries.invariant.upto, c.if-turn-count.false, c.count.ensures))) c.tries.invariant.lighter;
      upto = omega (arith, c.tries.invariant.upto, c.if-turn-count.false, c.count.ensures);
      since = c.tries.invariant.since;
      order = c.tries.invariant.order;
      stood = c.tries.invariant.stood;
      tokens = c.tries.invariant.tokens;
      lent = c.tries.invariant.lent;
    }

pub tries-preserved : goal.tries-preserved
tries-preserved g c =
    record {
      goes = λ to v. let w = c.tries.invariant.goes to v in (
        w.0,
        w.1,
        no_postfix_infix _ _ _ _ w.0 _ _ _ _ _ w.2
            (omega (arith, c.tries.invariant.upto, c.if-turn-count.false, c.count.ensures)) _ _ _ (sym c.fixity.ensures ∙ c.in-Infix.is) _ (omega arith),
        w.3,
      );
      lighter = beside_most _ _ _ _ (postfix_next _ _ _ _ _ (omega (arith, c.tries.invariant.upto, c.if-turn-count.false, c.count.ensures))) c.tries.invariant.lighter;
      upto = omega (arith, c.tries.invariant.upto, c.if-turn-count.false, c.count.ensures);
      since = c.tries.invariant.since;
      order = c.tries.invariant.order;
      stood = c.tries.invariant.stood;
      tokens = c.tries.invariant.tokens;
      lent = c.tries.invariant.lent;
    }
