use Rattle.std.proofs.Common.{rules, ◌≡◌, Err, Ok, Some, true, ap, ◌∙◌}
use Rattle.std.proofs.lemmas.List.{nil_from_length}
use Rattle.chumsky_input.specs.declared.stop.Fault.TheVariants as fault
use Rattle.chumsky_input.specs.declared.stop.Stop.TheVariants.{Memory}
use Rattle.chumsky_parser.proofs.ChainedLemmas.{emit_ok, emit_err, check_err}
use Rattle.chumsky_recovery.proofs.TurnsLemmas.{fewer_left}
use Rattle.chumsky_recovery.proofs.NestedLemmas.{nested-failed, nested-closed, nested-back, nested-opened, nested-full, nested-other}
use Rattle.chumsky_recovery.proofs.nested_delimiters.take_nested.Goals as goal

pub returns-in_err-role-clause-ran : goal.returns-in_err-role-clause-ran
returns-in_err-role-clause-ran g c w =
    let e : c.from_residual.result ≡ Err c.in_err-role.field-0.0 = search rules in
    nested-failed (c.loop-open.invariant.from w) (c.take_fitting.ensures.ran w) (emit_err c.in_err-role.was) (check_err e)

pub returns-in_err-put-in-Opens-clause-ran : goal.returns-in_err-put-in-Opens-clause-ran
returns-in_err-put-in-Opens-clause-ran g c w =
    let e : c.from_residual-in_err-put-in-Opens.result ≡ Err (fault.Stop Memory) = search rules in
    nested-full (c.loop-open.invariant.from w) (c.take_fitting.ensures.ran w) c.in-Opens.closing (emit_ok c.in_ok-role.was ∙ ap (λ z. Ok (Some z)) c.in-Opens.is) (check_err e)

pub loop-open-smaller-in-Opens : goal.loop-open-smaller-in-Opens
loop-open-smaller-in-Opens g c =
    fewer_left _ _ _ _ (c.take_fitting.ensures.ran true).same.tokens c.in_ok-role.ensures.onward
    ((g.met.I.Input c.lifetimes (search rules)).within c.take_fitting.new.inp.cursor)

pub loop-open-preserved-in-Opens : goal.loop-open-preserved-in-Opens
loop-open-preserved-in-Opens g c = record {
  from =
      λ w. nested-opened (c.loop-open.invariant.from w) (c.take_fitting.ensures.ran w) c.in-Opens.closing _
      (emit_ok c.in_ok-role.was ∙ ap (λ z. Ok (Some z)) c.in-Opens.is) c.in_ok-put-in-Opens.ensures;
  lent = search rules;
}

pub loop-open-smaller-in-Some : goal.loop-open-smaller-in-Some
loop-open-smaller-in-Some g c =
    fewer_left _ _ _ _ (c.take_fitting.ensures.ran true).same.tokens c.in_ok-role.ensures.onward
    ((g.met.I.Input c.lifetimes (search rules)).within c.take_fitting.new.inp.cursor)

pub loop-open-preserved-in-Some : goal.loop-open-preserved-in-Some
loop-open-preserved-in-Some g c = record {
  from =
      λ w. nested-back (c.loop-open.invariant.from w) (c.take_fitting.ensures.ran w) c.in-Some.outer _
      (emit_ok c.in_ok-role.was ∙ ap (λ z. Ok (Some z)) c.in-Closes.is) (rw c.in-Some.is at c.pop.ensures.items);
  lent = search rules;
}

pub returns-in-None-clause-ran : goal.returns-in-None-clause-ran
returns-in-None-clause-ran g c w =
    nested-closed (c.loop-open.invariant.from w) (c.take_fitting.ensures.ran w) (emit_ok c.in_ok-role.was ∙ ap (λ z. Ok (Some z)) c.in-Closes.is) (search (rules, nil_from_length))

pub loop-open-smaller : goal.loop-open-smaller
loop-open-smaller g c = fewer_left _ _ _ _ (c.take_fitting.ensures.ran true).same.tokens c.in_ok-role.ensures.onward ((g.met.I.Input c.lifetimes (search rules)).within c.take_fitting.new.inp.cursor)

pub loop-open-preserved : goal.loop-open-preserved
loop-open-preserved g c = record {
  from = λ w. nested-other (c.loop-open.invariant.from w) (c.take_fitting.ensures.ran w) (emit_ok c.in_ok-role.was ∙ ap (λ z. Ok (Some z)) c.in-Other.is);
  lent = search rules;
}
