use Rattle.std.proofs.Common.{[], ◌∷◌, sym, subst, ap, ◌∙◌}
use Rattle.std.proofs.lemmas.List.{reverse-append}
use Rattle.std.specs.Prelude.{reverse}
use Rattle.arithmetic.specs.Lines.{ComesTo}
use Rattle.arithmetic.proofs.exact_sum.total_of.Goals as goal

pub loop-step-preserved : goal.loop-step-preserved
loop-step-preserved c =
    let items = c.pop.new.self.items in
    let e = ap reverse c.in-Some.ensures.items ∙ reverse-append items (c.in-Some.step ∷ []) in
    record { comes = λ z h. c.loop-step.invariant.comes z (subst (λ ss. ComesTo c.loop-step.running ss z) (sym e) (c.stepped-running.result, c.stepped-running.ensures, h)) }
