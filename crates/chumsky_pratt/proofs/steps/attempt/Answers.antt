use Rattle.std.proofs.Common.{refl, sym, ◌∙◌, ap, Err, inl, inr}
use Rattle.chumsky_input.specs.Held.{Held}
use Rattle.chumsky_pratt.proofs.steps.attempt.Goals as goal

pub rewind-requires : goal.rewind-requires
rewind-requires g c = λ k. ((refl, tt), c.requires.tokens ∙ sym c.operator.ensures.ran.same.tokens)

pub returns-in-Ok-clause-tried : goal.returns-in-Ok-clause-tried
returns-in-Ok-clause-tried g c = rw c.in-Ok.is at c.operator.ensures.ran

pub returns-in-Err-Stop-clause-tried : goal.returns-in-Err-Stop-clause-tried
returns-in-Err-Stop-clause-tried g c = inl (rw (c.in-Err-Stop.is ∙ ap Err c.in-Err-Stop.field-0-is) at c.operator.ensures.ran)

pub returns-in-Ok-rewind-clause-tried : goal.returns-in-Ok-rewind-clause-tried
returns-in-Ok-rewind-clause-tried g c = (_, rw (c.in-Err-Fail.is ∙ ap Err c.in-Err-Fail.field-0-is) at c.operator.ensures.ran, c.in-Ok-rewind.ensures.back)

pub returns-in-Err-clause-tried : goal.returns-in-Err-clause-tried
returns-in-Err-clause-tried g c =
    inr (refl, rw c.in-Err.ensures.back.0 (rw (c.in-Err-Fail.is ∙ ap Err c.in-Err-Fail.field-0-is) at c.operator.ensures.ran), c.in-Err.ensures.back.1)

pub returns-in-Ok-rewind-clause-tokens : goal.returns-in-Ok-rewind-clause-tokens
returns-in-Ok-rewind-clause-tokens g c = ap (λ (z : Held _ _ _ _). z.tokens) c.in-Ok-rewind.ensures.back ∙ c.operator.ensures.ran.same.tokens

pub returns-in-Err-clause-tokens : goal.returns-in-Err-clause-tokens
returns-in-Err-clause-tokens g c = ap (λ (z : Held _ _ _ _). z.tokens) c.in-Err.ensures.back.0 ∙ c.operator.ensures.ran.same.tokens
