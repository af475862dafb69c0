-- The laws of steps whose iteration is part of another iteration.
use Rattle.std.proofs.Common.{Some}
use Rattle.chumsky_input.specs.Outcome.{Meaning, EndsAfterStart, Agreeing}
use Rattle.chumsky_parser.specs.Chained.{Given}
use Rattle.chumsky_parser.specs.Laws.{chained-ends, chained-agrees, given-ends, given-agrees}
use Rattle.chumsky_parser.specs.Items.{Next, More, End, SameNext}
use Rattle.chumsky_parser.specs.ItemsLaws.{after_step-ends, after_step-agrees}
use Rattle.chumsky_context.specs.Carried.{Carried}

module _ {Tok Cx St Er S T V : Type 0} where
  pub carried-ends : (carry : S → T) (step : Meaning Tok Cx St Er (Next S V)) → EndsAfterStart step → EndsAfterStart (Carried carry step)
  carried-ends carry step h b o m a =
      chained-ends step _ h (after_step-ends (λ v s. Given (Some (More v (carry s)))) (Given (Some End)) (λ v s. given-ends (Some (More v (carry s)))) (given-ends (Some End))) b o m.run a

  pub carried-agrees : (carry carry' : S → T) (step step' : Meaning Tok Cx St Er (Next S V)) (same : V → V → Type 0)
      (alike : S → S → Type 0) (beside : T → T → Type 0)
      → ((s t : S) → alike s t → beside (carry s) (carry' t))
      → Agreeing (SameNext same alike) step step' → Agreeing (SameNext same beside) (Carried carry step) (Carried carry' step')
  carried-agrees carry carry' step step' same alike beside k h b c o q l m n a z =
      chained-agrees step step' _ _ (SameNext same alike) (SameNext same beside) h
      (after_step-agrees same alike (SameNext same beside) (λ v s. Given (Some (More v (carry s)))) (λ v s. Given (Some (More v (carry' s)))) (Given (Some End)) (Given (Some End))
      (λ v w s t e i. given-agrees (SameNext same beside) (Some (More v (carry s))) (Some (More w (carry' t))) (e, k s t i))
      (given-agrees (SameNext same beside) (Some End) (Some End) tt)) b c o q l m.run n.run a z
