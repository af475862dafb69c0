-- The laws of parsers that are configured by the context.
use Rattle.std.proofs.Common.{◌≡◌, subst}
use Rattle.chumsky_input.specs.Outcome.{Meaning, EndsAfterStart, Agreeing}
use Rattle.chumsky_parser.specs.ChoiceLaws.{agree-weaker}
use Rattle.chumsky_context.specs.Configured.{IsDeterministic, SameByConfig, Configured}

module _ {Tok Cx St Er C V : Type 0} (sets : Cx → C → Type 0) (part : C → Meaning Tok Cx St Er V) where
  pub configured-ends : ((c : C) → EndsAfterStart (part c)) → EndsAfterStart (Configured sets part)
  configured-ends h b o m a = h m.config b o m.runs a

  pub configured-agrees : IsDeterministic sets → (same : C → V → V → Type 0)
      → ((c : C) → Agreeing (same c) (part c) (part c))
      → Agreeing (SameByConfig same) (Configured sets part) (Configured sets part)
  configured-agrees one same h b c o q alike m n a z =
      let e : n.config ≡ m.config = one c.context n.config m.config n.made (subst (λ x. sets x m.config) alike.context m.made) in
      agree-weaker (same m.config) (SameByConfig same) (λ v w s. record { config = m.config; are = s }) o q (h m.config b c o q alike m.runs (subst (λ d. part d c q) e n.runs) a z)
