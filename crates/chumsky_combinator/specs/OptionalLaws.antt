-- The laws of a part that may be absent.
use Rattle.std.proofs.Common.{◌≡◌, Option, Some, None, option_map, refl, sym, ap, ◌∙◌, inl, inr}
use Rattle.chumsky_input.specs.Outcome.{Meaning, Beginning, Outcome, Verdict, Yes, No, Halt, Clash, SameValue, EndsAfterStart, Agreeing}
use Rattle.chumsky_parser.specs.Choice.{OrElse, ElseFrom, SameEither}
use Rattle.chumsky_parser.specs.ChoiceLaws.{agree-weaker, or_else-ends, or_else-agrees}
use Rattle.chumsky_parser.specs.IgnoringLaws.{gives-ends, gives-agrees}
use Rattle.chumsky_parser.specs.Laws.{chained-ends, chained-agrees, given-ends, given-agrees}
use Rattle.chumsky_parser.specs.Memory.{NeverOutOfMemory}
use Rattle.chumsky_parser.specs.MemoryLaws.{chained-spares, given-spares, gives-spares, or_else-spares}
use Rattle.chumsky_combinator.specs.Optional.{OrNone, SameOption, NeverSaysNo}

module _ {V : Type 0} (same : V → V → Type 0) where
  some-same : (v w : Option V) → SameValue same v w → SameValue (SameOption same) (option_map Some v) (option_map Some w)
  some-same (Some v) (Some w) s = s
  some-same (Some v) None s = tt
  some-same None w s = tt

  either-option : (v w : Option V) → SameEither (SameOption same) (SameOption same) v w → SameOption same v w
  either-option v w (inl s) = s
  either-option v w (inr s) = s

module _ {Tok Cx St Mk Er V : Type 0} (back : St → Mk → St) (safe : Type 0) (mark : Mk) (second : Meaning Tok Cx St Er V) where
  else_never_no : NeverSaysNo second → (v : Verdict V Er) (b : Beginning Tok Cx St) (p o : Outcome V Er St) → p.verdict ≡ v → ElseFrom back safe mark v second b p o → o.verdict ≡ No → ⊥
  else_never_no h (Yes v) b p o e m n = cc
  else_never_no h No b p o e (inl r) n = let r1 = r.1 in cc
  else_never_no h No b p o e (inr k) n = h _ k.0 k.1 (sym (ap (λ (x : Outcome V Er St). x.verdict) k.2) ∙ n)
  else_never_no h (Halt s) b p o e m n = cc
  else_never_no h (Clash x) b p o e m n = cc

module _ {Tok Cx St Mk Er V : Type 0} (mark : St → Mk) (back : St → Mk → St) (safe : Type 0) (first second : Meaning Tok Cx St Er V) where
  -- a choice whose last alternative never says no
  or_else-never_no : NeverSaysNo second → NeverSaysNo (OrElse mark back safe first second)
  or_else-never_no h b o m n = elim m.cases [ inl r ↦ let r1 = r.1 in cc | inr t ↦ else_never_no back safe (mark b.state) second h t.attempt.verdict b t.attempt o refl t.then_else n ]

module _ {Tok Cx St Mk Er V : Type 0} (mark : St → Mk) (back : St → Mk → St) (safe : Type 0) (part : Meaning Tok Cx St Er V) where
  pub or_none-ends : EndsAfterStart part → EndsAfterStart (OrNone mark back safe part)
  or_none-ends h = or_else-ends mark back safe _ _ (chained-ends part _ h (λ v. given-ends (option_map Some v))) (gives-ends None)

  pub or_none-agrees : (same : V → V → Type 0) → Agreeing same part part → Agreeing (SameOption same) (OrNone mark back safe part) (OrNone mark back safe part)
  or_none-agrees same h b c o q alike m n a z =
      agree-weaker (SameEither (SameOption same) (SameOption same)) (SameOption same) (either-option same) o q
      (or_else-agrees mark back safe _ _ (SameOption same) (SameOption same)
      (chained-agrees part part _ _ same (SameOption same) h (λ v w e. given-agrees (SameOption same) (option_map Some v) (option_map Some w) (some-same same v w e)))
      (gives-agrees None (SameOption same) tt) b c o q alike m n a z)

  pub or_none-never_no : NeverSaysNo (OrNone mark back safe part)
  or_none-never_no = or_else-never_no mark back safe _ _ (λ b o m n. let given = m.given in cc)

  pub or_none-spares : safe → NeverOutOfMemory part → NeverOutOfMemory (OrNone mark back safe part)
  or_none-spares x h =
      or_else-spares mark back safe _ _ x (chained-spares part _ h (λ v. given-spares (option_map Some v))) (gives-spares None)
