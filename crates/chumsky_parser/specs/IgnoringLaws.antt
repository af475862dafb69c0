-- The laws of parts that run without their values, and of what is given in their place.
use Rattle.std.proofs.Common.{false, subst, inl, inr}
use Rattle.chumsky_input.specs.Outcome.{Meaning, IsAnswer, EndsAfterStart, Agreeing}
use Rattle.chumsky_parser.specs.Failure.{wanting}
use Rattle.chumsky_parser.specs.Laws.{chained-ends, chained-agrees, given-ends, given-agrees, asked-ends, asked-agrees}
use Rattle.chumsky_parser.specs.FailureLaws.{wanting-same, wanted-same}
use Rattle.chumsky_parser.specs.Ignoring.{Gives, IgnoringFirst, IgnoringSecond, Between}
use Rattle.chumsky_parser.specs.Copied.{GivesCopy, BothCopies}

module _ {Tok Cx St Er V : Type 0} (v : V) where
  pub gives-ends : EndsAfterStart (Gives {Tok = Tok} {Cx = Cx} {St = St} {Er = Er} v)
  gives-ends b o m a = given-ends (wanting b.wanted v) b o m.given a

  pub gives-agrees : (same : V → V → Type 0) → same v v → Agreeing same (Gives {Tok = Tok} {Cx = Cx} {St = St} {Er = Er} v) (Gives v)
  gives-agrees same s b c o q alike m n a z =
      given-agrees same (wanting b.wanted v) (wanting c.wanted v) (wanting-same same b.wanted c.wanted v s) b c o q alike m.given n.given a z

module _ {Tok Cx St Er V : Type 0} (copies : V → Type 0) (safe : Type 0) where
  pub copy-ends : EndsAfterStart (GivesCopy {Tok = Tok} {Cx = Cx} {St = St} {Er = Er} copies safe)
  copy-ends b o m a = elim m.cases [ inl r ↦ absurd (subst IsAnswer r.1 a) | inr h ↦ given-ends h.value b o h.given a ]

  pub copy-agrees : Agreeing (BothCopies copies) (GivesCopy {Tok = Tok} {Cx = Cx} {St = St} {Er = Er} copies safe) (GivesCopy copies safe)
  copy-agrees b c o q alike m n a z =
      elim m.cases [
        | inl r ↦ absurd (subst IsAnswer r.1 a)
        | inr h ↦ elim n.cases [
          | inl r ↦ absurd (subst IsAnswer r.1 z)
          | inr k ↦ given-agrees (BothCopies copies) h.value k.value
              (wanted-same copies (BothCopies copies) (λ v w x y. (x, y)) b.wanted c.wanted h.value k.value h.is_value k.is_value)
              b c o q alike h.given k.given a z
        ]
      ]

module _ {Tok Cx St Er V W : Type 0} (first : Meaning Tok Cx St Er V) (second : Meaning Tok Cx St Er W) where
  pub ignoring_first-ends : EndsAfterStart first → EndsAfterStart second → EndsAfterStart (IgnoringFirst first second)
  ignoring_first-ends f s = chained-ends _ _ (asked-ends false first f) (λ _. s)

  pub ignoring_first-agrees : (sv : V → V → Type 0) (sw : W → W → Type 0) → Agreeing sv first first → Agreeing sw second second → Agreeing sw (IgnoringFirst first second) (IgnoringFirst first second)
  ignoring_first-agrees sv sw f s = chained-agrees _ _ _ _ sv sw (asked-agrees false first sv f) (λ _ _ _. s)

  pub ignoring_second-ends : EndsAfterStart first → EndsAfterStart second → EndsAfterStart (IgnoringSecond first second)
  ignoring_second-ends f s = chained-ends first _ f (λ v. chained-ends _ _ (asked-ends false second s) (λ _. given-ends v))

  pub ignoring_second-agrees : (sv : V → V → Type 0) (sw : W → W → Type 0) → Agreeing sv first first
      → Agreeing sw second second → Agreeing sv (IgnoringSecond first second) (IgnoringSecond first second)
  ignoring_second-agrees sv sw f s =
      chained-agrees first first _ _ sv sv f (λ v w e. chained-agrees _ _ _ _ sw sv (asked-agrees false second sw s) (λ _ _ _. given-agrees sv v w e))

module _ {Tok Cx St Er U V W : Type 0} (opening : Meaning Tok Cx St Er U) (part : Meaning Tok Cx St Er V) (closing : Meaning Tok Cx St Er W) where
  pub between-ends : EndsAfterStart opening → EndsAfterStart part → EndsAfterStart closing → EndsAfterStart (Between opening part closing)
  between-ends o p c = ignoring_first-ends opening _ o (ignoring_second-ends part closing p c)

  pub between-agrees : (su : U → U → Type 0) (sv : V → V → Type 0) (sw : W → W → Type 0) → Agreeing su opening opening
      → Agreeing sv part part → Agreeing sw closing closing
      → Agreeing sv (Between opening part closing) (Between opening part closing)
  between-agrees su sv sw o p c = ignoring_first-agrees opening _ su sv o (ignoring_second-agrees part closing sv sw p c)
