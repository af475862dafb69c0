-- The laws of a part that may be absent, as items.
use Rattle.std.proofs.Common.{◌≡◌, Bool, true, false, Some, refl, subst, inl, inr}
use Rattle.chumsky_input.specs.Outcome.{Meaning, EndsAfterStart, Agreeing}
use Rattle.chumsky_parser.specs.Chained.{Given}
use Rattle.chumsky_parser.specs.Choice.{SameEither}
use Rattle.chumsky_parser.specs.ChoiceLaws.{agree-weaker, or_else-ends, or_else-agrees}
use Rattle.chumsky_parser.specs.Items.{Next, More, End, SameNext, ItemsEnd, ItemsAgree}
use Rattle.chumsky_parser.specs.Laws.{chained-ends, chained-agrees, given-ends, given-agrees}
use Rattle.chumsky_combinator.specs.AtMostOne.{OnceTried, AtMostOne}

-- two answers to whether the part was tried
abbrev pub SameTried : Bool → Bool → Type 0
SameTried x y = x ≡ y

module _ {V : Type 0} (same : V → V → Type 0) where
  either_next : (v w : Next Bool V) → SameEither (SameNext same SameTried) (SameNext same SameTried) v w → SameNext same SameTried v w
  either_next v w (inl s) = s
  either_next v w (inr s) = s

module _ {Tok Cx St Mk Er V : Type 0} (mark : St → Mk) (back : St → Mk → St) (safe : Type 0) (part : Meaning Tok Cx St Er V) where
  once-ends : EndsAfterStart part → (tried : Bool) → EndsAfterStart (OnceTried mark back safe part tried)
  once-ends h true = given-ends (Some End)
  once-ends h false = or_else-ends mark back safe _ _ (chained-ends part _ h (λ v. given-ends (Some (More v true)))) (given-ends (Some End))

  once-agrees : (same : V → V → Type 0) → Agreeing same part part → (tried : Bool) → Agreeing (SameNext same SameTried) (OnceTried mark back safe part tried) (OnceTried mark back safe part tried)
  once-agrees same h true = given-agrees (SameNext same SameTried) (Some End) (Some End) tt
  once-agrees same h false = λ b c o q alike m n a z.
      agree-weaker (SameEither (SameNext same SameTried) (SameNext same SameTried)) (SameNext same SameTried) (either_next same) o q
      (or_else-agrees mark back safe _ _ (SameNext same SameTried) (SameNext same SameTried)
      (chained-agrees part part _ _ same (SameNext same SameTried) h (λ v w e. given-agrees (SameNext same SameTried) (Some (More v true)) (Some (More w true)) (e, refl)))
      (given-agrees (SameNext same SameTried) (Some End) (Some End) tt) b c o q alike m n a z)

  one_agrees : (same : V → V → Type 0) → Agreeing same part part → (tried : Bool) → Agreeing (SameNext same SameTried) (AtMostOne mark back safe part tried) (AtMostOne mark back safe part tried)
  one_agrees same h tried b c o q alike m n a z = once-agrees same h tried b c o q alike m.step n.step a z

  pub at_most_one-end : EndsAfterStart part → ItemsEnd (Given {Tok = Tok} {Cx = Cx} {St = St} {Er = Er} (Some false)) (AtMostOne mark back safe part)
  at_most_one-end h = record { begin = given-ends (Some false); step = λ t b o m a. once-ends h t b o m.step a }

  pub at_most_one-agree : (same : V → V → Type 0) → Agreeing same part part → ItemsAgree same SameTried (Given {Tok = Tok} {Cx = Cx} {St = St} {Er = Er} (Some false)) (AtMostOne mark back safe part)
  at_most_one-agree same h =
      record {
        begin = given-agrees SameTried (Some false) (Some false) refl;
        step = λ s t e. subst (λ x. Agreeing (SameNext same SameTried) (AtMostOne mark back safe part s) (AtMostOne mark back safe part x)) e (one_agrees same h s);
      }
