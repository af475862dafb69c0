-- The laws of a part whose value is put together anew.
use Rattle.std.proofs.Common.{Option, Some, None, option_map}
use Rattle.chumsky_input.specs.Outcome.{Meaning, SameValue, EndsAfterStart, Agreeing}
use Rattle.chumsky_parser.specs.Chained.{Sequence, SamePair}
use Rattle.chumsky_parser.specs.Laws.{chained-ends, chained-agrees, given-ends, given-agrees, sequence-agrees}
use Rattle.chumsky_group.specs.Regrouped.{Regrouped}

module _ {V W : Type 0} (f : V → W) (sv : V → V → Type 0) (sw : W → W → Type 0) (h : (v w : V) → sv v w → sw (f v) (f w)) where
  option_map-same : (v w : Option V) → SameValue sv v w → SameValue sw (option_map f v) (option_map f w)
  option_map-same (Some v) (Some w) s = h v w s
  option_map-same (Some v) None s = tt
  option_map-same None w s = tt

-- that two answers of the parts so far agree
pub record AgreeSoFar {Tok Cx St Er V : Type 0} (same : V → V → Type 0) (m : Meaning Tok Cx St Er V) : Type 0 where
  pub agree : Agreeing same m m

pub first-agrees : {Tok Cx St Er V : Type 0} {same : V → V → Type 0} {m : Meaning Tok Cx St Er V} → Agreeing same m m → AgreeSoFar same m
first-agrees h = record { agree = h }

pub and-agrees : {Tok Cx St Er V W : Type 0} {sv : V → V → Type 0} {sw : W → W → Type 0} {m : Meaning Tok Cx St Er V}
    {n : Meaning Tok Cx St Er W}
    → AgreeSoFar sv m → Agreeing sw n n → AgreeSoFar (SamePair sv sw) (Sequence m n)
and-agrees {sv} {sw} {m} {n} h k = record { agree = sequence-agrees m n sv sw h.agree k }

module _ {Tok Cx St Er V W : Type 0} (f : V → W) (part : Meaning Tok Cx St Er V) where
  pub regrouped-ends : EndsAfterStart part → EndsAfterStart (Regrouped f part)
  regrouped-ends h = chained-ends part _ h (λ v. given-ends (option_map f v))

  pub regrouped-agrees : {sv : V → V → Type 0} (sw : W → W → Type 0) → ((v w : V) → sv v w → sw (f v) (f w)) → AgreeSoFar sv part → Agreeing sw (Regrouped f part) (Regrouped f part)
  regrouped-agrees {sv} sw h p =
      chained-agrees part part _ _ sv sw p.agree (λ v w s. given-agrees sw (option_map f v) (option_map f w) (option_map-same f sv sw h v w s))
