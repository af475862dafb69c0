-- The laws of a parser of one of two types.
use Rattle.either.specs.declared.Either.{Either}
use Rattle.either.specs.declared.Either.TheVariants.{Left, Right}
use Rattle.either.specs.Either.{MatchEither}
use Rattle.chumsky_input.specs.Outcome.{Meaning, EndsAfterStart, Agreeing}
use Rattle.std.specs.Prelude.{◌≡◌, Bool, true}
use Rattle.chumsky_parser.specs.Progress.{Moves}

module _ {A B Tok Cx St Er V : Type 0} (left : A → Meaning Tok Cx St Er V) (right : B → Meaning Tok Cx St Er V) where
  pub either-ends : ((x : A) → EndsAfterStart (left x)) → ((y : B) → EndsAfterStart (right y)) → (p : Either A B) → EndsAfterStart (λ b o. MatchEither p (λ x. left x b o) (λ y. right y b o))
  either-ends f g (Left x) = f x
  either-ends f g (Right y) = g y

  module _ (steady_left : A → Type 0) (steady_right : B → Type 0) (same_left : A → V → V → Type 0) (same_right : B → V → V → Type 0) where
    pub either-agrees : ((x : A) → steady_left x → Agreeing (same_left x) (left x) (left x))
        → ((y : B) → steady_right y → Agreeing (same_right y) (right y) (right y)) → (p : Either A B)
        → MatchEither p steady_left steady_right
        → Agreeing (λ v w. MatchEither p (λ x. same_left x v w) (λ y. same_right y v w))
        (λ b o. MatchEither p (λ x. left x b o) (λ y. right y b o))
        (λ b o. MatchEither p (λ x. left x b o) (λ y. right y b o))
    either-agrees f g (Left x) s = f x s
    either-agrees f g (Right y) s = g y s

-- what holds of the one that is there
abbrev pub of_either : {A B : Type 0} → (A → Bool) → (B → Bool) → Either A B → Bool
of_either f g (Left x) = f x
of_either f g (Right y) = g y

module _ {Tok Cx St Er : Type 0} where
  pub either-moves : {A B V : Type 0} (left : A → Meaning Tok Cx St Er V) (right : B → Meaning Tok Cx St Er V) (f : A → Bool) (g : B → Bool)
      → ((x : A) → f x ≡ true → Moves (left x)) → ((y : B) → g y ≡ true → Moves (right y)) → (p : Either A B)
      → of_either f g p ≡ true
      → Moves (λ b o. MatchEither p (λ x. left x b o) (λ y. right y b o))
  either-moves left right f g hf hg (Left x) = hf x
  either-moves left right f g hf hg (Right y) = hg y
