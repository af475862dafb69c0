-- The language of a parser of one of two types.
-- Main words: either_language. Law: of_either-accepts. Read first: Language.antt.
use Rattle.either.specs.declared.Either.{Either}
use Rattle.either.specs.declared.Either.TheVariants.{Left, Right}
use Rattle.either.specs.Either.{MatchEither}
use Rattle.chumsky_input.specs.Outcome.{Meaning}
use Rattle.chumsky_parser.specs.Language.{Language, Accepts}

-- the language of the parser that is there
abbrev pub either_language : {A B Tok V : Type 0} → (A → Language Tok V) → (B → Language Tok V) → Either A B → Language Tok V
either_language F G (Left x) = F x
either_language F G (Right y) = G y

module _ {A B Tok Cx St Er V : Type 0} (left : A → Meaning Tok Cx St Er V) (right : B → Meaning Tok Cx St Er V) (F : A → Language Tok V) (G : B → Language Tok V) {spare : Type 0} where
  pub of_either-accepts : ((x : A) → Accepts (left x) (F x) spare) → ((y : B) → Accepts (right y) (G y) spare) → (p : Either A B)
      → Accepts (λ b o. MatchEither p (λ x. left x b o) (λ y. right y b o)) (either_language F G p) spare
  of_either-accepts h k (Left x) = h x
  of_either-accepts h k (Right y) = k y
