-- A number in a token that is a text in quotes.
-- Main word: IsQuotedNumber. Laws: QuotedLaws.antt.
use Rattle.std.specs.Prelude.{◌≡◌, ℕ, Option, Some, None, List, [], ◌∷◌}
use Rattle.std.specs.Borrow.{Bor}
use Rattle.std.specs.Str.{chars}
use Rattle.chumsky_exact.specs.Numerals.{IsUnsigned}
use Rattle.exact.specs.declared.quoted.Token.{Token}
use Rattle.exact.specs.declared.quoted.Token.TheVariants.{Name, Equals, Quoted}

-- the text of a token in quotes, and of a word that is one such token
abbrev pub quoted_text : Token → Option (Bor (List ℕ))
quoted_text (Name text) = None
quoted_text Equals = None
quoted_text (Quoted text) = Some text

abbrev pub quoted_word : List Token → Option (Bor (List ℕ))
quoted_word (t ∷ []) = quoted_text t
quoted_word _ = None

-- one token, in quotes, whose text writes this number
pub record IsQuotedNumber (ts : List Token) (n : ℕ) : Type 0 where
  pub text : Bor (List ℕ)
  pub all : ts ≡ Quoted text ∷ []
  pub number : IsUnsigned 32 (chars text.now) n
