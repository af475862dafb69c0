-- What a part took, in place of its value or beside it: slices and spans.
-- Main words: Covers, WithSpan. Laws: CoveredLaws.antt.
use Rattle.std.specs.Prelude.{◌≡◌, ℕ, false, Option, option_map, List}
use Rattle.chumsky_input.specs.Layout.{Layout}
use Rattle.chumsky_input.specs.Outcome.{Meaning, Beginning, Outcome}
use Rattle.chumsky_parser.specs.Chained.{Chained, Given, Asked}
use Rattle.chumsky_parser.specs.Copied.{Copies}

module _ {Tok Cx St Er W : Type 0} (is : Layout Tok → ℕ → ℕ → W → Type 0) where
  -- where a value is wanted, one that stands for the tokens from a place to here
  pub record Cover (from : ℕ) (b : Beginning Tok Cx St) (o : Outcome W Er St) : Type 0 where
    pub copies : Copies (is b.tokens from b.start) b o

module _ {Tok Cx St Er V W : Type 0} (is : Layout Tok → ℕ → ℕ → W → Type 0) where
  -- the part without its value, and then a value that stands for the tokens that it took
  pub record Covers (part : Meaning Tok Cx St Er V) (b : Beginning Tok Cx St) (o : Outcome W Er St) : Type 0 where
    pub run : Chained (Asked false part) (λ _. Cover is b.start) b o

module _ {Tok Cx St Er V W : Type 0} (with_span : Layout Tok → ℕ → ℕ → V → W) where
  -- a value, with the span from a place to here
  pub record AddsSpan (from : ℕ) (v : Option V) (b : Beginning Tok Cx St) (o : Outcome W Er St) : Type 0 where
    pub given : Given (option_map (with_span b.tokens from b.start) v) b o

  -- the part, and then its value with the span of what it took
  pub record WithSpan (part : Meaning Tok Cx St Er V) (b : Beginning Tok Cx St) (o : Outcome W Er St) : Type 0 where
    pub run : Chained part (AddsSpan b.start) b o

-- two values with one span, of values that are the same
pub record SameSpanned {Tok V W : Type 0} (with_span : Layout Tok → ℕ → ℕ → V → W) (same : V → V → Type 0) (x y : W) : Type 0 where
  pub first : V
  pub second : V
  pub tokens : Layout Tok
  pub from : ℕ
  pub to : ℕ
  pub are : same first second
  pub is_first : x ≡ with_span tokens from to first
  pub is_second : y ≡ with_span tokens from to second
