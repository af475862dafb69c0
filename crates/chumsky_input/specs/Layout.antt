-- What is read: tokens, and where they stand.
-- Main word: Layout.
use Rattle.std.specs.Prelude.{◌≡◌, ℕ, suc, ◌-◌, nat_lt, if◌then◌else◌, List, [], ◌∷◌, Option, Some, None, length, map, slice_get, slice_range}
use Rattle.std.proofs.Common.{ap, ◌≤◌}
use Rattle.std.proofs.lemmas.List.{length-map}
use Rattle.std.specs.Str.{chars}
use Rattle.chumsky_input.specs.Cursors.{char_offset}
use Rattle.chumsky_input.specs.declared.span.SimpleSpan.{SimpleSpan}
use Rattle.chumsky_input.specs.declared.span.Spanned.{Spanned}

-- tokens in order, and the offsets of what stands between two places
pub record Layout (Tok : Type 0) : Type 0 where
  pub list : List Tok
  pub span : ℕ → ℕ → SimpleSpan

-- of one layout the tokens are the same
pub same_list : {Tok : Type 0} {a b : Layout Tok} → a ≡ b → a.list ≡ b.list
same_list e = ap (λ l. l.list) e

-- the characters of a text, by their bytes
abbrev pub text_layout : List ℕ → Layout ℕ
text_layout bs = record { list = chars bs; span = λ i j. record { start = char_offset (chars bs) i; end = char_offset (chars bs) j } }

module _ {T : Type 0} where
  -- tokens by their indices
  abbrev pub list_layout : List T → Layout T
  list_layout ts = record { list = ts; span = λ i j. record { start = i; end = j } }

  -- the token itself
  abbrev pub inner : Spanned T SimpleSpan → T
  inner t = t.inner

  -- the span of a token, or else another
  abbrev pub span_or : SimpleSpan → Option (Spanned T SimpleSpan) → SimpleSpan
  span_or other (Some t) = t.span
  span_or other None = other

  -- the point where the token at a place begins; past the last the span of the end
  abbrev pub point : SimpleSpan → Option (Spanned T SimpleSpan) → SimpleSpan
  point end (Some t) = record { start = t.span.start; end = t.span.start }
  point end None = end

  -- from the start of the first of some tokens to the end of the last; of none the point
  abbrev pub spanned_from : List (Spanned T SimpleSpan) → SimpleSpan → ℕ → ℕ → SimpleSpan
  spanned_from ts end i j = if nat_lt i j then record { start = (span_or end (slice_get ts i)).start; end = (span_or end (slice_get ts (j - 1))).end } else point end (slice_get ts i)

  -- tokens by the text that they were read from
  abbrev pub token_layout : List (Spanned T SimpleSpan) → SimpleSpan → Layout T
  token_layout ts end = record { list = map inner ts; span = spanned_from ts end }

  -- a place among the tokens with spans is one among the tokens
  pub among_tokens : (ts : List (Spanned T SimpleSpan)) (place : ℕ) → place ≤ length ts → place ≤ length (map inner ts)
  among_tokens ts place h = rw (length-map ts inner) h

  -- tokens from a place on, each with the span up to the next place
  unfoldable pub with_spans : (ℕ → ℕ → SimpleSpan) → ℕ → List T → List (Spanned T SimpleSpan)
  with_spans span i [] = []
  with_spans span i (t ∷ ts) = record { inner = t; span = span i (suc i) } ∷ with_spans span (suc i) ts

  -- the tokens between two places, each with its span, and the span behind them
  abbrev pub part_of : Layout T → ℕ → ℕ → List (Spanned T SimpleSpan) × SimpleSpan
  part_of l i j = (with_spans l.span i (slice_range l.list i j), l.span j j)
