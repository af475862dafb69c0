-- Inputs made of others: elements that are taken apart, and a text at an offset.
-- Main words: taken_apart, moved_by. Read first: Layout.antt.
use Rattle.std.specs.Prelude.{ℕ, ◌+◌, ◌-◌, ◌^◌, List, length, map, min}
use Rattle.std.proofs.Common.{◌≤◌}
use Rattle.std.proofs.lemmas.List.{length-map}
use Rattle.chumsky_input.specs.Layout.{Layout, inner, token_layout, among_tokens}
use Rattle.chumsky_input.specs.declared.span.SimpleSpan.{SimpleSpan}
use Rattle.chumsky_input.specs.declared.span.Spanned.{Spanned}

module _ {A T : Type 0} where
  -- the tokens of elements, by the text that they were read from, where `apart` says what each element is taken apart into
  abbrev pub taken_apart : (A → Spanned T SimpleSpan) → List A → SimpleSpan → Layout T
  taken_apart apart elements end = token_layout (map apart elements) end

  -- a place among the elements is one among the tokens
  pub among_elements : (apart : A → Spanned T SimpleSpan) (elements : List A) (place : ℕ) → place ≤ length elements → place ≤ length (map inner (map apart elements))
  among_elements apart elements place h = among_tokens (map apart elements) place (rw (length-map elements apart) h)

-- an offset so far on; none goes past the greatest
abbrev pub further : ℕ → ℕ → ℕ
further by offset = min (by + offset) (2 ^ 64 - 1)

-- a span so far on
abbrev pub moved_span : ℕ → SimpleSpan → SimpleSpan
moved_span by s = record { start = further by s.start; end = further by s.end }

-- the same tokens, so far on
abbrev pub moved_by : {T : Type 0} → ℕ → Layout T → Layout T
moved_by by l = record { list = l.list; span = λ i j. moved_span by (l.span i j) }
