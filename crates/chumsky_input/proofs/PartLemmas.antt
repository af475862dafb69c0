-- A part of tokens with spans.
use Rattle.std.proofs.Common.{◌≡◌, ℕ, zero, suc, ◌+◌, ◌-◌, List, [], ◌∷◌, Some, map, slice_get, take, drop, refl, sym, ◌∙◌, ap, subst, arith}
use Rattle.std.proofs.lemmas.Bool.{lt-ltb, le-ltb}
use Rattle.std.proofs.lemmas.List.{drop-map, take-map}
use Rattle.std.proofs.lemmas.Option.{slice_get-map}
use native.Mathlib.Numerals.{unary_clauses}
use Rattle.chumsky_input.specs.Layout.{inner, point, spanned_from, token_layout, with_spans, part_of}
use Rattle.chumsky_input.specs.declared.span.SimpleSpan.{SimpleSpan}
use Rattle.chumsky_input.specs.declared.span.Spanned.{Spanned}

next : (i k : ℕ) → i + suc k ≡ suc i + k
next i k = omega arith

after : (i k : ℕ) → suc (i + k) ≡ suc i + k
after i k = omega arith

module _ {T : Type 0} where
  -- the token at a place of a part
  in_part : (ts : List (Spanned T SimpleSpan)) (i n k : ℕ) (t : Spanned T SimpleSpan) → slice_get (take n (drop i ts)) k ≡ Some t → slice_get ts (i + k) ≡ Some t
  in_part [] zero zero k t e = let no : ⊥ = cc in absurd no
  in_part [] zero (suc n) k t e = let no : ⊥ = cc in absurd no
  in_part [] (suc i) zero k t e = let no : ⊥ = cc in absurd no
  in_part [] (suc i) (suc n) k t e = let no : ⊥ = cc in absurd no
  in_part (u ∷ ts) zero zero k t e = let no : ⊥ = cc in absurd no
  in_part (u ∷ ts) zero (suc n) zero t e = e
  in_part (u ∷ ts) zero (suc n) (suc k) t e = simp unary_clauses (in_part ts zero n k t e)
  in_part (u ∷ ts) (suc i) n k t e = subst (λ m. slice_get (u ∷ ts) m ≡ Some t) (after i k) (in_part ts i n k t e)

  -- the span of one token
  one_span : (ts : List (Spanned T SimpleSpan)) (end : SimpleSpan) (i : ℕ) (t : Spanned T SimpleSpan) → slice_get ts i ≡ Some t → spanned_from ts end i (suc i) ≡ t.span
  one_span ts end i t e =
      let before : suc i - 1 ≡ i = omega arith in
      rw (lt-ltb i (suc i) (omega arith), before, e) refl

  -- tokens with their own spans are as they are
  with_own_spans : (span : ℕ → ℕ → SimpleSpan) (i : ℕ) (us : List (Spanned T SimpleSpan))
      → ((k : ℕ) (u : Spanned T SimpleSpan) → slice_get us k ≡ Some u → span (i + k) (suc (i + k)) ≡ u.span)
      → with_spans span i (map inner us) ≡ us
  unfolding with_spans
  with_own_spans span i [] h = refl
  with_own_spans span i (u ∷ us) h =
      let first : span i (suc i) ≡ u.span = simp unary_clauses at (h zero u refl) in
      let rest : with_spans span (suc i) (map inner us) ≡ us = with_own_spans span (suc i) us (λ k v e. subst (λ m. span m (suc m) ≡ v.span) (next i k) (h (suc k) v e)) in
      ap (λ s. record { inner = u.inner; span = s } ∷ with_spans span (suc i) (map inner us)) first ∙ ap (λ r. u ∷ r) rest

  -- the tokens of a part with their spans
  spans_of_part : (ts : List (Spanned T SimpleSpan)) (end : SimpleSpan) (i n : ℕ) → with_spans (spanned_from ts end) i (take n (drop i (map inner ts))) ≡ take n (drop i ts)
  spans_of_part ts end i n =
      ap (with_spans (spanned_from ts end) i) (ap (take n) (drop-map inner i ts) ∙ take-map inner n (drop i ts))
      ∙ with_own_spans (spanned_from ts end) i (take n (drop i ts)) (λ k u e. one_span ts end (i + k) u (in_part ts i n k u e))

  -- the span of no token
  no_span : (ts : List (Spanned T SimpleSpan)) (end : SimpleSpan) (i : ℕ) → spanned_from ts end i i ≡ point end (slice_get ts i)
  no_span ts end i = rw (le-ltb i i (omega arith)) refl

  -- a part, and the point behind it, by either of two layouts that are equal
  pub part_seen : (ts us : List (Spanned T SimpleSpan)) (end other last : SimpleSpan) (i j : ℕ) → token_layout ts end ≡ token_layout us other → last ≡ point end (slice_get ts j)
      → ◌≡◌ {A = List (Spanned T SimpleSpan) × SimpleSpan} (take (j - i) (drop i ts), last) (part_of (token_layout us other) i j)
  part_seen ts us end other last i j same e =
      let own : ◌≡◌ {A = List (Spanned T SimpleSpan) × SimpleSpan} (take (j - i) (drop i ts), last) (part_of (token_layout ts end) i j) =
      rw (spans_of_part ts end i (j - i), no_span ts end j, e) refl in
      own ∙ ap (λ l. part_of l i j) same

module _ {A T : Type 0} where
  -- the token in the element at a place
  pub token_in : (apart : A → Spanned T SimpleSpan) (es : List A) (place : ℕ) (element : A) (token : T)
      → slice_get es place ≡ Some element → token ≡ (apart element).inner
      → Some token ≡ slice_get (map inner (map apart es)) place
  token_in apart es place element token here is = rw (slice_get-map inner (map apart es) place, slice_get-map apart es place, here, is) refl

  -- a part of elements that are taken apart
  pub mapped_part_seen : (apart : A → Spanned T SimpleSpan) (es : List A) (us : List (Spanned T SimpleSpan))
      (end other last : SimpleSpan) (i j : ℕ)
      → token_layout (map apart es) end ≡ token_layout us other → last ≡ point end (slice_get (map apart es) j)
      → ◌≡◌ {A = List (Spanned T SimpleSpan) × SimpleSpan} (map apart (take (j - i) (drop i es)), last) (part_of (token_layout us other) i j)
  mapped_part_seen apart es us end other last i j same e =
      rw (sym (take-map apart (j - i) (drop i es)), sym (drop-map apart i es)) (part_seen (map apart es) us end other last i j same e)
