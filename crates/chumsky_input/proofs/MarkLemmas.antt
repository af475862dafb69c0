-- Marks of patterns, by their buckets.
use Rattle.std.proofs.Common.{◌≡◌, ℕ, ◌+◌, ◌%◌, ◌^◌, ◌-◌, ◌<◌, bit_and, bit_or, Bool, true, false, cond, ◌||◌, List, [], ◌∷◌, ◌++◌, length, take, get_or, refl, ap, sym, subst, ◌∙◌, arith}
use Rattle.std.specs.Int.{bit_at}
use Rattle.std.specs.List.{list_any}
use Rattle.std.proofs.lemmas.Nat.Bits.{bit_at_and, bit_at_or, bit_at-zero, bit_at-lt, bit_at_ones}
use Rattle.std.proofs.lemmas.Nat.{mod_below}
use Rattle.std.proofs.lemmas.List.{take_more}
use Rattle.chumsky_input.specs.Same.{IsBucket}
use Rattle.chumsky_input.specs.Wanted.{Wanted, Token, Any, SomethingElse, NothingElse, EndOfInput, Label, wanted_same}
use Rattle.chumsky_input.specs.declared.rich.RichPattern.{RichPattern}
use Rattle.chumsky_input.specs.Rich.{wanted_bucket, MarksBucket, MarksToken, AreMarked, add_new, pattern_same, pattern_wanted}

-- a bit that is set stays set beside others
or_keeps : (a b i : ℕ) → bit_at a i ≡ 1 → bit_at (bit_or a b) i ≡ 1
or_keeps a b i e = let is = bit_at_or a b i in let l = bit_at-lt b i in omega (arith, is, e, l)

or_sets : (a b i : ℕ) → bit_at b i ≡ 1 → bit_at (bit_or a b) i ≡ 1
or_sets a b i e = let is = bit_at_or a b i in let l = bit_at-lt a i in omega (arith, is, e, l)

-- of two numbers that share no bit, one has it not
apart : (a b i : ℕ) → bit_and a b ≡ 0 → bit_at b i ≡ 1 → bit_at a i ≡ 1 → ⊥
apart a b i none e f =
    let is = bit_at_and a b i in
    let zeros : bit_at (bit_and a b) i ≡ 0 = ap (λ n. bit_at n i) none ∙ bit_at-zero i in
    omega (arith, is, e, f, zeros)

module _ {T : Type 0} {eq : T → T → Bool} {bucket : T → ℕ} where
  -- the bit of a token's bucket marks it
  pub bucket-marks : {t : T} {n m : ℕ} → IsBucket eq bucket t n → bit_at m (n % 128) ≡ 1 → MarksToken eq bucket t m
  bucket-marks {m = m} h e = record { own = ap (λ k. bit_at m (k % 128)) (sym h.own) ∙ e; shared = λ y s. ap (λ k. bit_at m (k % 128)) (h.shared y s) ∙ e }

  -- all bits mark any token
  pub all-marks : (t : T) → MarksToken eq bucket t (2 ^ 128 - 1)
  all-marks t = record { own = set (bucket t); shared = λ y e. set (bucket y) }
    where
      set : (n : ℕ) → bit_at (2 ^ 128 - 1) (n % 128) ≡ 1
      set n = bit_at_ones 128 (n % 128) (mod_below n 128 (omega arith))

module _ {T : Type 0} (bucket : T → ℕ) where
  more-marked : (marks m : ℕ) (ps : List (RichPattern T)) → AreMarked bucket marks ps → AreMarked bucket (bit_or marks m) ps
  more-marked marks m [] f = tt
  more-marked marks m (p ∷ ps) f = (or_keeps marks m (wanted_bucket bucket (pattern_wanted p)) f.0, more-marked marks m ps f.1)

  one-more : (marks : ℕ) (p : RichPattern T) (ps : List (RichPattern T))
      → bit_at marks (wanted_bucket bucket (pattern_wanted p)) ≡ 1 → AreMarked bucket marks ps
      → AreMarked bucket marks (ps ++ p ∷ [])
  one-more marks p [] e f = (e, tt)
  one-more marks p (q ∷ ps) e f = (f.0, one-more marks p ps e f.1)

module _ {T : Type 0} (eq : T → T → Bool) (bucket : T → ℕ) where
  marks_own : (w : Wanted T) (m : ℕ) → MarksBucket eq bucket w m → bit_at m (wanted_bucket bucket w) ≡ 1
  marks_own (Token t) m h = h.own
  marks_own Any m h = ap (λ n. bit_at n 1) h
  marks_own SomethingElse m h = ap (λ n. bit_at n 2) h
  marks_own NothingElse m h = ap (λ n. bit_at n 3) h
  marks_own EndOfInput m h = ap (λ n. bit_at n 4) h
  marks_own (Label text) m h = ap (λ n. bit_at n 5) h

  -- what marks one marks what is the same
  marks_shared : (v w : Wanted T) (m : ℕ) → MarksBucket eq bucket w m → wanted_same eq v w ≡ true → bit_at m (wanted_bucket bucket v) ≡ 1
  marks_shared (Token x) (Token y) m h e = h.shared x e
  marks_shared (Token x) _ m h e = absurd (let f : false ≡ true = e in cc)
  marks_shared Any Any m h e = marks_own Any m h
  marks_shared Any _ m h e = absurd (let f : false ≡ true = e in cc)
  marks_shared SomethingElse SomethingElse m h e = marks_own SomethingElse m h
  marks_shared SomethingElse _ m h e = absurd (let f : false ≡ true = e in cc)
  marks_shared NothingElse NothingElse m h e = marks_own NothingElse m h
  marks_shared NothingElse _ m h e = absurd (let f : false ≡ true = e in cc)
  marks_shared EndOfInput EndOfInput m h e = marks_own EndOfInput m h
  marks_shared EndOfInput _ m h e = absurd (let f : false ≡ true = e in cc)
  marks_shared (Label a) (Label b) m h e = marks_own (Label b) m h
  marks_shared (Label a) _ m h e = absurd (let f : false ≡ true = e in cc)

  differs : (marks m : ℕ) (v w : Wanted T) → bit_and marks m ≡ 0 → MarksBucket eq bucket w m → bit_at marks (wanted_bucket bucket v) ≡ 1 → wanted_same eq v w ≡ false
  differs marks m v w none h f = by (wanted_same eq v w) refl
    where
      by : (b : Bool) → wanted_same eq v w ≡ b → b ≡ false
      by false is = refl
      by true is = absurd (apart marks m (wanted_bucket bucket v) none (marks_shared v w m h is) f)

  none_same : (marks m : ℕ) (p : RichPattern T) (ps : List (RichPattern T)) → bit_and marks m ≡ 0
      → MarksBucket eq bucket (pattern_wanted p) m → AreMarked bucket marks ps
      → list_any (λ x. pattern_same eq x p) ps ≡ false
  none_same marks m p [] none h f = refl
  none_same marks m p (q ∷ ps) none h f =
      let here : pattern_same eq q p ≡ false = differs marks m (pattern_wanted q) (pattern_wanted p) none h f.0 in
      let there = none_same marks m p ps none h f.1 in
      ap (λ b. b || list_any (λ x. pattern_same eq x p) ps) here ∙ there

  -- a pattern in a bucket without a mark is none of the others
  pub pattern-new : (marks m : ℕ) (p : RichPattern T) (ps : List (RichPattern T)) → bit_and marks m ≡ 0
      → MarksBucket eq bucket (pattern_wanted p) m → AreMarked bucket marks ps
      → ps ++ p ∷ [] ≡ add_new (pattern_same eq) ps (p ∷ [])
  pattern-new marks m p ps none h f = sym (ap (λ b. cond b ps (ps ++ p ∷ [])) (none_same marks m p ps none h f))

  -- the patterns, and one more with its mark
  marked-more : (marks m : ℕ) (p : RichPattern T) (ps : List (RichPattern T))
      → MarksBucket eq bucket (pattern_wanted p) m → AreMarked bucket marks ps
      → AreMarked bucket (bit_or marks m) (ps ++ p ∷ [])
  marked-more marks m p ps h f = one-more bucket (bit_or marks m) p ps (or_sets marks m (wanted_bucket bucket (pattern_wanted p)) (marks_own (pattern_wanted p) m h)) (more-marked bucket marks m ps f)

  -- the patterns, and one more with its mark, where it is new
  pub pattern-marked : (marks m : ℕ) (p : RichPattern T) (ps : List (RichPattern T))
      → MarksBucket eq bucket (pattern_wanted p) m → AreMarked bucket marks ps
      → AreMarked bucket (bit_or marks m) (add_new (pattern_same eq) ps (p ∷ []))
  pattern-marked marks m p ps h f =
      elim (list_any (λ x. pattern_same eq x p) ps) as
      (λ b. AreMarked bucket (bit_or marks m) (cond b ps (ps ++ p ∷ [])))
      [ true ↦ more-marked bucket marks m ps f | false ↦ marked-more marks m p ps h f ]

  -- the patterns before place i, and the one there with its mark
  pub marked-next : (marks m i : ℕ) (p : RichPattern T) (ps : List (RichPattern T)) → i < length ps
      → p ≡ get_or ps i p → MarksBucket eq bucket (pattern_wanted p) m → AreMarked bucket marks (take i ps)
      → AreMarked bucket (bit_or marks m) (take (i + 1) ps)
  marked-next marks m i p ps l is h f = subst (λ t. AreMarked bucket (bit_or marks m) t) (sym (take_more ps i p l ∙ ap (λ q. take i ps ++ q ∷ []) (sym is))) (marked-more marks m p (take i ps) h f)
