-- What is picked of one character, by its value and by its word.
-- Main words: passing, of_one. Main law: one-by_word.
use Rattle.std.proofs.Common.{◌≡◌, ℕ, Bool, true, cond, Option, Some, None, List, [], ◌∷◌, sym, ◌∙◌, ap}
use Rattle.chumsky_parser.specs.Words.{IsOne}

-- a character that passes
abbrev pub passing : (ℕ → Bool) → ℕ → Option ℕ
passing test c = cond (test c) (Some c) None

-- what is picked of a word of one character
abbrev pub of_one : (ℕ → Option ℕ) → List ℕ → Option ℕ
of_one pick (c ∷ []) = pick c
of_one pick _ = None

-- this character, alone
abbrev pub IsThis : ℕ → List ℕ → Type 0
IsThis v = IsOne (λ (t : ℕ). true) (λ t. v ≡ t)

this_is : (v : ℕ) (w : List ℕ) → IsThis v w → w ≡ v ∷ []
this_is v w i = i.all ∙ ap (λ z. z ∷ []) (sym i.is)

pub one-by_word : (pick : ℕ → Option ℕ) (w : List ℕ) (v : ℕ) (x : Option ℕ) → IsThis v w → x ≡ pick v → x ≡ of_one pick w
one-by_word pick w v x i g = g ∙ ap (of_one pick) (sym (this_is v w i))
