-- The slice of a word.
-- Main word: IsSliceOf. Main law: slice-made.
use Rattle.std.proofs.Common.{◌∙◌, ap}
use Rattle.std.specs.Prelude.{◌≡◌, ℕ, List, slice_range}
use Rattle.chumsky_input.specs.Layout.{Layout}

-- v is what reaches over these tokens, in some layout of them
pub record IsSliceOf {Tok V : Type 0} (is : Layout Tok → ℕ → ℕ → V → Type 0) (word : List Tok) (v : V) : Type 0 where
  pub layout : Layout Tok
  pub from : ℕ
  pub to : ℕ
  pub tokens : slice_range layout.list from to ≡ word
  pub is_slice : is layout from to v

-- where what reaches over tokens is made of them alone, it is made of the word: a `&str` is written with its bytes
pub slice-made : {Tok V S : Type 0} (seen : V → S) (made : List Tok → S) (word : List Tok) (v : V) → IsSliceOf (λ l i j w. seen w ≡ made (slice_range l.list i j)) word v → seen v ≡ made word
slice-made seen made word v x = x.is_slice ∙ ap made x.tokens
