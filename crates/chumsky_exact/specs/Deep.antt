-- Texts that are too deep for a limit of calls.
-- Main word: IsDeep. Main law: deep-unless.
use Rattle.std.proofs.Common.{◌≡◌, ℕ, ◌≤◌, ◌<◌, nat_lt, Bool, true, false, List, length, refl, arith}
use Rattle.std.proofs.lemmas.Bool.Decides.{nat_tests}

-- a text is deep, for a limit: it has so many characters or more, and each value that it says has so many levels or more
pub record IsDeep {V : Type 0} (says : List ℕ → V → Type 0) (levels : V → ℕ) (limit : ℕ) (text : List ℕ) : Type 0 where
  pub long : limit ≤ length text
  pub nested : (v : V) → says text v → limit ≤ levels v

-- so is one that is no shorter, where no value that it says has fewer levels
pub deep-unless : {V : Type 0} (says : List ℕ → V → Type 0) (levels : V → ℕ) (limit : ℕ) (text : List ℕ) → limit ≤ length text
    → ((v : V) → says text v → levels v < limit → ⊥) → IsDeep says levels limit text
deep-unless {V} says levels limit text l none = record { long = l; nested = λ v s. by_levels v s (nat_lt (levels v) limit) refl }
  where
    by_levels : (v : V) → says text v → (b : Bool) → nat_lt (levels v) limit ≡ b → limit ≤ levels v
    by_levels v s true e = let k : levels v < limit = grind (arith, nat_tests) in absurd (none v s k)
    by_levels v s false e = grind (arith, nat_tests)
