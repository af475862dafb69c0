-- Pairs of brackets within one another.
-- Main words: IsNested, IsTooDeep. Laws: NestedLaws.antt.
use Rattle.std.specs.Prelude.{◌≡◌, ℕ, zero, suc, ◌<◌, List, [], ◌∷◌, ◌++◌}

-- so many pairs of brackets round a pair
abbrev pub nested : ℕ → List ℕ
nested zero = 91 ∷ 93 ∷ []
nested (suc n) = 91 ∷ (nested n ++ (93 ∷ []))

-- a text is pairs within one another
pub record IsNested (cs : List ℕ) (value : Unit {0}) : Type 0 where
  pub around : ℕ
  pub is : cs ≡ nested around

-- a text is no pairs that a limit of calls suffices for: one for each pair, and one that finds no other within
abbrev pub IsTooDeep : ℕ → List ℕ → Type 0
IsTooDeep limit cs = (around : ℕ) → suc around < limit → cs ≡ nested around → ⊥
