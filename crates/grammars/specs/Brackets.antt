-- Balanced brackets, and how deep they go.
-- Main words: IsBalanced, brackets.
use Rattle.std.specs.Prelude.{ℕ, suc, max, List, [], ◌∷◌, ◌++◌}
use Rattle.chumsky_grammars.specs.Expression.{Expression, Leaf, Call, Then, Map, Optional}

-- nothing; or a pair of brackets round some that are balanced, with some that are balanced after it
pub data IsBalanced : List ℕ → ℕ → Type 0 where
  none : IsBalanced [] 0
  pair : {inside after : List ℕ} {d e : ℕ} → IsBalanced inside d → IsBalanced after e → IsBalanced (40 ∷ (inside ++ (41 ∷ after))) (max (suc d) e)

-- ( "(" B ")" B )?
abbrev pub brackets : Expression
brackets = Optional (Then (Map (Then (Leaf 0) (Then (Call 0) (Leaf 1) 0) 0) 0) (Call 0) 0)
