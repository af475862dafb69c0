-- Values with a separator between each two, of which each may be empty.
-- Main word: Divided. Laws: DividedLaws.antt.
use Rattle.std.specs.Prelude.{List, [], ◌∷◌, ◌++◌}

-- a text is one value; or it is a value, a separator, and values so divided again
pub data Divided {Tok V : Type 0} (IsValue : List Tok → V → Type 0) (IsSeparator : List Tok → Type 0) : List Tok → List V → Type 0 where
  one_value : {w : List Tok} {v : V} → IsValue w v → Divided IsValue IsSeparator w (v ∷ [])
  more_values : {w s rest : List Tok} {v : V} {vs : List V} → IsValue w v → IsSeparator s → Divided IsValue IsSeparator rest vs → Divided IsValue IsSeparator (w ++ (s ++ rest)) (v ∷ vs)
