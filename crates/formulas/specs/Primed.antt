-- Formulas of `t` and `f` in which a `'` stands behind what it gives the opposite of, and binds before an `&`.
-- Main word: IsPrimedFormula. Laws: PrimedLaws.antt.
use Rattle.std.specs.Prelude.{ℕ, Bool, true, false, ◌&&◌, not, List, ◌++◌, codes}

-- a text is a `t`, an `f`, or such a part and a `'`, with this value
pub data IsPrimedPart : List ℕ → Bool → Type 0 where
  is_true : IsPrimedPart (codes "t") true
  is_false : IsPrimedPart (codes "f") false
  is_primed : {w : List ℕ} {a : Bool} → IsPrimedPart w a → IsPrimedPart (w ++ codes "'") (not a)

-- parts, with an `&` between each two
pub data IsPrimedFormula : List ℕ → Bool → Type 0 where
  one_part : {w : List ℕ} {a : Bool} → IsPrimedPart w a → IsPrimedFormula w a
  is_and : {u w : List ℕ} {a b : Bool} → IsPrimedFormula u a → IsPrimedPart w b → IsPrimedFormula (u ++ (codes "&" ++ w)) (a && b)
