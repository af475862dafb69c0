-- Formulas of `t` and `f` whose `&` and `|` have powers that are chosen: of two the one of the higher power binds first, and of one
-- power the first.
-- Main words: joined, IsRankedFormula. Laws: RankedLaws.antt.
use Rattle.std.specs.Prelude.{ℕ, suc, ◌≤◌, Bool, true, false, ◌&&◌, ◌||◌, List, ◌++◌, codes}
use Rattle.formulas.specs.declared.ranked.Connective.{Connective}
use Rattle.formulas.specs.declared.ranked.Connective.TheVariants.{And, Or}

-- what a connective makes of two truths
abbrev pub joined : Connective → Bool → Bool → Bool
joined And a b = a && b
joined Or a b = a || b

-- an expression of at least this power is a `t`, an `f`, or an `&` or `|` of at least this power, with an expression of its power before
-- it, and one of a higher power after it
pub data IsRanked (and or : ℕ) : ℕ → List ℕ → Bool → Type 0 where
  is_true : {least : ℕ} → IsRanked and or least (codes "t") true
  is_false : {least : ℕ} → IsRanked and or least (codes "f") false
  is_and : {least : ℕ} {u w : List ℕ} {a b : Bool} → least ≤ and → IsRanked and or and u a → IsRanked and or (suc and) w b → IsRanked and or least (u ++ (codes "&" ++ w)) (a && b)
  is_or : {least : ℕ} {u w : List ℕ} {a b : Bool} → least ≤ or → IsRanked and or or u a → IsRanked and or (suc or) w b → IsRanked and or least (u ++ (codes "|" ++ w)) (a || b)

abbrev pub IsRankedFormula : ℕ → ℕ → List ℕ → Bool → Type 0
IsRankedFormula and or = IsRanked and or 0
