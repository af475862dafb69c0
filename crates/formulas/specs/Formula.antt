-- Formulas of `t` and `f`, with brackets or without: a `!` binds before an `&`, and that before an `|`.
-- Main words: IsFormula, IsNestedFormula, nesting. Laws: FormulaLaws.antt, NestedLaws.antt, RefusedLaws.antt.
use Rattle.std.specs.Prelude.{◌≡◌, ℕ, suc, pred, max, Bool, true, false, ◌&&◌, ◌||◌, not, nat_eq, cond, List, [], ◌∷◌, ◌++◌, codes}

mutual
  -- a text is a `t`, an `f`, a formula in brackets where these may stand, or a `!` and such a part, with this value
  pub data IsPartOf (brackets : Bool) : List ℕ → Bool → Type 0 where
    is_true : IsPartOf brackets (codes "t") true
    is_false : IsPartOf brackets (codes "f") false
    in_brackets : {w : List ℕ} {a : Bool} → brackets ≡ true → IsFormulaOf brackets w a → IsPartOf brackets (codes "(" ++ (w ++ codes ")")) a
    is_not : {w : List ℕ} {a : Bool} → IsPartOf brackets w a → IsPartOf brackets (codes "!" ++ w) (not a)

  -- parts, with an `&` between each two
  pub data IsProductOf (brackets : Bool) : List ℕ → Bool → Type 0 where
    one_part : {w : List ℕ} {a : Bool} → IsPartOf brackets w a → IsProductOf brackets w a
    is_and : {u w : List ℕ} {a b : Bool} → IsProductOf brackets u a → IsPartOf brackets w b → IsProductOf brackets (u ++ (codes "&" ++ w)) (a && b)

  -- products, with an `|` between each two
  pub data IsFormulaOf (brackets : Bool) : List ℕ → Bool → Type 0 where
    one_product : {w : List ℕ} {a : Bool} → IsProductOf brackets w a → IsFormulaOf brackets w a
    is_or : {u w : List ℕ} {a b : Bool} → IsFormulaOf brackets u a → IsProductOf brackets w b → IsFormulaOf brackets (u ++ (codes "|" ++ w)) (a || b)

-- without brackets, and with them
abbrev pub IsFormula : List ℕ → Bool → Type 0
IsFormula = IsFormulaOf false

abbrev pub IsNestedFormula : List ℕ → Bool → Type 0
IsNestedFormula = IsFormulaOf true

-- how many brackets are open behind a character, where so many are before it
abbrev pub open_behind : ℕ → ℕ → ℕ
open_behind c n = cond (nat_eq 40 c) (suc n) (cond (nat_eq 41 c) (pred n) n)

-- how many brackets are open at once in a text, where most are, if so many are open before it
abbrev pub most_open : ℕ → List ℕ → ℕ
most_open n [] = n
most_open n (c ∷ cs) = max n (most_open (open_behind c n) cs)

-- how deep the brackets of a text are nested: how many are open at once
abbrev pub nesting : List ℕ → ℕ
nesting = most_open 0
