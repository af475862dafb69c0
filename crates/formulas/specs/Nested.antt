-- The language of the function that reads formulas with brackets.
-- Main word: nested_formulas. Laws: NestedLaws.antt, RefusedLaws.antt. Read first: Formula.antt.
use Rattle.std.specs.Prelude.{ℕ, Bool, true, ◌||◌, nat_eq}
use Rattle.chumsky_parser.specs.Words.{StopsAt}
use Rattle.chumsky_descent.specs.Calls.{Intended}
use Rattle.formulas.specs.Formula.{IsNestedFormula}

-- an `&` or an `|`, which go on with a formula
abbrev pub goes_on : ℕ → Bool
goes_on c = nat_eq 38 c || nat_eq 124 c

-- these are the words of the function under any limit, where no more of a formula follows
abbrev pub nested_formulas : Intended ℕ Bool
nested_formulas = record { word = λ w. (v : Bool) × IsNestedFormula w v; stands_for = IsNestedFormula; follow = StopsAt goes_on; fails = λ ts. ⊥; moves = true }
