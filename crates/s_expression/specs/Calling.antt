-- What is intended of the words of the function that reads expressions.
-- Main word: any_expressions.
use Rattle.std.specs.Prelude.{ℕ, true, ⊤}
use Rattle.chumsky_descent.specs.Calls.{Intended}
use Rattle.s_expression.specs.declared.expression.Expression.{Expression}

-- nothing but that each takes a character: what may follow an expression is known by where it ends, and not by its word
abbrev pub any_expressions : Intended ℕ Expression
any_expressions = record { word = λ _. ⊤; stands_for = λ _ _. ⊤; follow = λ _. ⊤; fails = λ _. ⊥; moves = true }
