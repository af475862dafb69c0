-- Expressions as Lisp writes them: what one says, how it is written, and the language of the function that reads them.
-- Main words: Form, form_of, IsExpression, written, levels, IsSound, expressions. Laws: ExpressionsLaws.antt, WrittenLaws.antt.
use Rattle.std.specs.Prelude.{ℕ, zero, suc, max, ◌||◌, nat_eq, true, Bool, List, [], ◌∷◌, ◌++◌, codes, ⊤}
use Rattle.std.specs.Char.{is_digit}
use Rattle.std.specs.Str.{chars}
use Rattle.chumsky_parser.specs.Words.{StopsAt}
use Rattle.chumsky_text.specs.Decimals.{IsDecimal}
use Rattle.chumsky_text.specs.Names.{IsName, begins_name, in_name}
use Rattle.chumsky_descent.specs.Calls.{Intended}
use Rattle.exact.specs.declared.expressions.Expression.{Expression, fold-Expression}
use Rattle.exact.specs.declared.expressions.Expression.TheOpen.{Expression-F}

mutual
  -- what an expression says, wherever it lies in memory: a name, a number in digits, or a list
  pub data Form : Type 0 where
    name : List ℕ → Form
    number : List ℕ → Form
    list : Forms → Form

  -- what each of some expressions says, in order
  pub data Forms : Type 0 where
    no_forms : Forms
    form : Form → Forms → Forms

abbrev pub forms_of : List Form → Forms
forms_of [] = no_forms
forms_of (f ∷ fs) = form f (forms_of fs)

-- one level, in which each expression inside is already seen as what it says
abbrev pub form_step : Expression-F Form → Form
form_step (Expression-F.Name text) = name (chars text.now)
form_step (Expression-F.Number text) = number (chars text.now)
form_step (Expression-F.List v) = list (forms_of v.items)

-- what an expression says
abbrev pub form_of : Expression → Form
form_of = fold-Expression Form form_step

mutual
  -- a text is an expression: a name, a decimal number, or expressions in round brackets
  pub data IsExpression : List ℕ → Form → Type 0 where
    is_name : {w : List ℕ} → IsName w → IsExpression w (name w)
    is_number : {w : List ℕ} → IsDecimal w → IsExpression w (number w)
    is_list : {w : List ℕ} {fs : Forms} → AreExpressions w fs → IsExpression (codes "(" ++ (w ++ codes ")")) (list fs)

  -- expressions, with one space between each two
  pub data AreExpressions : List ℕ → Forms → Type 0 where
    no_expression : AreExpressions [] no_forms
    one_expression : {w : List ℕ} {f : Form} → IsExpression w f → AreExpressions w (form f no_forms)
    more_expressions : {w ws : List ℕ} {f g : Form} {fs : Forms} → IsExpression w f → AreExpressions ws (form g fs) → AreExpressions (w ++ (codes " " ++ ws)) (form f (form g fs))

-- the text is the expression
abbrev pub HoldsExpression : List ℕ → Expression → Type 0
HoldsExpression w e = IsExpression w (form_of e)

abbrev mutual
  -- how it is written
  pub written : Form → List ℕ
  written (name w) = w
  written (number w) = w
  written (list fs) = codes "(" ++ (all_written fs ++ codes ")")

  pub all_written : Forms → List ℕ
  all_written no_forms = []
  all_written (form f fs) = written f ++ more_written fs

  -- what is written after one: a space before each
  pub more_written : Forms → List ℕ
  more_written no_forms = []
  more_written (form f fs) = codes " " ++ (written f ++ more_written fs)

abbrev mutual
  -- how many lists stand within one another at most: none in a name, one in `()` and in `(a ())` two
  pub levels : Form → ℕ
  levels (name w) = 0
  levels (number w) = 0
  levels (list fs) = suc (levels_each fs)

  -- the most of some expressions
  pub levels_each : Forms → ℕ
  levels_each no_forms = 0
  levels_each (form f fs) = max (levels f) (levels_each fs)

-- what is written before the one of an index in a list: a space, but none before the first
abbrev pub gap_before : ℕ → List ℕ
gap_before zero = []
gap_before (suc i) = codes " "

abbrev mutual
  -- each name in it is a name, and each number a number
  pub IsSound : Form → Type 0
  IsSound (name w) = IsName w
  IsSound (number w) = IsDecimal w
  IsSound (list fs) = AreSound fs

  pub AreSound : Forms → Type 0
  AreSound no_forms = ⊤
  AreSound (form f fs) = IsSound f × AreSound fs

-- an expression begins with a letter, `_`, a digit or a bracket
abbrev pub begins_expression : ℕ → Bool
begins_expression c = (begins_name c || is_digit c 10) || nat_eq 40 c

-- a text that is some expression
abbrev pub IsText : List ℕ → Type 0
IsText w = (f : Form) × IsExpression w f

-- these are the words of the function, where none goes on with a name or a number
abbrev pub expressions : Intended ℕ Expression
expressions = record { word = IsText; stands_for = HoldsExpression; follow = StopsAt in_name; fails = StopsAt begins_expression; moves = true }
