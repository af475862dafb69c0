-- S-expressions: what one says, and how it is written.
-- Main words: Form, form_of, IsExpression, AreExpressions, IsLisp, HoldsLisp. Laws: ReaderLaws.antt.
use Rattle.std.specs.Prelude.{◌≡◌, ℕ, ◌==◌, ◌||◌, not, true, false, cond, Bool, Option, Some, None, List, [], ◌∷◌, ◌++◌, map, string_bytes, ⊤}
use Rattle.std.specs.Char.{is_ascii_digit, is_whitespace}
use Rattle.std.specs.List.{list_all}
use Rattle.std.specs.Str.{chars}
use Rattle.std.specs.declared.alloc.Global.{Global}
use Rattle.std.specs.declared.vec.Vec.{Vec}
use Rattle.std.specs.Box.{box_value}
use Rattle.chumsky_parser.specs.Words.{AllPass, StopsAt}
use Rattle.s_expression.specs.declared.expression.Expression.{Expression, fold-Expression}
use Rattle.s_expression.specs.declared.expression.Expression.TheOpen.{Expression-F}

mutual
  -- what an expression says, wherever it lies in memory: symbols, numbers and texts are their characters
  pub data Form : Type 0 where
    symbol : List ℕ → Form
    number : List ℕ → Form
    text : List ℕ → Form
    list : Forms → Form
    quoted : Form → Form

  -- what each of some expressions says, in order
  pub data Forms : Type 0 where
    no_forms : Forms
    form : Form → Forms → Forms

abbrev pub forms_of : List Form → Forms
forms_of [] = no_forms
forms_of (f ∷ fs) = form f (forms_of fs)

-- one level, in which each expression inside is already seen as what it says
abbrev pub form_step : Expression-F Form → Form
form_step (Expression-F.Symbol s) = symbol (chars (string_bytes s))
form_step (Expression-F.Number s) = number (chars (string_bytes s))
form_step (Expression-F.Text s) = text (chars (string_bytes s))
form_step (Expression-F.List v) = list (forms_of v.items)
form_step (Expression-F.Quoted b) = quoted (box_value b)

-- what an expression says
abbrev pub form_of : Expression → Form
form_of = fold-Expression Form form_step

-- a word has no brackets (40 and 41), quotes (39 and 34), semicolons (59), spaces, tabs or ends of lines
abbrev pub in_word : ℕ → Bool
in_word c = not ((c == 40) || (c == 41) || (c == 39) || (c == 34) || (c == 59) || (c == 32) || (c == 9) || (c == 13) || (c == 10))

-- a word: such characters, of which the first is no white space
abbrev pub IsWord : List ℕ → Type 0
IsWord [] = ⊥
IsWord (c ∷ cs) = (is_whitespace c ≡ false) × AllPass in_word (c ∷ cs)

-- digits, one at least
abbrev pub are_digits : List ℕ → Bool
are_digits [] = false
are_digits (c ∷ cs) = list_all is_ascii_digit (c ∷ cs)

-- and perhaps a minus (45) before them
abbrev pub is_integer : List ℕ → Bool
is_integer [] = false
is_integer (c ∷ cs) = cond (c == 45) (are_digits cs) (are_digits (c ∷ cs))

-- what a letter stands for after a backslash (92): a quote and a backslash for themselves, `n` for a line feed and `t` for a tab
abbrev pub escaped : ℕ → Option ℕ
escaped e = cond ((e == 34) || (e == 92)) (Some e) (cond (e == 110) (Some 10) (cond (e == 116) (Some 9) None))

-- any other character of a text stands for itself
abbrev pub is_plain : ℕ → Bool
is_plain c = not ((c == 34) || (c == 92))

-- between the quotes of a text this stands for these characters
pub data AreCharacters : List ℕ → List ℕ → Type 0 where
  no_character : AreCharacters [] []
  plain : {w cs : List ℕ} (c : ℕ) → is_plain c ≡ true → AreCharacters w cs → AreCharacters (c ∷ w) (c ∷ cs)
  escape : {w cs : List ℕ} (e c : ℕ) → escaped e ≡ Some c → AreCharacters w cs → AreCharacters (92 ∷ e ∷ w) (c ∷ cs)

-- what may stand in a line
abbrev pub in_line : ℕ → Bool
in_line c = not (c == 10)

-- a gap: white space, and comments, each from a semicolon to the end of its line
pub data IsGap : List ℕ → Type 0 where
  no_gap : IsGap []
  space : {g : List ℕ} (c : ℕ) → is_whitespace c ≡ true → IsGap g → IsGap (c ∷ g)
  comment : {g : List ℕ} (cs : List ℕ) → AllPass in_line cs → IsGap g → IsGap (59 ∷ (cs ++ (10 ∷ g)))

-- whether a word stands at its end
abbrev pub ends_in_word : Form → Bool
ends_in_word (symbol w) = true
ends_in_word (number w) = true
ends_in_word (text cs) = false
ends_in_word (list fs) = false
ends_in_word (quoted f) = ends_in_word f

-- what stands after it goes on with no word at its end
abbrev pub IsApart : Form → List ℕ → Type 0
IsApart f rest = ends_in_word f ≡ true → StopsAt in_word rest

mutual
  -- a text is an expression: a word, which is a number if it is an integer; characters between quotes; expressions in brackets; or an
  -- expression after a quote, where a gap may stand between the two
  pub data IsExpression : List ℕ → Form → Type 0 where
    is_symbol : {w : List ℕ} → IsWord w → is_integer w ≡ false → IsExpression w (symbol w)
    is_number : {w : List ℕ} → IsWord w → is_integer w ≡ true → IsExpression w (number w)
    is_text : {w cs : List ℕ} → AreCharacters w cs → IsExpression (34 ∷ (w ++ (34 ∷ []))) (text cs)
    is_list : {w : List ℕ} {fs : Forms} → AreExpressions w fs → IsExpression (40 ∷ (w ++ (41 ∷ []))) (list fs)
    is_quoted : {w : List ℕ} {f : Form} (g : List ℕ) → IsGap g → IsExpression w f → IsExpression (39 ∷ (g ++ w)) (quoted f)

  -- expressions with gaps before, between and after them
  pub data AreExpressions : List ℕ → Forms → Type 0 where
    no_expression : {g : List ℕ} → IsGap g → AreExpressions g no_forms
    more_expressions : {w ws : List ℕ} {f : Form} {fs : Forms} (g : List ℕ) → IsGap g → IsExpression w f → IsApart f ws → AreExpressions ws fs → AreExpressions (g ++ (w ++ ws)) (form f fs)

-- a comment that the text ends in, if there is one
abbrev pub IsLastComment : List ℕ → Type 0
IsLastComment [] = ⊤
IsLastComment (c ∷ cs) = (c ≡ 59) × AllPass in_line cs

-- a text is these expressions, and perhaps a comment at its end
pub record IsLisp (whole : List ℕ) (said : Forms) : Type 0 where
  pub expressions : List ℕ
  pub last : List ℕ
  pub all : whole ≡ expressions ++ last
  pub are : AreExpressions expressions said
  pub is_last : IsLastComment last

-- the text is the expressions
abbrev pub HoldsLisp : List ℕ → Vec Expression Global → Type 0
HoldsLisp whole v = IsLisp whole (forms_of (map form_of v.items))

-- the last of some expressions, quoted
pub record QuotesLast (items : List Expression) (made : Expression) : Type 0 where
  pub last : (before : List Expression) (e : Expression) → items ≡ before ++ (e ∷ []) → form_of made ≡ quoted (form_of e)
