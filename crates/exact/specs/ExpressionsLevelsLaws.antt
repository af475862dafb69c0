-- An expression of fewer levels than calls may be open is taken, whatever follows it that may: it is not refused.
-- Main word: IsShallow. Main law: refused-deep. Read first: ExpressionsLaws.antt, Taken.antt of chumsky_exact.
use Rattle.std.proofs.Common.{◌≡◌, ℕ, suc, ◌≤◌, ◌<◌, cond, nat_eq, Bool, false, ◌||◌, None, List, [], ◌∷◌, ◌++◌, length, refl, ap, arith, inl, inr}
use Rattle.std.specs.Prelude.{codes}
use Rattle.std.specs.Borrow.{Bor}
use Rattle.std.specs.Char.{is_digit}
use Rattle.chumsky_parser.specs.ChoiceLanguage.{or_language}
use Rattle.chumsky_parser.specs.Ending.{Ender, At, Nowhere, Refused, or_else}
use Rattle.chumsky_parser.specs.ItemsLanguage.{list_ends}
use Rattle.chumsky_parser.specs.Language.{Language}
use Rattle.chumsky_parser.specs.Words.{StopsAt, then_ends}
use Rattle.chumsky_items.specs.ListWords.{separated_next}
use Rattle.chumsky_text.specs.Decimals.{TextSlice, IsInt, decimal-int}
use Rattle.chumsky_text.specs.Names.{IsName, begins_name, in_name}
use Rattle.chumsky_text.specs.TextLanguage.{word_language}
use Rattle.chumsky_descent.specs.CallLanguage.{call_language}
use Rattle.chumsky_descent.specs.Lawful.{word-lawful}
use Rattle.chumsky_exact.specs.Parts.{between}
use Rattle.chumsky_exact.specs.TableLaws.{both_false}
use Rattle.chumsky_exact.specs.Deep.{IsDeep}
use Rattle.exact.specs.AtomLaws.{number-stops, no_name-begins}
use Rattle.exact.specs.Expressions.{Form, Forms, no_forms, form, IsExpression, is_name, is_number, is_list, levels, levels_each, begins_expression, expressions}
use Rattle.exact.specs.ExpressionsLaws.{grammar, Each, expressions-list}
use Rattle.chumsky_exact.specs.Taken.{AlwaysTakes, IsKnown, source, errors, states, lawful-known, ends_of, left_below, right_below, or-known, bracketed-always, HasFewerLevels, deep-by_body}
use Rattle.exact.specs.declared.expressions.Expression.{Expression}

-- a text is some expression of fewer levels
abbrev IsShallow : ℕ → List ℕ → Type 0
IsShallow = HasFewerLevels IsExpression levels

-- atoms
abbrev words : (ℕ → Bool) → (ℕ → ℕ → Bool) → Language ℕ (Bor (List ℕ))
words begins goes_on = word_language (TextSlice (λ s. s.now)) begins goes_on

abbrev atoms : Language ℕ (Bor (List ℕ))
atoms = or_language (words begins_name (λ t. in_name)) (words (λ t. is_digit t 10) (λ t c. cond (nat_eq t 48) false (is_digit c 10)))

words-known : (begins : ℕ → Bool) (goes_on : ℕ → ℕ → Bool) → IsKnown (words begins goes_on)
words-known begins goes_on = lawful-known (word-lawful {source = source} {errors = errors} {states = states} {what = []} {rest_what = λ t. []}) refl tt refl

atoms-known : IsKnown atoms
atoms-known =
    or-known (words begins_name (λ t. in_name)) (words (λ t. is_digit t 10) (λ t c. cond (nat_eq t 48) false (is_digit c 10))) (words-known begins_name (λ t. in_name)) (words-known (λ t. is_digit t 10) (λ t c. cond (nat_eq t 48) false (is_digit c 10)))
    (λ w rest j f. no_name-begins w rest j)

-- no expression is empty
expression_size : {w : List ℕ} {f : Form} → IsExpression w f → 0 < length w
expression_size (is_name {w} n) = by_name w n
  where
    by_name : (w : List ℕ) → IsName w → 0 < length w
    by_name [] n = absurd n
    by_name (c ∷ cs) n = omega arith
expression_size (is_number {w} d) = by_number w (decimal-int w d)
  where
    by_number : (w : List ℕ) → IsInt w → 0 < length w
    by_number [] n = absurd n
    by_number (c ∷ cs) n = omega arith
expression_size (is_list a) = omega arith

levels-each : (fs : Forms) (depth : ℕ) → levels_each fs < depth → Each (λ f. levels f < depth) fs
levels-each no_forms depth l = tt
levels-each (form f fs) depth l = (left_below (levels f) (levels_each fs) depth l, levels-each fs depth (right_below (levels f) (levels_each fs) depth l))

module _ (call : Language ℕ Expression) where
  -- expressions with a space between each two, and those in brackets
  abbrev items : Ender ℕ
  items = list_ends (separated_next call.ends (ends_of 32) false false 0 None)

  abbrev lists : Ender ℕ
  lists = then_ends (ends_of 40) (then_ends items (ends_of 41))

  abbrev body : Ender ℕ
  body ts = or_else (atoms.ends ts) (lists ts)

  body-fails : (ts : List ℕ) → StopsAt begins_expression ts → body ts ≡ Nowhere
  body-fails [] s = refl
  body-fails (c ∷ cs) s =
      let p = both_false (begins_name c || is_digit c 10) (nat_eq 40 c) s in
      let q = both_false (begins_name c) (is_digit c 10) p.0 in
      rw (q.0, q.1, p.1) refl

  module _ (depth : ℕ) (taken : AlwaysTakes call.ends (IsShallow depth) (StopsAt in_name)) (fails : 0 < depth → (ts : List ℕ) → StopsAt begins_expression ts → call.ends ts ≡ Nowhere) where
    body-taken : {w : List ℕ} {f : Form} (rest : List ℕ) → IsExpression w f → levels f < suc depth → StopsAt in_name rest → body (w ++ rest) ≡ At rest
    body-taken rest (is_name {w} n) l s = ap (λ x. or_else x (lists (w ++ rest))) (atoms-known.each w rest (inl n) (λ t. s, λ t. number-stops t rest s))
    body-taken rest (is_number {w} d) l s = ap (λ x. or_else x (lists (w ++ rest))) (atoms-known.each w rest (inr (decimal-int w d)) (λ t. s, λ t. number-stops t rest s))
    body-taken rest (is_list {w} {fs} a) l s =
        let m : levels_each fs < depth = omega (arith, l) in
        bracketed-always call.ends (IsShallow depth) (StopsAt in_name) (λ v j. expression_size j.1) taken 40 32 41 refl (λ _. refl) (λ _. refl) (λ r. fails (omega (arith, m)) (41 ∷ r) refl)
        (codes "(" ++ (w ++ codes ")")) rest (between (codes "(") (codes ")") w (expressions-list (IsShallow depth) (λ f. levels f < depth) (λ v f q i. (f, i, q)) (levels-each fs depth m) a)) tt

-- so a text that is refused, and is no shorter than the limit, is deep
pub refused-deep : (limit : ℕ) (text : List ℕ) → (call_language expressions grammar limit).ends text ≡ Refused → limit ≤ length text → IsDeep IsExpression levels limit text
refused-deep = deep-by_body IsExpression levels (StopsAt in_name) (StopsAt begins_expression) expressions grammar body-fails
    (λ call depth taken fails w rest i s. body-taken call depth taken fails rest i.1 i.2 s) tt
