-- The function that reads expressions accepts just these.
-- Main word: grammar. Main law: expressions-intended. Read first: Expressions.antt, Lists.antt of chumsky_exact.
use Rattle.std.proofs.Common.{◌≡◌, ℕ, suc, ◌||◌, nat_eq, List, [], ◌∷◌, ◌++◌, refl, sym, ◌∙◌, ap, subst, rules, inl, inr}
use Rattle.std.specs.Prelude.{codes, map, ⊤}
use Rattle.std.specs.Borrow.{Bor}
use Rattle.std.specs.declared.alloc.Global.{Global}
use Rattle.std.specs.declared.vec.Vec.{Vec}
use Rattle.std.specs.Char.{is_digit}
use Rattle.std.specs.Str.{chars}
use Rattle.std.proofs.lemmas.Str.{chars-IsAscii}
use Rattle.chumsky_parser.specs.Ending.{DoesNotEnd}
use Rattle.chumsky_parser.specs.Language.{Language}
use Rattle.chumsky_parser.specs.Slices.{IsSliceOf}
use Rattle.chumsky_parser.specs.Words.{StopsAt}
use Rattle.chumsky_primitive.specs.PrimitiveLanguage.{Equals}
use Rattle.chumsky_primitive.specs.Literals.{equals-same, same-equals}
use Rattle.chumsky_text.specs.Names.{IsName, begins_name, name-slice}
use Rattle.chumsky_text.specs.Decimals.{IsInt, TextSlice, int-decimal, decimal-int, numeral-bytes, slice-bytes}
use Rattle.chumsky_descent.specs.CallLanguage.{call_language, IsIntended, call-is_intended}
use Rattle.chumsky_descent.specs.Exactly.{grammar_of}
use Rattle.chumsky_exact.specs.Lists.{Items, last_item, more_items, IsList, listed-by, none-list, items-list, bracketed-once, bracketed-below}
use Rattle.chumsky_exact.specs.Parts.{within, between}
use Rattle.chumsky_exact.specs.TableLaws.{both_false}
use Rattle.exact.specs.declared.expressions.Expression.{Expression, the_lemmas}
use Rattle.exact.specs.declared.expressions.Expression as expression
use Rattle.exact.specs.AtomLaws.{name-passes, number-passes, passes-ascii, number-stops, no_name-begins}
use Rattle.exact.specs.Expressions.{Form, name, number, list, Forms, no_forms, form, forms_of, form_of}
use Rattle.exact.specs.Expressions.{IsExpression, is_name, is_number, is_list, AreExpressions, no_expression, one_expression, more_expressions, HoldsExpression, begins_expression, IsText, expressions}
use Rattle.exact.specs.contracts.expressions.OfExpressionBodyRefStrExpressionEmptyText.TheImpl.{ghosts, no_dict}
use denote.Builtin.{unit}

-- the language of the function's body, of that of a call in it
abbrev pub grammar : Language ℕ Expression → Language ℕ Expression
grammar = grammar_of (λ call. (ghosts unit call no_dict).body tt)

-- what an expression says, level by level
pub form-name : (text : Bor (List ℕ)) → form_of (expression.Name text) ≡ name (chars text.now)
form-name text = search (rules, the_lemmas)

pub form-number : (text : Bor (List ℕ)) → form_of (expression.Number text) ≡ number (chars text.now)
form-number text = search (rules, the_lemmas)

pub form-list : (es : Vec Expression Global) → form_of (expression.List es) ≡ list (forms_of (map form_of es.items))
form-list es = search (rules, the_lemmas)

-- P of each of some forms
abbrev pub Each : (Form → Type 0) → Forms → Type 0
Each P no_forms = ⊤
Each P (form f fs) = P f × Each P fs

each-any : (fs : Forms) → Each (λ f. ⊤) fs
each-any no_forms = tt
each-any (form f fs) = (tt, each-any fs)

-- a text of them is a word of a list
module _ (P : List ℕ → Type 0) (Q : Form → Type 0) (is : (w : List ℕ) (f : Form) → Q f → IsExpression w f → P w) where
  some_items : {w : List ℕ} {f : Form} {fs : Forms} → Each Q (form f fs) → AreExpressions w (form f fs) → Items (Equals nat_eq (codes " ")) P w
  some_items {f = f} q (one_expression {w} i) = last_item (is w f q.0 i)
  some_items {f = f} q (more_expressions {w} i a) = more_items {s = codes " "} (is w f q.0 i) (same-equals (codes " ")) (some_items q.1 a)

  pub expressions-list : {w : List ℕ} {fs : Forms} → Each Q fs → AreExpressions w fs → IsList (Equals nat_eq (codes " ")) P 0 w
  expressions-list q no_expression = none-list (Equals nat_eq (codes " ")) P
  expressions-list q (one_expression i) = items-list (Equals nat_eq (codes " ")) P (some_items q (one_expression i))
  expressions-list q (more_expressions i a) = items-list (Equals nat_eq (codes " ")) P (some_items q (more_expressions i a))

-- a text is some expressions, as many as these words
abbrev AreSome : List ℕ → List (List ℕ) → Type 0
AreSome w [] = AreExpressions w no_forms
AreSome w (u ∷ us) = (f : Form) × (fs : Forms) × AreExpressions w (form f fs)

in_list : (w : List ℕ) (us : List (List ℕ)) → AreSome w us → IsText (codes "(" ++ (w ++ codes ")"))
in_list w [] a = (list no_forms, is_list a)
in_list w (u ∷ us) a = (list (form a.0 a.1), is_list a.2)

-- what the slice of a name says
named : (w : List ℕ) (text : Bor (List ℕ)) → IsName w → IsSliceOf (TextSlice (λ s. s.now)) w text → IsExpression w (name (chars text.now))
named w text n s =
    let e : text.now ≡ w = name-slice (λ s. s.now) w text n s in
    let a : chars w ≡ w = chars-IsAscii w (passes-ascii w (name-passes w n)) in
    subst (λ z. IsExpression w (name z)) (sym (ap chars e ∙ a)) (is_name n)

numbered : (w : List ℕ) (text : Bor (List ℕ)) → IsInt w → IsSliceOf (TextSlice (λ s. s.now)) w text → IsExpression w (number (chars text.now))
numbered w text n s =
    let d = int-decimal w n in
    let e : text.now ≡ w = slice-bytes (λ s. s.now) w text s ∙ numeral-bytes w d.0 in
    let a : chars w ≡ w = chars-IsAscii w (passes-ascii w (number-passes w d)) in
    subst (λ z. IsExpression w (number z)) (sym (ap chars e ∙ a)) (is_number d)

module _ (call : Language ℕ Expression) (depth : ℕ) (i : IsIntended expressions call depth) where
  only : (w : List ℕ) → (grammar call).word w → IsText w
  only w j = elim j [
    | inl (inl n) ↦ (name w, is_name n)
    | inl (inr n) ↦ (number w, is_number (int-decimal w n))
    | inr l ↦ within IsText (codes "(") (codes ")") l (λ u k. in_list u k.items (listed-by (codes " ") (λ v z. call.word v) AreSome no_expression
        (λ v z h. let t = i.only v h in (t.0, no_forms, one_expression t.1))
        (λ v vs z y zs h a. let t = i.only v h in (t.0, form a.0 a.1, more_expressions t.1 a.2)) k.items u k.are))
  ]

  given : (w : List ℕ) (e : Expression) → (grammar call).stands_for w e → HoldsExpression w e
  given w e j = elim j [
    | inl (inl m) ↦ subst (IsExpression w) (sym (ap form_of m.2 ∙ form-name m.0)) (named w m.0 m.1.0 m.1.1)
    | inl (inr m) ↦ subst (IsExpression w) (sym (ap form_of m.2 ∙ form-number m.0)) (numbered w m.0 m.1.0 m.1.1)
    | inr m ↦ subst (IsExpression w) (sym (ap form_of m.2 ∙ form-list m.0)) (within (λ z. IsExpression z (list (forms_of (map form_of m.0.items)))) (codes "(") (codes ")") m.1 (λ u k. is_list
        (subst (λ es. AreExpressions u (forms_of (map form_of es))) (sym k.held) (listed-by (codes " ") call.stands_for (λ v es. AreExpressions v (forms_of (map form_of es))) no_expression
        (λ v z h. one_expression (i.given v z h)) (λ v vs z y zs h a. more_expressions (i.given v z h) a) k.items u k.is))))
  ]

  each : (w : List ℕ) (f : Form) → IsExpression w f → (grammar call).word w
  each w _ (is_name n) = inl (inl n)
  each w _ (is_number d) = inl (inr (decimal-int w d))
  each _ _ (is_list {w} {fs} a) = inr (between (codes "(") (codes ")") w (expressions-list call.word (λ f. ⊤) (λ v f q h. i.each v (f, h)) (each-any fs) a))

  fails : (ts : List ℕ) → StopsAt begins_expression ts → DoesNotEnd ((grammar call).ends ts)
  fails [] s = tt
  fails (c ∷ cs) s =
      let p = both_false (begins_name c || is_digit c 10) (nat_eq 40 c) s in
      let q = both_false (begins_name c) (is_digit c 10) p.0 in
      rw (q.0, q.1, p.1) tt

  -- neither a space nor a bracket that closes is in a name or a number, or begins an expression; and no atom begins with a bracket
  kept : IsIntended expressions (grammar call) (suc depth)
  kept = record {
    said = rw (i.said, i.moves refl) refl;
    moves = λ e. refl;
    only = only;
    given = given;
    each = λ w t. each w t.0 t.1;
    follows = λ rest s. ((λ t. s, λ t. number-stops t rest s), tt);
    fails = fails;
    unambiguous = (
      (tt, tt, λ w rest j f. no_name-begins w rest j),
      bracketed-once call (codes "(") (codes " ") (codes ")") i.unambiguous (λ rest. i.follows (32 ∷ rest) refl) (λ rest. i.follows (41 ∷ rest) refl) (λ rest. tt) (λ rest. i.fails (41 ∷ rest) refl),
      λ w rest j f. let e : w ≡ 40 ∷ j.second = cc (j.all, equals-same (40 ∷ []) j.first j.is_first) in rw e tt,
    );
    refused = bracketed-below call.refused_from depth i.refused;
  }

-- the function has the language that is intended
pub expressions-intended : (depth : ℕ) → IsIntended expressions (call_language expressions grammar depth) depth
expressions-intended = call-is_intended expressions grammar kept
