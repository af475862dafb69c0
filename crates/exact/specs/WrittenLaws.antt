-- How expressions are written: what is written is one, and is read in one way.
-- Main laws: written-is, is-written, written-once, gives_back-unless. Read first: Expressions.antt.
use Rattle.std.proofs.Common.{◌≡◌, ℕ, false, nat_eq, Option, Some, None, List, [], ◌∷◌, ◌++◌, append_assoc, refl, sym, ◌∙◌, ap, subst, arith, inl, inr}
use Rattle.std.specs.Prelude.{codes, Result, Ok, Err}
use Rattle.std.proofs.lemmas.Bool.Decides.{nat_tests}
use Rattle.std.proofs.lemmas.List.{append-nil}
use Rattle.chumsky_input.specs.declared.stop.Stop.{Stop}
use Rattle.chumsky_parser.specs.Ending.{At, Refused}
use Rattle.chumsky_parser.specs.Language.{Language}
use Rattle.chumsky_parser.specs.Words.{StopsAt}
use Rattle.chumsky_parser.specs.WordsLaws.{ends-unless}
use Rattle.chumsky_parser.specs.declared.result.ParseResult.{ParseResult}
use Rattle.chumsky.specs.Accepted.{FallsShort, AnswersText, IsOutputOf, IsAnswerOf}
use Rattle.chumsky_exact.specs.ReadBack.{IsOutput, GivesBack}
use Rattle.chumsky_text.specs.Names.{in_name}
use Rattle.exact.specs.AtomLaws.{atom-front, name-passes, name-some, number-passes, number-some, starts-no_atom, number-no_name}
use Rattle.exact.specs.Expressions.{Form, name, number, list, Forms, no_forms, form, IsExpression, is_name, is_number, is_list, AreExpressions, no_expression, one_expression, more_expressions, written, all_written, more_written, IsSound, AreSound}

mutual
  -- what is written is the expression
  pub written-is : (f : Form) → IsSound f → IsExpression (written f) f
  written-is (name w) h = is_name h
  written-is (number w) h = is_number h
  written-is (list fs) h = is_list (all-are fs h)

  all-are : (fs : Forms) → AreSound fs → AreExpressions (all_written fs) fs
  all-are no_forms h = no_expression
  all-are (form f fs) h = more-are fs h.1 (written f) f (written-is f h.0)

  more-are : (fs : Forms) → AreSound fs → (w : List ℕ) (f : Form) → IsExpression w f → AreExpressions (w ++ more_written fs) (form f fs)
  more-are no_forms h w f i = subst (λ z. AreExpressions z (form f no_forms)) (sym (append-nil w)) (one_expression i)
  more-are (form g gs) h w f i = more_expressions i (more-are gs h.1 (written g) g (written-is g h.0))

mutual
  -- and each text of it is what is written
  pub is-written : {w : List ℕ} {f : Form} → IsExpression w f → (w ≡ written f) × IsSound f
  is-written (is_name n) = (refl, n)
  is-written (is_number n) = (refl, n)
  is-written (is_list a) = let r = are-written a in (ap (λ z. codes "(" ++ (z ++ codes ")")) r.0, r.1)

  are-written : {w : List ℕ} {fs : Forms} → AreExpressions w fs → (w ≡ all_written fs) × AreSound fs
  are-written no_expression = (refl, tt)
  are-written (one_expression {w} {f} i) = let r = is-written i in (r.0 ∙ sym (append-nil (written f)), (r.1, tt))
  are-written (more_expressions {w} {ws} {f} {g} {fs} i a) =
      let r = is-written i in
      let s = are-written a in
      let p : w ≡ written f = r.0 in
      let q : ws ≡ all_written (form g fs) = s.0 in
      (cc (p, q), (r.1, s.1))

-- texts that begin otherwise
apart : (c d : ℕ) (x z : List ℕ) → nat_eq c d ≡ false → c ∷ x ≡ d ∷ z → ⊥
apart c d x z n e = let q : c ≡ d = cc e in absurd (grind (arith, nat_tests))

-- no expression begins with a bracket that closes
none_closes : (f : Form) (x z : List ℕ) → IsSound f → 41 ∷ x ≡ written f ++ z → ⊥
none_closes (name w) x z h e = starts-no_atom 41 w x z refl (name-passes w h) (name-some w h) e
none_closes (number w) x z h e = starts-no_atom 41 w x z refl (number-passes w h) (number-some w h) e
none_closes (list fs) x z h e = apart 41 40 x ((all_written fs ++ codes ")") ++ z) refl e

more-stops : (fs : Forms) (x : List ℕ) → StopsAt in_name (more_written fs ++ (41 ∷ x))
more-stops no_forms x = refl
more-stops (form f fs) x = refl

mutual
  form-once : (f g : Form) (x y : List ℕ) → IsSound f → IsSound g → StopsAt in_name x → StopsAt in_name y → written f ++ x ≡ written g ++ y → (f ≡ g) × (x ≡ y)
  form-once (name w) (name v) x y h k s t e = let r = atom-front w v x y (name-passes w h) (name-passes v k) s t e in (ap name r.0, r.1)
  form-once (name w) (number v) x y h k s t e = absurd (number-no_name w v x y h k e)
  form-once (name w) (list gs) x y h k s t e = absurd (starts-no_atom 40 w ((all_written gs ++ codes ")") ++ y) x refl (name-passes w h) (name-some w h) (sym e))
  form-once (number w) (name v) x y h k s t e = absurd (number-no_name v w y x k h (sym e))
  form-once (number w) (number v) x y h k s t e = let r = atom-front w v x y (number-passes w h) (number-passes v k) s t e in (ap number r.0, r.1)
  form-once (number w) (list gs) x y h k s t e = absurd (starts-no_atom 40 w ((all_written gs ++ codes ")") ++ y) x refl (number-passes w h) (number-some w h) (sym e))
  form-once (list fs) (name v) x y h k s t e = absurd (starts-no_atom 40 v ((all_written fs ++ codes ")") ++ x) y refl (name-passes v k) (name-some v k) e)
  form-once (list fs) (number v) x y h k s t e = absurd (starts-no_atom 40 v ((all_written fs ++ codes ")") ++ x) y refl (number-passes v k) (number-some v k) e)
  form-once (list fs) (list gs) x y h k s t e =
      let a : (all_written fs ++ codes ")") ++ x ≡ all_written fs ++ (41 ∷ x) = append_assoc (all_written fs) (codes ")") x in
      let b : (all_written gs ++ codes ")") ++ y ≡ all_written gs ++ (41 ∷ y) = append_assoc (all_written gs) (codes ")") y in
      let i : (all_written fs ++ codes ")") ++ x ≡ (all_written gs ++ codes ")") ++ y = cc e in
      let r = all-once fs gs x y h k (sym a ∙ i ∙ b) in
      (ap list r.0, r.1)

  all-once : (fs gs : Forms) (x y : List ℕ) → AreSound fs → AreSound gs → all_written fs ++ (41 ∷ x) ≡ all_written gs ++ (41 ∷ y) → (fs ≡ gs) × (x ≡ y)
  all-once no_forms no_forms x y h k e = (refl, cc e)
  all-once no_forms (form g gs) x y h k e = absurd (none_closes g x (more_written gs ++ (41 ∷ y)) k.0 (e ∙ append_assoc (written g) (more_written gs) (41 ∷ y)))
  all-once (form f fs) no_forms x y h k e = absurd (none_closes f y (more_written fs ++ (41 ∷ x)) h.0 (sym e ∙ append_assoc (written f) (more_written fs) (41 ∷ x)))
  all-once (form f fs) (form g gs) x y h k e =
      let a = append_assoc (written f) (more_written fs) (41 ∷ x) in
      let b = append_assoc (written g) (more_written gs) (41 ∷ y) in
      let r = form-once f g (more_written fs ++ (41 ∷ x)) (more_written gs ++ (41 ∷ y)) h.0 k.0 (more-stops fs x) (more-stops gs y) (sym a ∙ e ∙ b) in
      let m = more-once fs gs x y h.1 k.1 r.1 in
      let p : f ≡ g = r.0 in
      let q : fs ≡ gs = m.0 in
      (cc (p, q), m.1)

  more-once : (fs gs : Forms) (x y : List ℕ) → AreSound fs → AreSound gs → more_written fs ++ (41 ∷ x) ≡ more_written gs ++ (41 ∷ y) → (fs ≡ gs) × (x ≡ y)
  more-once no_forms no_forms x y h k e = (refl, cc e)
  more-once no_forms (form g gs) x y h k e = absurd (apart 41 32 x (all_written (form g gs) ++ (41 ∷ y)) refl e)
  more-once (form f fs) no_forms x y h k e = absurd (apart 32 41 (all_written (form f fs) ++ (41 ∷ x)) y refl e)
  more-once (form f fs) (form g gs) x y h k e =
      let a = append_assoc (written f) (more_written fs) (41 ∷ x) in
      let b = append_assoc (written g) (more_written gs) (41 ∷ y) in
      let i : (written f ++ more_written fs) ++ (41 ∷ x) ≡ (written g ++ more_written gs) ++ (41 ∷ y) = cc e in
      let r = form-once f g (more_written fs ++ (41 ∷ x)) (more_written gs ++ (41 ∷ y)) h.0 k.0 (more-stops fs x) (more-stops gs y) (sym a ∙ i ∙ b) in
      let m = more-once fs gs x y h.1 k.1 r.1 in
      let p : f ≡ g = r.0 in
      let q : fs ≡ gs = m.0 in
      (cc (p, q), m.1)

-- no two expressions are written alike
pub written-once : (f g : Form) → IsSound f → IsSound g → written f ≡ written g → f ≡ g
written-once f g h k e =
    let a : written f ++ [] ≡ written f = append-nil (written f) in
    let b : written g ++ [] ≡ written g = append-nil (written g) in
    (form-once f g [] [] h k tt tt (a ∙ e ∙ sym b)).0

-- so a text is one expression at most
pub expression-once : (w : List ℕ) (f g : Form) → IsExpression w f → IsExpression w g → f ≡ g
expression-once w f g i j = let r = is-written i in let s = is-written j in written-once f g r.1 s.1 (sym r.0 ∙ s.0)

-- where a text that is not refused is a word, and its values all show x, x is given back
module _ {V X Er : Type 0} {l : Language ℕ V} {ts : List ℕ} {spare : Type 0} {result : Result (ParseResult V Er) Stop} (of : V → X) (x : X) (a : AnswersText Some l ts spare result) where
  pub gives_back-unless : (l.ends ts ≡ Refused → ⊥) → l.unambiguous → l.follow [] → l.word ts → ((v : V) → l.stands_for ts v → of v ≡ x) → GivesBack of x result
  gives_back-unless n u f w same = by_answer result a.output
    where
      by_output : (v : Option V) → IsOutputOf Some l ts v → IsOutput of x v
      by_output (Some v) i = same v i.2.1
      by_output None i = let g : FallsShort {Tok = ℕ} (At []) = subst FallsShort (ends-unless (a.accepted u f w) n) i in g

      by_answer : (r : Result (ParseResult V Er) Stop) → IsAnswerOf Some l ts r → GivesBack of x r
      by_answer (Ok parsed) i = by_output parsed.output i
      by_answer (Err s) (inl m) = m
      by_answer (Err s) (inr r) = absurd (n r)
