-- What may stand after the last expression of a text, and the text.
-- Main words: tails. Main laws: tail_at, tail_each, lisp-sound, lisp-each, exact-unless. Read first: ReaderLaws.antt.
use Rattle.std.proofs.Common.{◌≡◌, ℕ, true, Option, Some, None, List, [], ◌∷◌, ◌++◌, length, drop, nat_eq, refl, sym, ◌∙◌, ap, subst, inl, inr}
use Rattle.std.specs.Prelude.{Result, Ok, Err, ⊤, map}
use Rattle.std.specs.Borrow.{Bor}
use Rattle.std.specs.declared.alloc.Global.{Global}
use Rattle.std.specs.declared.vec.Vec.{Vec}
use Rattle.std.proofs.lemmas.List.{append-nil}
use Rattle.chumsky_parser.specs.Ending.{Ending, At, Nowhere, Refused, and_then, or_else, EndsOrRefused, DoesNotEnd}
use Rattle.chumsky_parser.specs.ItemsLanguage.{list_ends}
use Rattle.chumsky_parser.specs.Language.{Language}
use Rattle.chumsky_parser.specs.SequenceLanguage.{then_language, ignore_then_language, then_ignore_language}
use Rattle.chumsky_parser.specs.Words.{then_ends, AllPass}
use Rattle.chumsky_parser.specs.WordsLaws.{then_or_refused}
use Rattle.chumsky_primitive.specs.EndLanguage.{end_language, end_ends}
use Rattle.chumsky_primitive.specs.PrimitiveLanguage.{literal_ends}
use Rattle.chumsky_combinator.specs.OptionalLanguage.{or_not_language, maybe_ends}
use Rattle.chumsky_items.specs.ListLanguage.{collected_language}
use Rattle.chumsky_items.specs.ListWords.{repeated_next}
use Rattle.chumsky_items.specs.RepeatedLanguage.{repeated_language}
use Rattle.chumsky_text.specs.Leading.{leading}
use Rattle.chumsky_text.specs.TextLanguage.{past_ends}
use Rattle.chumsky_text.specs.TextLanguageLaws.{take_leading, front_rest, leading_pass}
use Rattle.s_expression.specs.declared.expression.Expression.{Expression}
use Rattle.s_expression.specs.Lisp.{forms_of, form_of, in_line, IsGap, AreExpressions, IsLastComment, IsLisp, HoldsLisp}
use Rattle.s_expression.specs.ListEnds.{then_at, either_at, list-took, list-goes}
use Rattle.s_expression.specs.Reading.{fixed, line, gaps}
use Rattle.s_expression.specs.PieceLaws.{literal_at}
use Rattle.s_expression.specs.ReaderLaws.{IsClosing, IsReader, gap_at, gap_each, closing_begins, items-sound, items-go}

-- the comment that a text may end in; a gap and it, and the end; and a whole text, where a call reads its expressions
abbrev pub last_comments : Language ℕ (Bor (List ℕ))
last_comments = ignore_then_language (fixed 59) line

abbrev pub tails : Language ℕ ((Unit {0} × Option (Bor (List ℕ))) × Unit {0})
tails = then_language (then_language gaps (or_not_language last_comments)) end_language

abbrev pub wholes : Language ℕ Expression → Language ℕ (Vec Expression Global)
wholes call = then_ignore_language (collected_language (repeated_language call 0 None) (λ xs (v : Vec Expression Global). v.items ≡ xs) ⊥) tails

end_at : (ts rest : List ℕ) → end_ends ts ≡ At rest → (ts ≡ []) × (rest ≡ [])
end_at [] rest e = let z : [] ≡ rest = cc e in (refl, sym z)
end_at (c ∷ cs) rest e = absurd (cc e)

last_at : (ts : List ℕ) → (or_not_language last_comments).ends ts ≡ At [] → IsLastComment ts
last_at ts e = elim (either_at (last_comments.ends ts) (At ts) [] e) [
  | inl a ↦ (
      let b = then_at (λ us. past_ends (leading in_line us) us) (literal_ends nat_eq (59 ∷ []) ts) [] a in
      let us : List ℕ = b.0 in
      let z : drop (length (leading in_line us)) us ≡ [] = cc b.2 in
      let w : us ≡ leading in_line us = front_rest (leading in_line us) us (take_leading in_line us) ∙ ap (λ y. leading in_line us ++ y) z ∙ append-nil (leading in_line us) in
      subst IsLastComment (sym (literal_at 59 ts us b.1)) (refl, subst (AllPass in_line) (sym w) (leading_pass in_line us))
      )
  | inr a ↦ (let z : ts ≡ [] = cc a.1 in subst IsLastComment (sym z) tt)
]

line_over : (cs : List ℕ) → AllPass in_line cs → past_ends (leading in_line cs) cs ≡ At []
line_over [] p = refl
line_over (c ∷ cs) p = let d : in_line c ≡ true = p.0 in rw d (line_over cs p.1)

last_each : (ts : List ℕ) → IsLastComment ts → (or_not_language last_comments).ends ts ≡ At []
last_each [] k = refl
last_each (c ∷ cs) (e, p) = subst (λ z. (or_not_language last_comments).ends (z ∷ cs) ≡ At []) (sym e) (let l = line_over cs p in rw l refl)

last_closing : (ts : List ℕ) → IsLastComment ts → IsClosing ts
last_closing [] k = tt
last_closing (c ∷ cs) k = inr k

pub tail_at : (ts : List ℕ) → tails.ends ts ≡ At [] → (g : List ℕ) × (c : List ℕ) × IsGap g × IsLastComment c × (ts ≡ g ++ c)
tail_at ts e =
    let a = then_at end_ends (and_then (or_not_language last_comments).ends (gaps.ends ts)) [] e in
    let z = end_at a.0 [] a.2 in
    let b = then_at (or_not_language last_comments).ends (gaps.ends ts) a.0 a.1 in
    let k = gap_at ts b.0 b.1 in
    (k.0, b.0, k.1, last_at b.0 (b.2 ∙ ap (λ y. At y) z.0), k.2)

pub tail_each : {g : List ℕ} (c : List ℕ) → IsGap g → IsLastComment c → EndsOrRefused (tails.ends (g ++ c)) []
tail_each {g} c k l =
    let d = last_each c l in
    then_or_refused end_ends (and_then (or_not_language last_comments).ends (gaps.ends (g ++ c))) [] []
    (then_or_refused (or_not_language last_comments).ends (gaps.ends (g ++ c)) c [] (gap_each c k (closing_begins c (last_closing c l))) (inl d)) (inl refl)

module _ (call : Language ℕ Expression) (depth : ℕ) (i : IsReader call depth) where
  abbrev many : List ℕ → Ending (List ℕ)
  many = list_ends (repeated_next call.ends 0 None)

  -- a text that is taken whole is the expressions that are given
  pub lisp-sound : (ts : List ℕ) (v : Vec Expression Global) → (wholes call).ends ts ≡ At [] → (wholes call).value ts v → HoldsLisp ts v
  lisp-sound ts v e h =
      let a = then_at tails.ends (many ts) [] e in
      let t = tail_at a.0 a.2 in
      let r = items-sound call depth i h.items ts a.0 t.0 t.1 (list-took call.ends call.value 0 ts a.0 h.items a.1 h.is) t.2 t.4 in
      record { expressions = r.0; last = t.1; all = r.2; are = subst (λ z. Are r.0 z) (sym h.held) r.1; is_last = t.3 }
    where
      Are : List ℕ → List Expression → Type 0
      Are w es = AreExpressions w (forms_of (map form_of es))

  -- and each text of expressions is taken whole, unless it is refused
  pub lisp-each : (ts : List ℕ) (v : Vec Expression Global) → HoldsLisp ts v → EndsOrRefused ((wholes call).ends ts) []
  lisp-each ts v h =
      let r = items-go call depth i h.last h.are (last_closing h.last h.is_last) in
      let k : EndsOrRefused ((wholes call).ends (h.expressions ++ h.last)) [] =
      then_or_refused tails.ends (many (h.expressions ++ h.last)) (r.0 ++ h.last) [] (list-goes call.ends (h.expressions ++ h.last) (r.0 ++ h.last) r.2) (tail_each h.last r.1 h.is_last) in
      subst (λ z. EndsOrRefused ((wholes call).ends z) []) (sym h.all) k
