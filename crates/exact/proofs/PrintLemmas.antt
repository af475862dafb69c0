-- What is written at the end of a text, in characters.
-- Main laws: pushed-text, pushed-char, one_printed, list_printed.
use Rattle.std.proofs.Common.{◌≡◌, ℕ, zero, suc, ◌<◌, List, [], ◌∷◌, ◌++◌, append_assoc, drop, refl, ◌∙◌, ap}
use Rattle.std.specs.Prelude.{map, encode_utf8}
use Rattle.std.specs.Str.{chars, IsUtf8}
use Rattle.std.proofs.lemmas.List.{append-nil}
use Rattle.std.proofs.lemmas.Str.{chars-append, chars-IsAscii, encode_ascii}
use Rattle.std.proofs.lemmas.Str.Ascii.{IsAscii-nil, IsAscii-cons}
use Rattle.exact.specs.declared.expressions.Expression.{Expression}
use Rattle.exact.specs.Expressions.{list, forms_of, form_of, gap_before, written, all_written, more_written}

pub pushed-text : (t u s : List ℕ) → IsUtf8 t → u ≡ t ++ s → chars u ≡ chars t ++ chars s
pushed-text t u s h e = ap chars e ∙ chars-append t s h

pub pushed-char : (c : ℕ) (t u : List ℕ) → c < 128 → IsUtf8 t → u ≡ t ++ encode_utf8 c → chars u ≡ chars t ++ (c ∷ [])
pushed-char c t u l h e =
    let a : chars (encode_utf8 c) ≡ chars (c ∷ []) = ap chars (encode_ascii c l) in
    let b : chars (c ∷ []) ≡ c ∷ [] = chars-IsAscii (c ∷ []) (IsAscii-cons c [] l IsAscii-nil) in
    pushed-text t u (encode_utf8 c) h e ∙ ap (λ z. chars t ++ z) (a ∙ b)

pub gap-later : (i : ℕ) → (i ≡ 0 → ⊥) → gap_before i ≡ 32 ∷ []
gap-later zero n = absurd (n refl)
gap-later (suc i) n = refl

-- what remains to be written of a list from an index on
abbrev pub remaining : ℕ → List Expression → List ℕ
remaining zero es = all_written (forms_of (map form_of es))
remaining (suc i) es = more_written (forms_of (map form_of es))

remaining-first : (i : ℕ) (e : Expression) (es : List Expression) → remaining i (e ∷ es) ≡ gap_before i ++ (written (form_of e) ++ remaining (suc i) es)
remaining-first zero e es = refl
remaining-first (suc i) e es = refl

remaining-none : (i : ℕ) → remaining i [] ≡ []
remaining-none zero = refl
remaining-none (suc i) = refl

-- one more was printed
pub one_printed : (i : ℕ) (e : Expression) (es : List Expression) (t u v all : List ℕ) → t ++ remaining i (e ∷ es) ≡ all → u ≡ t ++ gap_before i → v ≡ u ++ written (form_of e) → v ++ remaining (suc i) es ≡ all
one_printed i e es t u v all h p q =
    let a = append_assoc (t ++ gap_before i) (written (form_of e)) (remaining (suc i) es) in
    let b = append_assoc t (gap_before i) (written (form_of e) ++ remaining (suc i) es) in
    let r = remaining-first i e es in
    cc (h, p, q, a, b, r)

-- a list was printed
pub list_printed : (i : ℕ) (es : List Expression) (old t l new : List ℕ) → t ≡ old ++ (40 ∷ []) → l ++ remaining i (drop i es) ≡ t ++ all_written (forms_of (map form_of es)) → drop i es ≡ [] → new ≡ l ++ (41 ∷ [])
    → new ≡ old ++ written (list (forms_of (map form_of es)))
list_printed i es old t l new p h n q =
    let all : List ℕ = all_written (forms_of (map form_of es)) in
    let e : remaining i (drop i es) ≡ [] = ap (remaining i) n ∙ remaining-none i in
    let k : l ++ [] ≡ l = append-nil l in
    let m : l ≡ (old ++ (40 ∷ [])) ++ all = cc (e, k, h, p) in
    let a : ((old ++ (40 ∷ [])) ++ all) ++ (41 ∷ []) ≡ (old ++ (40 ∷ [])) ++ (all ++ (41 ∷ [])) = append_assoc (old ++ (40 ∷ [])) all (41 ∷ []) in
    let b : (old ++ (40 ∷ [])) ++ (all ++ (41 ∷ [])) ≡ old ++ (40 ∷ (all ++ (41 ∷ []))) = append_assoc old (40 ∷ []) (all ++ (41 ∷ [])) in
    q ∙ ap (λ z. z ++ (41 ∷ [])) m ∙ a ∙ b
