-- What is written at the end of a text by the printer of JSON.
-- Main laws: pushed-scalar, control_printed, element_printed, member_printed, list_printed.
use Rattle.std.proofs.Common.{◌≡◌, ℕ, zero, suc, ◌+◌, ◌<◌, List, [], ◌∷◌, ◌++◌, length, get_or, map, append_assoc, drop, refl, sym, ◌∙◌, ap, rules, arith}
use Rattle.std.specs.Prelude.{Result, Ok, Err, OnOk, String, codes, encode_utf8, string_bytes}
use Rattle.std.specs.Char.{IsScalar}
use Rattle.std.specs.Str.{chars, IsUtf8}
use Rattle.std.specs.declared.alloc.Global.{Global}
use Rattle.std.specs.declared.vec.Vec.{Vec}
use Rattle.std.proofs.lemmas.List.{append-nil, drop_more}
use Rattle.std.proofs.lemmas.Str.{IsUtf8-encode, chars-nil, chars_past_char}
use Rattle.exact.specs.declared.json_value.Json.{Json, the_lemmas}
use Rattle.exact.specs.declared.json_value.Json as value
use Rattle.exact.specs.JsonForms.{Form, Members, null, truth, number, string, array, object, forms_of, members_of, form_of}
use Rattle.exact.specs.JsonWritten.{comma_before, written, elements_written, members_written, string_text}
use Rattle.exact.proofs.PrintLemmas.{pushed-text}

-- what a value says, level by level
pub form-null : form_of value.Null ≡ null
form-null = search (rules, the_lemmas)

pub form-bool : (b : _) → form_of (value.Bool b) ≡ truth b
form-bool b = search (rules, the_lemmas)

pub form-number : (s : String Global) → form_of (value.Number s) ≡ number (chars (string_bytes s))
form-number s = search (rules, the_lemmas)

pub form-string : (s : String Global) → form_of (value.String s) ≡ string (chars (string_bytes s))
form-string s = search (rules, the_lemmas)

pub form-array : (v : Vec Json Global) → form_of (value.Array v) ≡ array (forms_of (map form_of v.items))
form-array v = search (rules, the_lemmas)

pub form-object : (v : Vec (String Global × Json) Global) → form_of (value.Object v) ≡ object (members_of (map (λ m. (m.0, form_of m.1)) v.items))
form-object v = search (rules, the_lemmas)

pub pushed-scalar : (c : ℕ) (t u : List ℕ) → IsScalar c → IsUtf8 t → u ≡ t ++ encode_utf8 c → chars u ≡ chars t ++ (c ∷ [])
pushed-scalar c t u s h e =
    let a : chars (encode_utf8 c) ≡ c ∷ chars [] = chars_past_char (encode_utf8 c) [] c (IsUtf8-encode c s) (sym (append-nil (encode_utf8 c))) in
    pushed-text t u (encode_utf8 c) h e ∙ ap (λ z. chars t ++ z) (a ∙ ap (λ z. c ∷ z) chars-nil)

-- a control character was printed by its number
zeros-chars : chars (92 ∷ 117 ∷ 48 ∷ 48 ∷ []) ≡ 92 ∷ 117 ∷ 48 ∷ 48 ∷ []
unfolding chars
zeros-chars = refl

pub pushed-zeros : (t u : List ℕ) → IsUtf8 t → u ≡ t ++ (92 ∷ 117 ∷ 48 ∷ 48 ∷ []) → chars u ≡ chars t ++ (92 ∷ 117 ∷ 48 ∷ 48 ∷ [])
pushed-zeros t u h e = pushed-text t u (92 ∷ 117 ∷ 48 ∷ 48 ∷ []) h e ∙ ap (λ z. chars t ++ z) zeros-chars

pub control_printed : (old t u new : List ℕ) (a b x y : ℕ) → t ≡ old ++ (92 ∷ 117 ∷ 48 ∷ 48 ∷ []) → u ≡ t ++ (a ∷ []) → new ≡ u ++ (b ∷ []) → a ≡ x → b ≡ y → new ≡ old ++ (92 ∷ 117 ∷ 48 ∷ 48 ∷ x ∷ y ∷ [])
control_printed old t u new a b x y p q r f g =
    let zeros : List ℕ = 92 ∷ 117 ∷ 48 ∷ 48 ∷ [] in
    r ∙ ap (λ z. z ++ (b ∷ [])) q ∙ ap (λ z. (z ++ (a ∷ [])) ++ (b ∷ [])) p ∙ append_assoc (old ++ zeros) (a ∷ []) (b ∷ []) ∙ append_assoc old zeros (a ∷ b ∷ [])
    ∙ ap (λ z. old ++ (92 ∷ 117 ∷ 48 ∷ 48 ∷ z ∷ b ∷ [])) f ∙ ap (λ z. old ++ (92 ∷ 117 ∷ 48 ∷ 48 ∷ x ∷ z ∷ [])) g

-- what remains to be written of a list from an index on
abbrev pub elements_left : ℕ → List Json → List ℕ
elements_left zero es = drop 1 (elements_written (forms_of (map form_of es)))
elements_left (suc i) es = elements_written (forms_of (map form_of es))

abbrev pub forms_in : List (String Global × Json) → Members
forms_in ms = members_of (map (λ m. (m.0, form_of m.1)) ms)

abbrev pub members_left : ℕ → List (String Global × Json) → List ℕ
members_left zero ms = drop 1 (members_written (forms_in ms))
members_left (suc i) ms = members_written (forms_in ms)

elements_left-first : (i : ℕ) (e : Json) (es : List Json) → elements_left i (e ∷ es) ≡ comma_before i ++ (written (form_of e) ++ elements_left (suc i) es)
elements_left-first zero e es = refl
elements_left-first (suc i) e es = refl

members_left-first : (i : ℕ) (m : String Global × Json) (ms : List (String Global × Json)) → members_left i (m ∷ ms) ≡ comma_before i ++ (((string_text (chars (string_bytes m.0)) ++ codes ":") ++ written (form_of m.1)) ++ members_left (suc i) ms)
members_left-first zero m ms = refl
members_left-first (suc i) m ms = refl

pub elements_left-none : (i : ℕ) → elements_left i [] ≡ []
elements_left-none zero = refl
elements_left-none (suc i) = refl

pub members_left-none : (i : ℕ) → members_left i [] ≡ []
members_left-none zero = refl
members_left-none (suc i) = refl

-- one more was printed
printed : (c w r t u all l : List ℕ) → l ≡ c ++ (w ++ r) → t ++ l ≡ all → u ≡ (t ++ c) ++ w → u ++ r ≡ all
printed c w r t u all l e h p =
    let a : ((t ++ c) ++ w) ++ r ≡ (t ++ c) ++ (w ++ r) = append_assoc (t ++ c) w r in
    let b : (t ++ c) ++ (w ++ r) ≡ t ++ (c ++ (w ++ r)) = append_assoc t c (w ++ r) in
    ap (λ z. z ++ r) p ∙ a ∙ b ∙ ap (λ z. t ++ z) (sym e) ∙ h

pub element_printed : (i j : ℕ) (xs : List Json) (e : Json) (t u v all : List ℕ) → i < length xs → j ≡ i + 1 → e ≡ get_or xs i e → t ++ elements_left i (drop i xs) ≡ all → u ≡ t ++ comma_before i → v ≡ u ++ written (form_of e) → v ++ elements_left j (drop j xs) ≡ all
element_printed i j xs e t u v all l s g h p q =
    let d : drop i xs ≡ e ∷ drop (i + 1) xs = drop_more xs i e l ∙ ap (λ z. z ∷ drop (i + 1) xs) (sym g) in
    let n : elements_left i (drop i xs) ≡ comma_before i ++ (written (form_of e) ++ elements_left (suc i) (drop (i + 1) xs)) = ap (elements_left i) d ∙ elements_left-first i e (drop (i + 1) xs) in
    let k : suc i ≡ j = omega (arith, s) in
    let m : elements_left (suc i) (drop (i + 1) xs) ≡ elements_left j (drop j xs) = ap (λ z. elements_left z (drop (i + 1) xs)) k ∙ ap (λ z. elements_left j (drop z xs)) (sym s) in
    ap (λ z. v ++ z) (sym m) ∙ printed (comma_before i) (written (form_of e)) (elements_left (suc i) (drop (i + 1) xs)) t v all (elements_left i (drop i xs)) n h (q ∙ ap (λ z. z ++ written (form_of e)) p)

pub member_printed : (i j : ℕ) (xs : List (String Global × Json)) (m : String Global × Json) (t u v all : List ℕ) → i < length xs → j ≡ i + 1 → m ≡ get_or xs i m → t ++ members_left i (drop i xs) ≡ all → u ≡ (t ++ comma_before i) ++ (string_text (chars (string_bytes m.0)) ++ codes ":") → v ≡ u ++ written (form_of m.1) → v ++ members_left j (drop j xs) ≡ all
member_printed i j xs m t u v all l s g h p q =
    let name : List ℕ = string_text (chars (string_bytes m.0)) ++ codes ":" in
    let value : List ℕ = written (form_of m.1) in
    let d : drop i xs ≡ m ∷ drop (i + 1) xs = drop_more xs i m l ∙ ap (λ z. z ∷ drop (i + 1) xs) (sym g) in
    let n : members_left i (drop i xs) ≡ comma_before i ++ ((name ++ value) ++ members_left (suc i) (drop (i + 1) xs)) = ap (members_left i) d ∙ members_left-first i m (drop (i + 1) xs) in
    let k : suc i ≡ j = omega (arith, s) in
    let r : members_left (suc i) (drop (i + 1) xs) ≡ members_left j (drop j xs) = ap (λ z. members_left z (drop (i + 1) xs)) k ∙ ap (λ z. members_left j (drop z xs)) (sym s) in
    let w : v ≡ (t ++ comma_before i) ++ (name ++ value) = q ∙ ap (λ z. z ++ value) p ∙ append_assoc (t ++ comma_before i) name value in
    ap (λ z. v ++ z) (sym r) ∙ printed (comma_before i) (name ++ value) (members_left (suc i) (drop (i + 1) xs)) t v all (members_left i (drop i xs)) n h w

-- all were printed, between brackets
pub list_printed : (b c : ℕ) (left all old t l new : List ℕ) → t ≡ old ++ (b ∷ []) → l ++ left ≡ t ++ all → left ≡ [] → new ≡ l ++ (c ∷ []) → new ≡ old ++ (b ∷ (all ++ (c ∷ [])))
list_printed b c left all old t l new p h n q =
    let k : l ++ [] ≡ l = append-nil l in
    let m : l ≡ (old ++ (b ∷ [])) ++ all = cc (n, k, h, p) in
    let a : ((old ++ (b ∷ [])) ++ all) ++ (c ∷ []) ≡ (old ++ (b ∷ [])) ++ (all ++ (c ∷ [])) = append_assoc (old ++ (b ∷ [])) all (c ∷ []) in
    let d : (old ++ (b ∷ [])) ++ (all ++ (c ∷ [])) ≡ old ++ (b ∷ (all ++ (c ∷ []))) = append_assoc old (b ∷ []) (all ++ (c ∷ [])) in
    q ∙ ap (λ z. z ++ (c ∷ [])) m ∙ a ∙ d

-- what the words are in characters
null-chars : chars (codes "null") ≡ codes "null"
unfolding chars
null-chars = refl

true-chars : chars (codes "true") ≡ codes "true"
unfolding chars
true-chars = refl

false-chars : chars (codes "false") ≡ codes "false"
unfolding chars
false-chars = refl

pub pushed-null : (t u : List ℕ) → IsUtf8 t → u ≡ t ++ codes "null" → chars u ≡ chars t ++ codes "null"
pushed-null t u h e = pushed-text t u (codes "null") h e ∙ ap (λ z. chars t ++ z) null-chars

pub pushed-true : (t u : List ℕ) → IsUtf8 t → u ≡ t ++ codes "true" → chars u ≡ chars t ++ codes "true"
pushed-true t u h e = pushed-text t u (codes "true") h e ∙ ap (λ z. chars t ++ z) true-chars

pub pushed-false : (t u : List ℕ) → IsUtf8 t → u ≡ t ++ codes "false" → chars u ≡ chars t ++ codes "false"
pushed-false t u h e = pushed-text t u (codes "false") h e ∙ ap (λ z. chars t ++ z) false-chars

-- what was written as one value was written as the same
pub written_as : {E : Type 0} (r : Result (Unit {0}) E) (new old : List ℕ) (f g : Form) → g ≡ f → OnOk r (new ≡ old ++ written f) → OnOk r (new ≡ old ++ written g)
written_as (Ok u) new old f g e h = h ∙ ap (λ z. old ++ written z) (sym e)
written_as (Err x) new old f g e h = tt
