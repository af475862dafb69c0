-- A text is one value at most, and no two values are written alike.
-- Main laws: json-once, written-once. Read first: JsonForms.antt, JsonWritten.antt.
use Rattle.std.proofs.Common.{◌≡◌, ℕ, ◌<◌, ◌||◌, Bool, true, false, cond, nat_eq, Some, None, List, [], ◌∷◌, ◌++◌, append_assoc, refl, sym, ◌∙◌, ap, subst, arith, inl, inr}
use Rattle.std.specs.Prelude.{codes, drop, ◌==◌, ◌⊎◌}
use Rattle.std.specs.Char.{digit_value, is_digit}
use Rattle.std.specs.Char.Utf16.{lone_unit_char, is_high_surrogate, surrogate_pair_char}
use Rattle.std.proofs.lemmas.Bool.{lt-ltb, ltb-true, eqb-true, eqb-false, ne_eqb}
use Rattle.std.proofs.lemmas.Bool.Decides.{nat_tests}
use Rattle.std.proofs.lemmas.Str.Parse.{digit_from_value}
use Rattle.chumsky_parser.specs.Words.{StopsAt}
use Rattle.exact.specs.JsonNumbers.{IsNumberText, begins_number, number_goes_on}
use Rattle.exact.specs.JsonNumbersOnce.{front, number-begins, number-split}
use Rattle.exact.specs.JsonStrings.{is_plain, escaped, unit_of, IsPiece, plain, by_letter, by_unit, by_pair, ArePieces, no_piece, more_pieces, IsString, quoted}
use Rattle.exact.specs.JsonForms.{Form, null, truth, number, string, array, object, Forms, no_forms, form, Members, is_blank, AreBlanks, IsValue, is_null, is_true, is_false, is_number, is_string, is_array, is_object, IsElement, is_element, AreElements, no_element, one_element, more_elements, IsMember, is_member, AreMembers, no_member, one_member, more_members, IsJson}
use Rattle.exact.specs.JsonWritten.{written, AreNumbers}
use Rattle.exact.specs.JsonWrittenLaws.{written-is}

-- two lists that begin otherwise
apart : (c d : ℕ) (x y : List ℕ) → nat_eq c d ≡ false → c ∷ x ≡ d ∷ y → ⊥
apart c d x y n e = let q : c ≡ d = cc e in eqb-false c d n q

abbrev head : List ℕ → ℕ
head [] = 0
head (c ∷ cs) = c

abbrev second : List ℕ → ℕ
second cs = head (drop 1 cs)

abbrev NoMore : List ℕ → Type 0
NoMore = StopsAt number_goes_on

abbrev NoBlank : List ℕ → Type 0
NoBlank = StopsAt is_blank

blank-is : (c : ℕ) → is_blank c ≡ true → (c ≡ 32) ⊎ ((c ≡ 9) ⊎ ((c ≡ 10) ⊎ (c ≡ 13)))
blank-is c e = grind (arith, nat_tests)

blank-no_more : (c : ℕ) → is_blank c ≡ true → number_goes_on c ≡ false
blank-no_more c e = elim (blank-is c e) [ inl a ↦ rw a refl | inr x ↦ elim x [ inl a ↦ rw a refl | inr y ↦ elim y [ inl a ↦ rw a refl | inr a ↦ rw a refl ] ] ]

blanks-stop : (b rest : List ℕ) → AreBlanks b → NoMore rest → NoMore (b ++ rest)
blanks-stop [] rest k s = s
blanks-stop (c ∷ cs) rest k s = blank-no_more c k.0

-- the part after blanks
past : (a b x y : List ℕ) → AreBlanks a → AreBlanks b → NoBlank x → NoBlank y → a ++ x ≡ b ++ y → x ≡ y
past a b x y k l s t e = (front is_blank a b x y k l s t e).1

-- four digits write one unit
record IsFour (h : List ℕ) : Type 0 where
  a : ℕ
  b : ℕ
  c : ℕ
  d : ℕ
  all : h ≡ a ∷ b ∷ c ∷ d ∷ []

four : (h : List ℕ) (u : ℕ) → unit_of h ≡ Some u → IsFour h
four [] u e = absurd (cc e)
four (a ∷ []) u e = absurd (cc e)
four (a ∷ b ∷ []) u e = absurd (cc e)
four (a ∷ b ∷ c ∷ []) u e = absurd (cc e)
four (a ∷ b ∷ c ∷ d ∷ []) u e = record { a = a; b = b; c = c; d = d; all = refl }
four (a ∷ b ∷ c ∷ d ∷ f ∷ h) u e = absurd (cc e)

unit-once : (h l : List ℕ) (u v : ℕ) (x y : List ℕ) → unit_of h ≡ Some u → unit_of l ≡ Some v → h ++ x ≡ l ++ y → (u ≡ v) × (x ≡ y)
unit-once h l u v x y i j e =
    let p = four h u i in
    let q = four l v j in
    let k : (p.a ∷ p.b ∷ p.c ∷ p.d ∷ []) ++ x ≡ (q.a ∷ q.b ∷ q.c ∷ q.d ∷ []) ++ y = ap (λ z. z ++ x) (sym p.all) ∙ e ∙ ap (λ z. z ++ y) q.all in
    let s : p.a ∷ p.b ∷ p.c ∷ p.d ∷ [] ≡ q.a ∷ q.b ∷ q.c ∷ q.d ∷ [] = cc k in
    let same : h ≡ l = p.all ∙ s ∙ sym q.all in
    let g : Some u ≡ Some v = sym i ∙ ap unit_of same ∙ j in
    (cc g, cc k)

lone-high : (u c : ℕ) → is_high_surrogate u ≡ true → lone_unit_char u ≡ Some c → ⊥
lone-high u c h e = let n : lone_unit_char u ≡ None = grind (arith, nat_tests) in let z : None ≡ Some c = sym n ∙ e in absurd (cc z)

-- a plain character is no backslash and no quote
plain-escape : (c : ℕ) → is_plain c ≡ true → c ≡ 92 → ⊥
plain-escape c p e = let z : false ≡ true = ap is_plain (sym e) ∙ p in absurd (cc z)

plain-quote : (c : ℕ) → is_plain c ≡ true → c ≡ 34 → ⊥
plain-quote c p e = let z : false ≡ true = ap is_plain (sym e) ∙ p in absurd (cc z)

-- `u` is no letter
letter-unit : (e c : ℕ) → escaped e ≡ Some c → e ≡ 117 → ⊥
letter-unit e c h s = let z : None ≡ Some c = ap escaped (sym s) ∙ h in absurd (cc z)

-- the second part of a pair, and what follows
pair-rest : (h l x : List ℕ) → (92 ∷ 117 ∷ (h ++ (92 ∷ 117 ∷ l))) ++ x ≡ 92 ∷ 117 ∷ (h ++ (92 ∷ 117 ∷ (l ++ x)))
pair-rest h l x = ap (λ z. 92 ∷ 117 ∷ z) (append_assoc h (92 ∷ 117 ∷ l) x)

unit-pair : (k h l : List ℕ) (u v c : ℕ) (x y : List ℕ) → unit_of k ≡ Some v → lone_unit_char v ≡ Some c → unit_of h ≡ Some u → is_high_surrogate u ≡ true → (92 ∷ 117 ∷ k) ++ x ≡ (92 ∷ 117 ∷ (h ++ (92 ∷ 117 ∷ l))) ++ y → ⊥
unit-pair k h l u v c x y i n j s e =
    let r = e ∙ pair-rest h l y in
    let t : k ++ x ≡ h ++ (92 ∷ 117 ∷ (l ++ y)) = ap (drop 2) r in
    let m : v ≡ u = (unit-once k h v u x (92 ∷ 117 ∷ (l ++ y)) i j t).0 in
    lone-high v c (ap is_high_surrogate m ∙ s) n

piece-once : {w v : List ℕ} {c d : ℕ} → IsPiece w c → IsPiece v d → (x y : List ℕ) → w ++ x ≡ v ++ y → (c ≡ d) × (x ≡ y)
piece-once (plain c p) (plain d q) x y e = (ap head e, ap (drop 1) e)
piece-once (plain c p) (by_letter f d q) x y e = absurd (plain-escape c p (ap head e))
piece-once (plain c p) (by_unit l v d i n) x y e = absurd (plain-escape c p (ap head e))
piece-once (plain c p) (by_pair h l u v i s j t) x y e = absurd (plain-escape c p (ap head e))
piece-once (by_letter f c p) (plain d q) x y e = absurd (plain-escape d q (sym (ap head e)))
piece-once (by_letter f c p) (by_letter g d q) x y e =
    let s : f ≡ g = ap second e in
    let z : Some c ≡ Some d = sym p ∙ ap escaped s ∙ q in
    (cc z, ap (drop 2) e)
piece-once (by_letter f c p) (by_unit l v d i n) x y e = absurd (letter-unit f c p (ap second e))
piece-once (by_letter f c p) (by_pair h l u v i s j t) x y e = absurd (letter-unit f c p (ap second e))
piece-once (by_unit h u c i n) (plain d q) x y e = absurd (plain-escape d q (sym (ap head e)))
piece-once (by_unit h u c i n) (by_letter g d q) x y e = absurd (letter-unit g d q (sym (ap second e)))
piece-once (by_unit h u c i n) (by_unit l v d j m) x y e =
    let t : h ++ x ≡ l ++ y = ap (drop 2) e in
    let r = unit-once h l u v x y i j t in
    let z : Some c ≡ Some d = sym n ∙ ap lone_unit_char r.0 ∙ m in
    (cc z, r.1)
piece-once (by_unit k w c i n) (by_pair h l u v j s m t) x y e = absurd (unit-pair k h l u w c x y i n j s e)
piece-once (by_pair h l u v i s j t) (plain d q) x y e = absurd (plain-escape d q (sym (ap head e)))
piece-once (by_pair h l u v i s j t) (by_letter g d q) x y e = absurd (letter-unit g d q (sym (ap second e)))
piece-once (by_pair h l u v j s m t) (by_unit k w c i n) x y e = absurd (unit-pair k h l u w c y x i n j s (sym e))
piece-once (by_pair h l u v i s j t) (by_pair k m a b f o g q) x y e =
    let r : 92 ∷ 117 ∷ (h ++ (92 ∷ 117 ∷ (l ++ x))) ≡ 92 ∷ 117 ∷ (k ++ (92 ∷ 117 ∷ (m ++ y))) = sym (pair-rest h l x) ∙ e ∙ pair-rest k m y in
    let first : h ++ (92 ∷ 117 ∷ (l ++ x)) ≡ k ++ (92 ∷ 117 ∷ (m ++ y)) = ap (drop 2) r in
    let p = unit-once h k u a (92 ∷ 117 ∷ (l ++ x)) (92 ∷ 117 ∷ (m ++ y)) i f first in
    let rest : l ++ x ≡ m ++ y = ap (drop 2) p.1 in
    let n = unit-once l m v b x y j g rest in
    (ap (λ z. surrogate_pair_char z v) p.0 ∙ ap (surrogate_pair_char a) n.0, n.1)

-- no piece begins with a quote
piece-begins : {w : List ℕ} {c : ℕ} → IsPiece w c → (x y : List ℕ) → 34 ∷ x ≡ w ++ y → ⊥
piece-begins (plain c p) x y e = plain-quote c p (sym (ap head e))
piece-begins (by_letter f c p) x y e = apart 34 92 x (f ∷ y) refl e
piece-begins (by_unit h u c i n) x y e = apart 34 92 x (117 ∷ (h ++ y)) refl e
piece-begins (by_pair h l u v i s j t) x y e = apart 34 92 x (117 ∷ ((h ++ (92 ∷ 117 ∷ l)) ++ y)) refl e

pieces-once : {w v cs ds : List ℕ} → ArePieces w cs → ArePieces v ds → (x y : List ℕ) → w ++ (34 ∷ x) ≡ v ++ (34 ∷ y) → (cs ≡ ds) × (x ≡ y)
pieces-once no_piece no_piece x y e = (refl, ap (drop 1) e)
pieces-once no_piece (more_pieces {w = v} {ws = vs} q b) x y e = absurd (piece-begins q x (vs ++ (34 ∷ y)) (e ∙ append_assoc v vs (34 ∷ y)))
pieces-once (more_pieces {w} {ws} p a) no_piece x y e = absurd (piece-begins p y (ws ++ (34 ∷ x)) (sym e ∙ append_assoc w ws (34 ∷ x)))
pieces-once (more_pieces {w} {ws} p a) (more_pieces {w = v} {ws = vs} q b) x y e =
    let r = piece-once p q (ws ++ (34 ∷ x)) (vs ++ (34 ∷ y)) (sym (append_assoc w ws (34 ∷ x)) ∙ e ∙ append_assoc v vs (34 ∷ y)) in
    let s = pieces-once a b x y r.1 in
    (cc (r.0, s.0), s.1)

string-once : {w v cs ds : List ℕ} → IsString w cs → IsString v ds → (x y : List ℕ) → w ++ x ≡ v ++ y → (cs ≡ ds) × (x ≡ y)
string-once (quoted {w} p) (quoted {w = v} q) x y e =
    let r : 34 ∷ (w ++ (34 ∷ x)) ≡ 34 ∷ (v ++ (34 ∷ y)) = ap (λ z. 34 ∷ z) (sym (append_assoc w (34 ∷ []) x)) ∙ e ∙ ap (λ z. 34 ∷ z) (append_assoc v (34 ∷ []) y) in
    pieces-once p q x y (ap (drop 1) r)

string-no_blank : {w cs : List ℕ} → IsString w cs → (x : List ℕ) → NoBlank (w ++ x)
string-no_blank (quoted p) x = refl

no_string-here : {w cs : List ℕ} → IsString w cs → (x y : List ℕ) → 125 ∷ x ≡ w ++ y → ⊥
no_string-here (quoted {w} p) x y e = apart 125 34 x ((w ++ (34 ∷ [])) ++ y) refl e

-- the kind of value that a character begins, and 7 of those that begin none
abbrev kind_begun : ℕ → ℕ
kind_begun c = cond (c == 110) 0 (cond (c == 116) 1 (cond (c == 102) 2 (cond (begins_number c) 3 (cond (c == 34) 4 (cond (c == 91) 5 (cond (c == 123) 6 7))))))

abbrev begun : List ℕ → ℕ
begun [] = 7
begun (c ∷ cs) = kind_begun c

abbrev kind_of : Form → ℕ
kind_of null = 0
kind_of (truth true) = 1
kind_of (truth false) = 2
kind_of (number cs) = 3
kind_of (string cs) = 4
kind_of (array fs) = 5
kind_of (object ms) = 6

digit-begins : (c : ℕ) → digit_value c < 10 → (kind_begun c ≡ 3) × (is_blank c ≡ false)
digit-begins c l =
    let r = digit_from_value c l in
    let n : nat_eq c 110 ≡ false = ne_eqb c 110 (λ e. omega (arith, e, r.1)) in
    let t : nat_eq c 116 ≡ false = ne_eqb c 116 (λ e. omega (arith, e, r.1)) in
    let f : nat_eq c 102 ≡ false = ne_eqb c 102 (λ e. omega (arith, e, r.1)) in
    let d : is_digit c 10 ≡ true = lt-ltb (digit_value c) 10 l in
    let space : nat_eq c 32 ≡ false = ne_eqb c 32 (λ e. omega (arith, e, r.0)) in
    let tab : nat_eq c 9 ≡ false = ne_eqb c 9 (λ e. omega (arith, e, r.0)) in
    let feed : nat_eq c 10 ≡ false = ne_eqb c 10 (λ e. omega (arith, e, r.0)) in
    let back : nat_eq c 13 ≡ false = ne_eqb c 13 (λ e. omega (arith, e, r.0)) in
    (rw (n, t, f, d) refl, rw (space, tab, feed, back) refl)

number-kind : (c : ℕ) → begins_number c ≡ true → (kind_begun c ≡ 3) × (is_blank c ≡ false)
number-kind c e = by_digit (is_digit c 10) refl e
  where
    by_digit : (b : Bool) → is_digit c 10 ≡ b → (b || (c == 45)) ≡ true → (kind_begun c ≡ 3) × (is_blank c ≡ false)
    by_digit true d e = digit-begins c (ltb-true (digit_value c) 10 d)
    by_digit false d e = let h : c ≡ 45 = eqb-true c 45 e in rw h (refl, refl)

number-starts : {w : List ℕ} → IsNumberText w → (x : List ℕ) → (begun (w ++ x) ≡ 3) × NoBlank (w ++ x)
number-starts i x = let b = number-begins i in let e = b.2 in subst (λ z. (begun (z ++ x) ≡ 3) × NoBlank (z ++ x)) (sym e) (number-kind b.0 b.3)

begins : {w : List ℕ} {f : Form} → IsValue w f → (x : List ℕ) → (begun (w ++ x) ≡ kind_of f) × NoBlank (w ++ x)
begins is_null x = (refl, refl)
begins is_true x = (refl, refl)
begins is_false x = (refl, refl)
begins (is_number i) x = number-starts i x
begins (is_string (quoted p)) x = (refl, refl)
begins (is_array b a k) x = (refl, refl)
begins (is_object b a k) x = (refl, refl)

-- values of one text are of one kind
same-kind : {w v : List ℕ} {f g : Form} → IsValue w f → IsValue v g → (x y : List ℕ) → w ++ x ≡ v ++ y → kind_of f ≡ kind_of g
same-kind i j x y e = sym (begins i x).0 ∙ ap begun e ∙ (begins j y).0

kind-below : (f : Form) → kind_of f < 7
kind-below null = omega arith
kind-below (truth true) = omega arith
kind-below (truth false) = omega arith
kind-below (number cs) = omega arith
kind-below (string cs) = omega arith
kind-below (array fs) = omega arith
kind-below (object ms) = omega arith

-- no element stands where, after blanks, something else begins
no_element-here : {w : List ℕ} {f : Form} → IsElement w f → (b r x : List ℕ) → AreBlanks b → NoBlank r → begun r ≡ 7 → b ++ r ≡ w ++ x → ⊥
no_element-here (is_element {w} {f} a k i) b r x l s n e =
    let p : b ++ r ≡ a ++ (w ++ x) = e ∙ append_assoc a w x in
    let q : r ≡ w ++ x = past b a r (w ++ x) l k s (begins i x).1 p in
    let m : 7 ≡ kind_of f = sym n ∙ ap begun q ∙ (begins i x).0 in
    omega (arith, m, kind-below f)

-- what is between two, and what follows
comma-rest : (b w x : List ℕ) → ((b ++ codes ",") ++ w) ++ x ≡ b ++ (44 ∷ (w ++ x))
comma-rest b w x = append_assoc (b ++ (44 ∷ [])) w x ∙ append_assoc b (44 ∷ []) (w ++ x)

after-first : (w b ws x : List ℕ) → (w ++ ((b ++ codes ",") ++ ws)) ++ x ≡ w ++ (b ++ (44 ∷ (ws ++ x)))
after-first w b ws x = append_assoc w ((b ++ (44 ∷ [])) ++ ws) x ∙ ap (λ z. w ++ z) (comma-rest b ws x)

-- the mark after blanks, and what follows it
mark-once : (a b : List ℕ) (c d : ℕ) (x y : List ℕ) → AreBlanks a → AreBlanks b → is_blank c ≡ false → is_blank d ≡ false → a ++ (c ∷ x) ≡ b ++ (d ∷ y) → (c ≡ d) × (x ≡ y)
mark-once a b c d x y k l s t e = let r = past a b (c ∷ x) (d ∷ y) k l s t e in (ap head r, ap (drop 1) r)

closed : (w b x : List ℕ) (c : ℕ) → (w ++ (b ++ (c ∷ []))) ++ x ≡ w ++ (b ++ (c ∷ x))
closed w b x c = append_assoc w (b ++ (c ∷ [])) x ∙ ap (λ z. w ++ z) (append_assoc b (c ∷ []) x)

member-text : (a v b w x : List ℕ) → (((a ++ v) ++ (b ++ codes ":")) ++ w) ++ x ≡ a ++ (v ++ (b ++ (58 ∷ (w ++ x))))
member-text a v b w x =
    let p = append_assoc ((a ++ v) ++ (b ++ (58 ∷ []))) w x in
    let q = append_assoc (a ++ v) (b ++ (58 ∷ [])) (w ++ x) in
    let r = append_assoc b (58 ∷ []) (w ++ x) in
    p ∙ q ∙ ap (λ z. (a ++ v) ++ z) r ∙ append_assoc a v (b ++ (58 ∷ (w ++ x)))

-- no member stands where, after blanks, a bracket closes
no_member-here : {w cs : List ℕ} {f : Form} → IsMember w cs f → (b x y : List ℕ) → AreBlanks b → b ++ (125 ∷ x) ≡ w ++ y → ⊥
no_member-here (is_member {v} {w} a d k p l i) b x y m e =
    let rest : List ℕ = d ++ (58 ∷ (w ++ y)) in
    let q : 125 ∷ x ≡ v ++ rest = past b a (125 ∷ x) (v ++ rest) m k refl (string-no_blank p rest) (e ∙ member-text a v d w y) in
    no_string-here p x rest q

mutual
  value-once : {w v : List ℕ} {f g : Form} → IsValue w f → IsValue v g → (x y : List ℕ) → NoMore x → NoMore y → w ++ x ≡ v ++ y → (f ≡ g) × (x ≡ y)
  value-once is_null is_null x y s t e = (refl, ap (drop 4) e)
  value-once is_true is_true x y s t e = (refl, ap (drop 4) e)
  value-once is_false is_false x y s t e = (refl, ap (drop 5) e)
  value-once (is_number i) (is_number j) x y s t e = let r = number-split i j x y s t e in (ap number r.0, r.1)
  value-once (is_string p) (is_string q) x y s t e = let r = string-once p q x y e in (ap string r.0, r.1)
  value-once (is_array {w} b a k) (is_array {w = v} d c l) x y s t e =
      let p : 91 ∷ (w ++ (b ++ (93 ∷ x))) ≡ 91 ∷ (v ++ (d ++ (93 ∷ y))) = ap (λ z. 91 ∷ z) (sym (closed w b x 93)) ∙ e ∙ ap (λ z. 91 ∷ z) (closed v d y 93) in
      let r = elements-once a c b d x y k l (ap (drop 1) p) in
      (ap array r.0, r.1)
  value-once (is_object {w} b a k) (is_object {w = v} d c l) x y s t e =
      let p : 123 ∷ (w ++ (b ++ (125 ∷ x))) ≡ 123 ∷ (v ++ (d ++ (125 ∷ y))) = ap (λ z. 123 ∷ z) (sym (closed w b x 125)) ∙ e ∙ ap (λ z. 123 ∷ z) (closed v d y 125) in
      let r = members-once a c b d x y k l (ap (drop 1) p) in
      (ap object r.0, r.1)
  value-once i j x y s t e = absurd (omega (arith, same-kind i j x y e))

  element-once : {w v : List ℕ} {f g : Form} → IsElement w f → IsElement v g → (x y : List ℕ) → NoMore x → NoMore y → w ++ x ≡ v ++ y → (f ≡ g) × (x ≡ y)
  element-once (is_element {w} b k i) (is_element {w = v} d l j) x y s t e =
      let p : b ++ (w ++ x) ≡ d ++ (v ++ y) = sym (append_assoc b w x) ∙ e ∙ append_assoc d v y in
      value-once i j x y s t (past b d (w ++ x) (v ++ y) k l (begins i x).1 (begins j y).1 p)

  elements-once : {w v : List ℕ} {fs gs : Forms} → AreElements w fs → AreElements v gs → (b d x y : List ℕ) → AreBlanks b → AreBlanks d → w ++ (b ++ (93 ∷ x)) ≡ v ++ (d ++ (93 ∷ y)) → (fs ≡ gs) × (x ≡ y)
  elements-once no_element no_element b d x y k l e = (refl, (mark-once b d 93 93 x y k l refl refl e).1)
  elements-once no_element (one_element j) b d x y k l e = absurd (no_element-here j b (93 ∷ x) (d ++ (93 ∷ y)) k refl refl e)
  elements-once no_element (more_elements {w = v} {ws = vs} c j m q) b d x y k l e = absurd (no_element-here j b (93 ∷ x) (c ++ (44 ∷ (vs ++ (d ++ (93 ∷ y))))) k refl refl (e ∙ after-first v c vs (d ++ (93 ∷ y))))
  elements-once (one_element i) no_element b d x y k l e = absurd (no_element-here i d (93 ∷ y) (b ++ (93 ∷ x)) l refl refl (sym e))
  elements-once (one_element i) (one_element j) b d x y k l e =
      let r = element-once i j (b ++ (93 ∷ x)) (d ++ (93 ∷ y)) (blanks-stop b (93 ∷ x) k refl) (blanks-stop d (93 ∷ y) l refl) e in
      (ap (λ z. form z no_forms) r.0, (mark-once b d 93 93 x y k l refl refl r.1).1)
  elements-once (one_element i) (more_elements {w = v} {ws = vs} c j m q) b d x y k l e =
      let rest : List ℕ = vs ++ (d ++ (93 ∷ y)) in
      let r = element-once i j (b ++ (93 ∷ x)) (c ++ (44 ∷ rest)) (blanks-stop b (93 ∷ x) k refl) (blanks-stop c (44 ∷ rest) m refl) (e ∙ after-first v c vs (d ++ (93 ∷ y))) in
      let z : 93 ≡ 44 = (mark-once b c 93 44 x rest k m refl refl r.1).0 in
      absurd (omega (arith, z))
  elements-once (more_elements {w} {ws} a i n p) no_element b d x y k l e = absurd (no_element-here i d (93 ∷ y) (a ++ (44 ∷ (ws ++ (b ++ (93 ∷ x))))) l refl refl (sym e ∙ after-first w a ws (b ++ (93 ∷ x))))
  elements-once (more_elements {w} {ws} a i n p) (one_element j) b d x y k l e =
      let rest : List ℕ = ws ++ (b ++ (93 ∷ x)) in
      let r = element-once i j (a ++ (44 ∷ rest)) (d ++ (93 ∷ y)) (blanks-stop a (44 ∷ rest) n refl) (blanks-stop d (93 ∷ y) l refl) (sym (after-first w a ws (b ++ (93 ∷ x))) ∙ e) in
      let z : 44 ≡ 93 = (mark-once a d 44 93 rest y n l refl refl r.1).0 in
      absurd (omega (arith, z))
  elements-once (more_elements {w} {ws} a i n p) (more_elements {w = v} {ws = vs} c j m q) b d x y k l e =
      let left : List ℕ = ws ++ (b ++ (93 ∷ x)) in
      let right : List ℕ = vs ++ (d ++ (93 ∷ y)) in
      let r = element-once i j (a ++ (44 ∷ left)) (c ++ (44 ∷ right)) (blanks-stop a (44 ∷ left) n refl) (blanks-stop c (44 ∷ right) m refl) (sym (after-first w a ws (b ++ (93 ∷ x))) ∙ e ∙ after-first v c vs (d ++ (93 ∷ y))) in
      let u = elements-once p q b d x y k l (mark-once a c 44 44 left right n m refl refl r.1).1 in
      (cc (r.0, u.0), u.1)

  member-once : {w v cs ds : List ℕ} {f g : Form} → IsMember w cs f → IsMember v ds g → (x y : List ℕ) → NoMore x → NoMore y → w ++ x ≡ v ++ y → (cs ≡ ds) × (f ≡ g) × (x ≡ y)
  member-once (is_member {v = s} {w} a b k p l i) (is_member {v = t} {w = v} c d m q n j) x y stops ends e =
      let left : List ℕ = b ++ (58 ∷ (w ++ x)) in
      let right : List ℕ = d ++ (58 ∷ (v ++ y)) in
      let o : a ++ (s ++ left) ≡ c ++ (t ++ right) = sym (member-text a s b w x) ∙ e ∙ member-text c t d v y in
      let r = string-once p q left right (past a c (s ++ left) (t ++ right) k m (string-no_blank p left) (string-no_blank q right) o) in
      let u = mark-once b d 58 58 (w ++ x) (v ++ y) l n refl refl r.1 in
      let z = element-once i j x y stops ends u.1 in
      (r.0, z.0, z.1)

  members-once : {w v : List ℕ} {ms ns : Members} → AreMembers w ms → AreMembers v ns → (b d x y : List ℕ) → AreBlanks b → AreBlanks d → w ++ (b ++ (125 ∷ x)) ≡ v ++ (d ++ (125 ∷ y)) → (ms ≡ ns) × (x ≡ y)
  members-once no_member no_member b d x y k l e = (refl, (mark-once b d 125 125 x y k l refl refl e).1)
  members-once no_member (one_member j) b d x y k l e = absurd (no_member-here j b x (d ++ (125 ∷ y)) k e)
  members-once no_member (more_members {w = v} {ws = vs} c j m q) b d x y k l e = absurd (no_member-here j b x (c ++ (44 ∷ (vs ++ (d ++ (125 ∷ y))))) k (e ∙ after-first v c vs (d ++ (125 ∷ y))))
  members-once (one_member i) no_member b d x y k l e = absurd (no_member-here i d y (b ++ (125 ∷ x)) l (sym e))
  members-once (one_member i) (one_member j) b d x y k l e =
      let r = member-once i j (b ++ (125 ∷ x)) (d ++ (125 ∷ y)) (blanks-stop b (125 ∷ x) k refl) (blanks-stop d (125 ∷ y) l refl) e in
      (cc (r.0, r.1), (mark-once b d 125 125 x y k l refl refl r.2).1)
  members-once (one_member i) (more_members {w = v} {ws = vs} c j m q) b d x y k l e =
      let rest : List ℕ = vs ++ (d ++ (125 ∷ y)) in
      let r = member-once i j (b ++ (125 ∷ x)) (c ++ (44 ∷ rest)) (blanks-stop b (125 ∷ x) k refl) (blanks-stop c (44 ∷ rest) m refl) (e ∙ after-first v c vs (d ++ (125 ∷ y))) in
      let z : 125 ≡ 44 = (mark-once b c 125 44 x rest k m refl refl r.2).0 in
      absurd (omega (arith, z))
  members-once (more_members {w} {ws} a i n p) no_member b d x y k l e = absurd (no_member-here i d y (a ++ (44 ∷ (ws ++ (b ++ (125 ∷ x))))) l (sym e ∙ after-first w a ws (b ++ (125 ∷ x))))
  members-once (more_members {w} {ws} a i n p) (one_member j) b d x y k l e =
      let rest : List ℕ = ws ++ (b ++ (125 ∷ x)) in
      let r = member-once i j (a ++ (44 ∷ rest)) (d ++ (125 ∷ y)) (blanks-stop a (44 ∷ rest) n refl) (blanks-stop d (125 ∷ y) l refl) (sym (after-first w a ws (b ++ (125 ∷ x))) ∙ e) in
      let z : 44 ≡ 125 = (mark-once a d 44 125 rest y n l refl refl r.2).0 in
      absurd (omega (arith, z))
  members-once (more_members {w} {ws} a i n p) (more_members {w = v} {ws = vs} c j m q) b d x y k l e =
      let left : List ℕ = ws ++ (b ++ (125 ∷ x)) in
      let right : List ℕ = vs ++ (d ++ (125 ∷ y)) in
      let r = member-once i j (a ++ (44 ∷ left)) (c ++ (44 ∷ right)) (blanks-stop a (44 ∷ left) n refl) (blanks-stop c (44 ∷ right) m refl) (sym (after-first w a ws (b ++ (125 ∷ x))) ∙ e ∙ after-first v c vs (d ++ (125 ∷ y))) in
      let u = members-once p q b d x y k l (mark-once a c 44 44 left right n m refl refl r.2).1 in
      (cc (r.0, r.1, u.0), u.1)

none_after : (b : List ℕ) → AreBlanks b → NoMore b
none_after [] k = tt
none_after (c ∷ b) k = blank-no_more c k.0

-- a text is one value at most
pub json-once : (text : List ℕ) (f g : Form) → IsJson text f → IsJson text g → f ≡ g
json-once text f g i j =
    let e : i.element ++ i.after ≡ j.element ++ j.after = sym i.all ∙ j.all in
    (element-once i.is j.is i.after j.after (none_after i.after i.blank) (none_after j.after j.blank) e).0

-- no two values are written alike
pub written-once : (f g : Form) → AreNumbers f → AreNumbers g → written f ≡ written g → f ≡ g
written-once f g h k e = json-once (written g) f g (subst (λ z. IsJson z f) e (written-is f h)) (written-is g k)
