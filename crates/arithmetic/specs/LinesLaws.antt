-- What lines come to is what sums do, and each word of the rule is a line.
-- Main words: leaves, sums. Main laws: total-sum, sum-line, comes-once, sound. Read first: Lines.antt, EachWord.antt of chumsky_grammars.
use Rattle.std.proofs.Common.{◌≡◌, ℕ, ℤ, ◌<◌, ◌^◌, Bool, true, false, cond, nat_lt, Option, Some, None, List, [], ◌∷◌, ◌++◌, length, refl, sym, ◌∙◌, ap, subst, arith, append_assoc}
use Rattle.std.proofs.lemmas.Bool.Decides.{nat_tests}
use Rattle.std.proofs.lemmas.List.{append-nil, reverse-append}
use Rattle.std.proofs.lemmas.Str.Parse.{digit_from_value}
use Rattle.std.specs.Prelude.{pos, reverse, ⊤, codes}
use Rattle.std.specs.Borrow.{Bor}
use Rattle.std.specs.Char.{digit_value, is_digit, is_whitespace}
use Rattle.std.specs.Option.{SomeIff}
use Rattle.std.specs.Str.Parse.{IsNumeral, digits_value}
use Rattle.chumsky_parser.specs.Language.{Language}
use Rattle.chumsky_parser.specs.Slices.{IsSliceOf}
use Rattle.chumsky_parser.specs.Words.{Joined}
use Rattle.chumsky_combinator.specs.MappedLanguage.{map_language}
use Rattle.chumsky_text.specs.Decimals.{TextSlice, digits-numeral, numeral-bytes, slice-bytes}
use Rattle.chumsky_text.specs.TextLanguage.{word_language, padded_language}
use Rattle.chumsky_grammars.specs.BuiltLeaves.{BuiltLeaf, with_language, one_of_by, leaf_language, one_of-is}
use Rattle.chumsky_grammars.specs.EachWord.{Apart, OfRule, Keeps}
use Rattle.chumsky_grammars.specs.RuleLanguage.{Makes}
use Rattle.arithmetic.specs.declared.exact_sum.Before.{Before}
use Rattle.arithmetic.specs.declared.exact_sum.Running.{Running}
use Rattle.arithmetic.specs.declared.exact_sum.Signed.{Signed}
use Rattle.arithmetic.specs.declared.exact_sum.Piece.{Piece}
use Rattle.arithmetic.specs.declared.exact_sum.Piece.TheVariants as piece
use Rattle.arithmetic.specs.Steps.{signed, CanSign, made_by, CanMake}
use Rattle.arithmetic.specs.Sums.{IsMade, IsNegative, adds, multiplies, AreBlanks, IsSum, IsProduct, IsPart}
use Rattle.arithmetic.specs.Sums.IsSum.{one_product, more_products}
use Rattle.arithmetic.specs.Sums.IsProduct.{one_part, more_parts}
use Rattle.arithmetic.specs.Sums.IsPart.{number, negative, brackets, after_blanks, before_blanks}
use Rattle.arithmetic.specs.Lines.{is_sign, IsClosedAfter, IsClosed, IsStepped, ComesTo, from_part, IsPair, IsOption, IsRead, AreSteps, Line, IsLine, steps_expression, sum_expression}
use Rattle.arithmetic.specs.Lines.AreSteps.{none, step}

-- each sign is of a sum or of a product, and no digit
adds-sign : (c : ℕ) → adds c ≡ true → is_sign c ≡ true
adds-sign c a = grind (arith, nat_tests)

multiplies-sign : (c : ℕ) → multiplies c ≡ true → is_sign c ≡ true
multiplies-sign c m = grind (arith, nat_tests)

multiplies-only : (c : ℕ) → multiplies c ≡ true → adds c ≡ false
multiplies-only c m = grind (arith, nat_tests)

sign-multiplies : (c : ℕ) → is_sign c ≡ true → adds c ≡ false → multiplies c ≡ true
sign-multiplies c s a = grind (arith, nat_tests)

pub sign-no_digit : (c : ℕ) → is_sign c ≡ true → is_digit c 10 ≡ false
sign-no_digit c s = by_test (is_digit c 10) refl
  where
    by_test : (b : Bool) → is_digit c 10 ≡ b → b ≡ false
    by_test true e =
        let m : nat_lt (digit_value c) 10 ≡ true = e in
        let l : digit_value c < 10 = grind (arith, nat_tests) in
        let r = digit_from_value c l in
        absurd (grind (arith, nat_tests))
    by_test false e = refl

-- what a line comes to is the value of a sum: after the products before it, whose text stands before
onward : (t q : List ℕ) (c : ℕ) (w : List ℕ) → (t ++ (q ++ (c ∷ []))) ++ w ≡ t ++ (q ++ (c ∷ w))
onward t q c w = append_assoc t (q ++ (c ∷ [])) w ∙ ap (λ z. t ++ z) (append_assoc q (c ∷ []) w)

-- a text after which a product makes a sum
abbrev Goes : Option Before → List ℕ → Type 0
Goes b t = (w : List ℕ) (x z : Option ℤ) → IsProduct w x → IsClosedAfter b x z → IsSum (t ++ w) z

goes_on : (b : Option Before) (t q : List ℕ) (x y : Option ℤ) (c : ℕ) → adds c ≡ true → Goes b t → IsProduct q x → IsClosedAfter b x y
    → Goes (Some (record { sum = y; sign = c })) (t ++ (q ++ (c ∷ [])))
goes_on b t q x y c a h i d w v z j m = subst (λ s. IsSum s z) (append_assoc t q (c ∷ w) ∙ sym (onward t q c w)) (more_products c a (h q x y i d) j m)

-- so much of a line makes a sum of what is left of it
abbrev GoesOn : List ℕ → List Signed → Type 0
GoesOn r ss = (e : Running) (t q : List ℕ) (z : Option ℤ) → Goes e.before t → IsProduct q e.product → ComesTo e ss z → IsSum (t ++ (q ++ r)) z

line-sum : {r : List ℕ} {ss : List Signed} → AreSteps r ss → GoesOn r ss
line-sum none e t q z h i d = rw (append-nil q) (h q e.product z i d)
line-sum (step {p} {r} {x = y} {ss} c o k a) e t q z h i (f, d, j) = by_kind (adds c) refl d (line-sum a)
  where
    by_kind : (s : Bool) → adds c ≡ s
        → cond s ((v : Option ℤ) × IsClosed e v × (f ≡ record { before = Some (record { sum = v; sign = c }); product = y }))
        ((v : Option ℤ) × IsMade e.product c y v × (f ≡ record { before = e.before; product = v }))
        → GoesOn r ss → IsSum (t ++ (q ++ (c ∷ (p ++ r)))) z
    by_kind true g d again =
        let b : Before = record { sum = d.0; sign = c } in
        let j' : ComesTo (record { before = Some b; product = y }) ss z = subst (λ u. ComesTo u ss z) d.2 j in
        subst (λ s. IsSum s z) (onward t q c (p ++ r))
        (again (record { before = Some b; product = y }) (t ++ (q ++ (c ∷ []))) p z (goes_on e.before t q e.product d.0 c g h i d.1) (one_part k) j')
    by_kind false g d again =
        let j' : ComesTo (record { before = e.before; product = d.0 }) ss z = subst (λ u. ComesTo u ss z) d.2 j in
        subst (λ s. IsSum (t ++ s) z) (append_assoc q (c ∷ p) r)
        (again (record { before = e.before; product = d.0 }) t (q ++ (c ∷ p)) z h (more_parts c (sign-multiplies c o g) i k d.1) j')

pub total-sum : {w : List ℕ} {x z : Option ℤ} {ss : List Signed} → Line w x ss → ComesTo (from_part x) ss z → IsSum w z
total-sum {x = x} {z = z} l d =
    subst (λ s. IsSum s z) (sym l.all) (line-sum l.are_steps (from_part x) [] l.part z (λ w v u i e. subst (λ y. IsSum w y) (sym e) (one_product i)) (one_part l.is_part) d)

-- and each sum is a line: lines, with a sign between them, are one
steps-on : {r w : List ℕ} {ss ts : List Signed} {x : Option ℤ} → AreSteps r ss → (c : ℕ) → is_sign c ≡ true → Line w x ts → AreSteps (r ++ (c ∷ w)) (ss ++ (record { sign = c; number = x } ∷ ts))
steps-on none c o l = rw l.all (step c o l.is_part l.are_steps)
steps-on {w = w} (step {p} {r} d k i a) c o l = rw (append_assoc p r (c ∷ w)) (step d k i (steps-on a c o l))

lines-joined : {u w : List ℕ} {x y : Option ℤ} {ss ts : List Signed} → Line u x ss → (c : ℕ) → is_sign c ≡ true → Line w y ts
    → Line (u ++ (c ∷ w)) x (ss ++ (record { sign = c; number = y } ∷ ts))
lines-joined {w = w} l c o m = record {
  part = l.part;
  rest = l.rest ++ (c ∷ w);
  all = ap (λ z. z ++ (c ∷ w)) l.all ∙ append_assoc l.part l.rest (c ∷ w);
  is_part = l.is_part;
  are_steps = steps-on l.are_steps c o m;
}

part-line : {w : List ℕ} {x : Option ℤ} → IsPart w x → Line w x []
part-line {w} i = record { part = w; rest = []; all = sym (append-nil w); is_part = i; are_steps = none }

-- of each two things
pub some-once : {T : Type 0} (P : Type 0) (v : T) (y z : Option T) → SomeIff y P v → SomeIff z P v → y ≡ z
some-once P v (Some y) (Some z) h k = ap Some (h.1 ∙ sym k.1)
some-once P v (Some y) None h k = absurd (k h.0)
some-once P v None (Some z) h k = absurd (h k.0)
some-once P v None None h k = refl

made-once : (x : Option ℤ) (c : ℕ) (y : Option ℤ) {p q : Option ℤ} → IsMade x c y p → IsMade x c y q → p ≡ q
made-once (Some a) c (Some b) {p} {q} h k = some-once (CanMake c a b) (made_by c a b) p q h k
made-once (Some a) c None h k = h ∙ sym k
made-once None c y h k = h ∙ sym k

pub negative-once : (x : Option ℤ) {p q : Option ℤ} → IsNegative x p → IsNegative x q → p ≡ q
negative-once (Some a) {p} {q} h k = some-once (CanSign 45 a) (signed 45 a) p q h k
negative-once None h k = h ∙ sym k

closed-once : (b : Option Before) (x : Option ℤ) {p q : Option ℤ} → IsClosedAfter b x p → IsClosedAfter b x q → p ≡ q
closed-once (Some b) x h k = made-once b.sum b.sign x h k
closed-once None x h k = h ∙ sym k

stepped-once : (r : Running) (s : Signed) (p q : Running) → IsStepped r s p → IsStepped r s q → p ≡ q
stepped-once r s p q h k = by_kind (adds s.sign) h k
  where
    by_kind : (b : Bool)
        → cond b ((y : Option ℤ) × IsClosed r y × (p ≡ record { before = Some (record { sum = y; sign = s.sign }); product = s.number }))
        ((y : Option ℤ) × IsMade r.product s.sign s.number y × (p ≡ record { before = r.before; product = y }))
        → cond b ((y : Option ℤ) × IsClosed r y × (q ≡ record { before = Some (record { sum = y; sign = s.sign }); product = s.number }))
        ((y : Option ℤ) × IsMade r.product s.sign s.number y × (q ≡ record { before = r.before; product = y }))
        → p ≡ q
    by_kind true h k =
        let after : Option ℤ → Running = λ y. record { before = Some (record { sum = y; sign = s.sign }); product = s.number } in
        h.2 ∙ (ap after (closed-once r.before r.product h.1 k.1) ∙ sym k.2)
    by_kind false h k =
        let after : Option ℤ → Running = λ y. record { before = r.before; product = y } in
        h.2 ∙ (ap after (made-once r.product s.sign s.number h.1 k.1) ∙ sym k.2)

pub comes-once : (ss : List Signed) (r : Running) {y z : Option ℤ} → ComesTo r ss y → ComesTo r ss z → y ≡ z
comes-once [] r h k = closed-once r.before r.product h k
comes-once (s ∷ ss) r {y} h k = comes-once ss k.0 (subst (λ p. ComesTo p ss y) (stepped-once r s h.0 k.0 h.1 k.1) h.2) k.2

-- and that line comes to what the sum does: first, how far steps go
abbrev Runs : Running → List Signed → Running → Type 0
Runs r [] q = q ≡ r
Runs r (s ∷ ss) q = (p : Running) × IsStepped r s p × Runs p ss q

runs-on : (ss ts : List Signed) (r p q : Running) → Runs r ss p → Runs p ts q → Runs r (ss ++ ts) q
runs-on [] ts r p q h k = subst (λ z. Runs z ts q) h k
runs-on (s ∷ ss) ts r p q h k = (h.0, h.1, runs-on ss ts h.0 p q h.2 k)

runs-comes : (ss : List Signed) (r q : Running) (z : Option ℤ) → Runs r ss q → IsClosed q z → ComesTo r ss z
runs-comes [] r q z h k = subst (λ p. IsClosed p z) h k
runs-comes (s ∷ ss) r q z h k = (h.0, h.1, runs-comes ss h.0 q z h.2 k)

abbrev after : Option Before → Option ℤ → Running
after b x = record { before = b; product = x }

product-runs : {w : List ℕ} {y : Option ℤ} → IsProduct w y → (x : Option ℤ) × (ss : List Signed) × Line w x ss × ((b : Option Before) → Runs (after b x) ss (after b y))
product-runs (one_part {x = x} i) = (x, [], part-line i, λ b. refl)
product-runs (more_parts {x = x} {y = y} {z = z} c m i j e) =
    let h = product-runs i in
    let s : Signed = record { sign = c; number = y } in
    (h.0, h.1 ++ (s ∷ []), lines-joined h.2 c (multiplies-sign c m) (part-line j), λ b. runs-on h.1 (s ∷ []) (after b h.0) (after b x) (after b z) (h.3 b) (after b z, rw (multiplies-only c m) (z, e, refl), refl))

sum-runs : {w : List ℕ} {z : Option ℤ} → IsSum w z → (x : Option ℤ) × (ss : List Signed) × (q : Running) × Line w x ss × Runs (from_part x) ss q × IsClosed q z
sum-runs (one_product {x = y} i) = let h = product-runs i in (h.0, h.1, after None y, h.2, h.3 None, refl)
sum-runs (more_products {x = x} {y = y} c a i j e) =
    let h = sum-runs i in
    let k = product-runs j in
    let b : Option Before = Some (record { sum = x; sign = c }) in
    let s : Signed = record { sign = c; number = k.0 } in
    (h.0, h.1 ++ (s ∷ k.1), after b y, lines-joined h.3 c (adds-sign c a) k.2, runs-on h.1 (s ∷ k.1) (from_part h.0) h.2 (after b y) h.4 (after b k.0, rw a (x, h.5, refl), k.3 b), e)

pub sum-line : {w : List ℕ} {z : Option ℤ} → IsSum w z → (x : Option ℤ) × (ss : List Signed) × Line w x ss × ComesTo (from_part x) ss z
sum-line {z = z} i = let h = sum-runs i in (h.0, h.1, h.3, runs-comes h.1 (from_part h.0) h.2 z h.4 h.5)

-- blanks before a line are of its first part, and those after a sum of its last part
line-after : {w : List ℕ} {x : Option ℤ} {ss : List Signed} (b : List ℕ) → AreBlanks b → Line w x ss → Line (b ++ w) x ss
line-after b k l = record { part = b ++ l.part; rest = l.rest; all = ap (λ z. b ++ z) l.all ∙ sym (append_assoc b l.part l.rest); is_part = after_blanks b k l.is_part; are_steps = l.are_steps }

product-before : {w : List ℕ} {x : Option ℤ} (b : List ℕ) → AreBlanks b → IsProduct w x → IsProduct (w ++ b) x
product-before b k (one_part i) = one_part (before_blanks b k i)
product-before b k (more_parts {u} {w} c m i j e) = rw (append_assoc u (c ∷ w) b) (more_parts c m i (before_blanks b k j) e)

sum-before : {w : List ℕ} {x : Option ℤ} (b : List ℕ) → AreBlanks b → IsSum w x → IsSum (w ++ b) x
sum-before b k (one_product i) = one_product (product-before b k i)
sum-before b k (more_products {u} {w} c a i j e) = rw (append_assoc u (c ∷ w) b) (more_products c a i (product-before b k j) e)

-- a minus before a line makes its first part negative
line-negative : {w : List ℕ} {x y : Option ℤ} {ss : List Signed} → Line w x ss → IsNegative x y → Line (45 ∷ w) y ss
line-negative l n = record { part = 45 ∷ l.part; rest = l.rest; all = ap (λ z. 45 ∷ z) l.all; is_part = negative l.is_part n; are_steps = l.are_steps }

-- a character with blanks around it
record Marked (c : ℕ) (w : List ℕ) : Type 0 where
  before : List ℕ
  after : List ℕ
  all : w ≡ before ++ (c ∷ after)
  blank_before : AreBlanks before
  blank_after : AreBlanks after

-- what has blanks around it
abbrev Padded : (List ℕ → Type 0) → List ℕ → Type 0
Padded P = Joined AreBlanks (Joined P AreBlanks)

padded-all : {P : List ℕ → Type 0} {w : List ℕ} (j : Padded P w) → w ≡ j.first ++ (j.is_second.first ++ j.is_second.second)
padded-all j = j.all ∙ ap (λ z. j.first ++ z) j.is_second.all

marked : {P : List ℕ → Type 0} {w : List ℕ} (c : ℕ) (j : Padded P w) → j.is_second.first ≡ c ∷ [] → Marked c w
marked c j e = record {
  before = j.first;
  after = j.is_second.second;
  all = padded-all j ∙ ap (λ z. j.first ++ (z ++ j.is_second.second)) e;
  blank_before = j.is_first;
  blank_after = j.is_second.is_second;
}

marked-then : {c : ℕ} {w : List ℕ} (m : Marked c w) (rest : List ℕ) → w ++ rest ≡ m.before ++ (c ∷ (m.after ++ rest))
marked-then {c} m rest = ap (λ z. z ++ rest) m.all ∙ append_assoc m.before (c ∷ m.after) rest

-- a line between brackets is a part
bracketed : {u w r : List ℕ} {x z : Option ℤ} {ss : List Signed} → Marked 40 u → Line w x ss → ComesTo (from_part x) ss z → Marked 41 r → IsPart (u ++ (w ++ r)) z
bracketed {u} {w} {r} {z = z} o l d c =
    let inside : List ℕ = (o.after ++ w) ++ c.before in
    let i : IsSum inside z = sum-before c.before c.blank_before (total-sum (line-after o.after o.blank_after l) d) in
    let e : o.after ++ (w ++ r) ≡ (inside ++ (41 ∷ [])) ++ c.after =
    sym (append_assoc o.after w r)
    ∙ (ap (λ y. (o.after ++ w) ++ y) c.all ∙ (sym (append_assoc (o.after ++ w) c.before (41 ∷ c.after)) ∙ sym (append_assoc inside (41 ∷ []) c.after))) in
    let f : u ++ (w ++ r) ≡ o.before ++ ((40 ∷ (inside ++ (41 ∷ []))) ++ c.after) = marked-then o (w ++ r) ∙ ap (λ y. o.before ++ (40 ∷ y)) e in
    subst (λ y. IsPart y z) (sym f) (after_blanks o.before o.blank_before (before_blanks c.after c.blank_after (brackets i)))

-- the leaves, with blanks around them: digits, signs, each bracket, and a minus
abbrev pub padded : Language ℕ Piece → Language ℕ Piece
padded = padded_language is_whitespace

abbrev digits_by : ℕ → Language ℕ Piece
digits_by radix = map_language (λ (s : Bor (List ℕ)) v. IsRead s.now v) (word_language (TextSlice (λ (s : Bor (List ℕ)). s.now)) (λ t. is_digit t radix) (λ t c. is_digit c radix))

abbrev pub digits : Language ℕ Piece
digits = digits_by 10

abbrev pub mark : List ℕ → Language ℕ Piece
mark set = leaf_language (one_of_by set (λ c. piece.Mark c))

abbrev pub signs : Language ℕ Piece
signs = mark (codes "+-*/%")

abbrev pub leaves_by : ℕ → List ℕ → List ℕ → List ℕ → List ℕ → List (BuiltLeaf Piece)
leaves_by radix sign opening closing minus =
    with_language (padded (digits_by radix)) ∷ with_language (padded (mark sign))
    ∷ with_language (padded (mark opening)) ∷ with_language (padded (mark closing)) ∷ with_language (padded (mark minus)) ∷ []

abbrev pub leaves : List (BuiltLeaf Piece)
leaves = leaves_by 10 (codes "+-*/%") (codes "(") (codes ")") (codes "-")

abbrev pub sums : Makes ℕ Piece
sums = record { pair = λ _ p v. IsPair p.0 p.1 v; map = λ f v w. w ≡ piece.Minus; option = λ o v. IsOption o v; unit = λ v. ⊤; list = λ vs v. ⊤; picks = None }

-- each word is a line, if those of calls are: first what may follow a part
module _ (call : ℕ → Language ℕ Piece) where
  abbrev Followed : List ℕ → Piece → Type 0
  Followed u v = Apart sums leaves call (OfRule sums leaves call IsLine) steps_expression (λ w y. (z : Piece) → IsPair v y z → IsLine (u ++ w) z)

  followed : (u : List ℕ) (x : Option ℤ) → IsPart u x → Followed u (piece.Part x)
  followed u x i = (
    λ v n z p.
        let q : z ≡ piece.Line x n.0 = (rw n.1 at p) in
        (x, n.0, q, record { part = u; rest = []; all = refl; is_part = i; are_steps = rw n.2 none }),
    λ t g is w y h v m o e z p.
        let f = is.is_second.is_first in
        let c : ℕ = f.1.token in
        let k : Marked c t = marked c is f.1.all in
        let sign : g ≡ piece.Mark c = f.2 ∙ ap (λ d. piece.Mark d) f.1.is in
        let l = line-after k.after k.blank_after h.3 in
        let j = rw (sign, h.2) at m in
        let q : z ≡ piece.Line x j.0 = (rw (e, j.1) at p) in
        let s : Signed = record { sign = c; number = h.0 } in
        let a : AreSteps (c ∷ (k.after ++ w)) (s ∷ reverse h.1.items) =
        subst (λ r. AreSteps (c ∷ r) (s ∷ reverse h.1.items)) (sym l.all) (step c f.1.passes l.is_part l.are_steps) in
        let r : reverse j.0.items ≡ s ∷ reverse h.1.items = ap reverse j.2 ∙ reverse-append h.1.items (s ∷ []) in (
          x,
          j.0,
          q,
          record {
            part = u ++ k.before;
            rest = c ∷ (k.after ++ w);
            all = ap (λ r. u ++ r) (marked-then k w) ∙ sym (append_assoc u k.before (c ∷ (k.after ++ w)));
            is_part = before_blanks k.before k.blank_before i;
            are_steps = subst (AreSteps (c ∷ (k.after ++ w))) (sym r) a;
          },
        ),
  )

-- what is read of a numeral
pub read-value : (w : List ℕ) (v : Piece) → IsNumeral 10 w → (s : Bor (List ℕ)) → IsSliceOf (TextSlice (λ (s : Bor (List ℕ)). s.now)) w s → IsRead s.now v
    → (x : Option ℤ) × (v ≡ piece.Part x) × SomeIff x (digits_value 10 w < 2 ^ 63) (pos (digits_value 10 w))
read-value w v n s is r =
    let b : s.now ≡ w = slice-bytes (λ (s : Bor (List ℕ)). s.now) w s is ∙ numeral-bytes w n in
    let i = rw b at r in
    (i.0, i.1, by_number i.0 (i.2 n.1))
  where
    by_number : (x : Option ℤ) → SomeIff x ((0 < length w) × (digits_value 10 w < 2 ^ 63)) (pos (digits_value 10 w)) → SomeIff x (digits_value 10 w < 2 ^ 63) (pos (digits_value 10 w))
    by_number (Some y) e = (e.0.1, e.1)
    by_number None e = λ l. e (n.0, l)

pub sound : Keeps sums leaves sum_expression IsLine
sound call deeper = (
  (
    λ w v s.
        let d = s.is_second.is_first in
        let n = digits-numeral s.is_second.first d.1.0 in
        let r = read-value s.is_second.first v n d.0 d.1.1 d.2 in
        let i : IsPart w r.0 = subst (λ z. IsPart z r.0) (sym (padded-all s)) (after_blanks s.first s.is_first (before_blanks s.is_second.second s.is_second.is_second (number n r.2))) in
        subst (Followed call w) (sym r.1) (followed call w r.0 i),
    λ u o is w y h r c closes v m z p.
        let opening : Marked 40 u = marked 40 is (one_of-is 40 is.is_second.is_first.1) in
        let closing : Marked 41 r = marked 41 closes (one_of-is 41 closes.is_second.is_first.1) in
        let j = rw h.2 at m in
        let q : z ≡ piece.Part j.0 = (rw (is.is_second.is_first.2, j.1) at p) in
        subst (Followed call (u ++ (w ++ r))) (sym q) (followed call (u ++ (w ++ r)) j.0 (bracketed opening h.3 j.2 closing)),
  ),
  λ u o is b e w y h v p.
      let minus : Marked 45 u = marked 45 is (one_of-is 45 is.is_second.is_first.1) in
      let j = rw (e, h.2) at p in
      let l = line-after minus.before minus.blank_before (line-negative (line-after minus.after minus.blank_after h.3) j.2) in
      (j.0, h.1, j.1, subst (λ z. Line z j.0 (reverse h.1.items)) (sym (marked-then minus w)) l),
)
