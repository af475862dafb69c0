-- Of one text one number at most is the beginning, where nothing goes on with it.
-- Main laws: front, number-begins, number-split. Read first: JsonNumbers.antt.
use Rattle.std.proofs.Common.{◌≡◌, ℕ, Bool, true, false, cond, nat_eq, ◌||◌, List, [], ◌∷◌, ◌++◌, append_assoc, refl, sym, ◌∙◌, ap, arith, inl, inr}
use Rattle.std.specs.Prelude.{◌⊎◌, drop, ◌==◌}
use Rattle.std.specs.Char.{is_digit}
use Rattle.std.proofs.lemmas.Bool.Decides.{nat_tests}
use Rattle.chumsky_parser.specs.Words.{AllPass, StopsAt}
use Rattle.chumsky_text.specs.Decimals.{IsInt}
use Rattle.chumsky_exact.specs.TableLaws.{both_false}
use Rattle.exact.specs.JsonNumbers.{AreDigits, digits, IsMinus, no_minus, minus, IsSign, no_sign, plus_sign, minus_sign, IsFraction, no_fraction, fraction, IsExponent, no_exponent, exponent, IsNumberText, is_number_text, begins_number, number_goes_on}

abbrev digit : ℕ → Bool
digit c = is_digit c 10

-- what passes up to where none does is one alone
pub front : (test : ℕ → Bool) (w v x y : List ℕ) → AllPass test w → AllPass test v → StopsAt test x → StopsAt test y → w ++ x ≡ v ++ y → (w ≡ v) × (x ≡ y)
front test [] [] x y p q s t e = (refl, e)
front test [] (d ∷ v) [] y p q s t e = absurd (cc e)
front test [] (d ∷ v) (c ∷ x) y p q s t e = let h : c ≡ d = cc e in let b : test c ≡ true = ap test h ∙ q.0 in let z : true ≡ false = sym b ∙ s in absurd (cc z)
front test (c ∷ w) [] x [] p q s t e = absurd (cc e)
front test (c ∷ w) [] x (d ∷ y) p q s t e = let h : c ≡ d = cc e in let b : test d ≡ true = ap test (sym h) ∙ p.0 in let z : true ≡ false = sym b ∙ t in absurd (cc z)
front test (c ∷ w) (d ∷ v) x y p q s t e =
    let h : c ≡ d = cc e in
    let k : w ++ x ≡ v ++ y = cc e in
    let r = front test w v x y p.1 q.1 s t k in
    let a : w ≡ v = r.0 in
    (cc (h, a), r.1)

-- the digits before a fraction are digits
int-digits : (w : List ℕ) → IsInt w → AllPass digit w
int-digits [] i = absurd i
int-digits (c ∷ cs) i = (i.0, each cs i.1)
  where
    by_zero : (d : ℕ) (z : Bool) → cond z false (is_digit d 10) ≡ true → is_digit d 10 ≡ true
    by_zero d true e = absurd (cc e)
    by_zero d false e = e

    each : (ds : List ℕ) → AllPass (λ d. cond (nat_eq c 48) false (is_digit d 10)) ds → AllPass digit ds
    each [] p = tt
    each (d ∷ ds) p = (by_zero d (nat_eq c 48) p.0, each ds p.1)

are-digits : {w : List ℕ} → AreDigits w → AllPass digit w
are-digits (digits d ds p) = p

-- what follows a number: no digit, no point, and no letter of an exponent
pub no_digit : (x : List ℕ) → StopsAt number_goes_on x → StopsAt digit x
no_digit [] s = tt
no_digit (c ∷ cs) s = (both_false (is_digit c 10) ((c == 46) || ((c == 101) || (c == 69))) s).0

abbrev pub is_e : ℕ → Bool
is_e c = (c == 101) || (c == 69)

abbrev pub is_point : ℕ → Bool
is_point c = c == 46

pub no_more : (x : List ℕ) → StopsAt number_goes_on x → StopsAt is_point x × StopsAt is_e x
no_more [] s = (tt, tt)
no_more (c ∷ cs) s = both_false (c == 46) ((c == 101) || (c == 69)) (both_false (is_digit c 10) ((c == 46) || ((c == 101) || (c == 69))) s).1

pub letter_is : (c : ℕ) → is_e c ≡ true → (c ≡ 101) ⊎ (c ≡ 69)
letter_is c e = grind (arith, nat_tests)

pub letter-other : (c : ℕ) → is_e c ≡ true → (is_digit c 10 ≡ false) × (is_point c ≡ false)
letter-other c e = elim (letter_is c e) [ inl h ↦ rw h (refl, refl) | inr h ↦ rw h (refl, refl) ]

-- an exponent, and what follows, begins with no digit and no point
exponent-stops : {w : List ℕ} → IsExponent w → (x : List ℕ) → StopsAt number_goes_on x → StopsAt digit (w ++ x) × StopsAt is_point (w ++ x)
exponent-stops no_exponent x s = (no_digit x s, (no_more x s).0)
exponent-stops (exponent e l g d) x s = letter-other e l

fraction-stops : {w : List ℕ} → IsFraction w → (x : List ℕ) → StopsAt digit x → StopsAt digit (w ++ x)
fraction-stops no_fraction x s = s
fraction-stops (fraction d) x s = refl

-- a sign, and digits after it
signed-once : {s t : List ℕ} → IsSign s → IsSign t → (w v x y : List ℕ) → AreDigits w → AreDigits v → StopsAt digit x → StopsAt digit y → s ++ (w ++ x) ≡ t ++ (v ++ y) → (s ++ w ≡ t ++ v) × (x ≡ y)
signed-once no_sign no_sign w v x y a b p q e = front digit w v x y (are-digits a) (are-digits b) p q e
signed-once plus_sign plus_sign w v x y a b p q e = let r = front digit w v x y (are-digits a) (are-digits b) p q (ap (drop 1) e) in (ap (λ z. 43 ∷ z) r.0, r.1)
signed-once minus_sign minus_sign w v x y a b p q e = let r = front digit w v x y (are-digits a) (are-digits b) p q (ap (drop 1) e) in (ap (λ z. 45 ∷ z) r.0, r.1)
signed-once no_sign plus_sign w v x y (digits d ds a) b p q e = let h : d ≡ 43 = cc e in let z : false ≡ true = ap digit (sym h) ∙ a.0 in absurd (cc z)
signed-once no_sign minus_sign w v x y (digits d ds a) b p q e = let h : d ≡ 45 = cc e in let z : false ≡ true = ap digit (sym h) ∙ a.0 in absurd (cc z)
signed-once plus_sign no_sign w v x y a (digits d ds b) p q e = let h : 43 ≡ d = cc e in let z : false ≡ true = ap digit h ∙ b.0 in absurd (cc z)
signed-once minus_sign no_sign w v x y a (digits d ds b) p q e = let h : 45 ≡ d = cc e in let z : false ≡ true = ap digit h ∙ b.0 in absurd (cc z)
signed-once plus_sign minus_sign w v x y a b p q e = let h : ◌≡◌ {A = ℕ} 43 45 = cc e in absurd (omega (arith, h))
signed-once minus_sign plus_sign w v x y a b p q e = let h : ◌≡◌ {A = ℕ} 45 43 = cc e in absurd (omega (arith, h))

-- no exponent stands where no letter of one does
no_exponent-here : (x y : List ℕ) (e : ℕ) → is_e e ≡ true → StopsAt is_e x → x ≡ e ∷ y → ⊥
no_exponent-here [] y e l s h = absurd (cc h)
no_exponent-here (c ∷ cs) y e l s h = let k : c ≡ e = cc h in let z : true ≡ false = sym l ∙ ap is_e (sym k) ∙ s in absurd (cc z)

exponent-once : {w v : List ℕ} → IsExponent w → IsExponent v → (x y : List ℕ) → StopsAt number_goes_on x → StopsAt number_goes_on y → w ++ x ≡ v ++ y → w ≡ v
exponent-once no_exponent no_exponent x y p q h = refl
exponent-once no_exponent (exponent {s} {w} e l g d) x y p q h = absurd (no_exponent-here x ((s ++ w) ++ y) e l (no_more x p).1 h)
exponent-once (exponent {s} {w} e l g d) no_exponent x y p q h = absurd (no_exponent-here y ((s ++ w) ++ x) e l (no_more y q).1 (sym h))
exponent-once (exponent {s} {w} e l g d) (exponent {s = t} {w = v} f m i c) x y p q h =
    let k : e ≡ f = cc h in
    let r : (s ++ w) ++ x ≡ (t ++ v) ++ y = ap (drop 1) h in
    let a : s ++ w ≡ t ++ v = (signed-once g i w v x y d c (no_digit x p) (no_digit y q) (sym (append_assoc s w x) ∙ r ∙ append_assoc t v y)).0 in
    cc (k, a)

-- a fraction, before what begins with no digit and no point
fraction-once : {w v : List ℕ} → IsFraction w → IsFraction v → (x y : List ℕ) → StopsAt digit x × StopsAt is_point x → StopsAt digit y × StopsAt is_point y → w ++ x ≡ v ++ y → (w ≡ v) × (x ≡ y)
fraction-once no_fraction no_fraction x y p q h = (refl, h)
fraction-once no_fraction (fraction d) [] y p q h = absurd (cc h)
fraction-once no_fraction (fraction d) (c ∷ x) y p q h = let k : c ≡ 46 = cc h in let z : true ≡ false = ap is_point (sym k) ∙ p.1 in absurd (cc z)
fraction-once (fraction d) no_fraction x [] p q h = absurd (cc h)
fraction-once (fraction d) no_fraction x (c ∷ y) p q h = let k : 46 ≡ c = cc h in let z : true ≡ false = ap is_point k ∙ q.1 in absurd (cc z)
fraction-once (fraction {w} d) (fraction {w = v} c) x y p q h = let r = front digit w v x y (are-digits d) (are-digits c) p.0 q.0 (ap (drop 1) h) in (ap (λ z. 46 ∷ z) r.0, r.1)

-- a minus, before a digit
minus-once : {w v : List ℕ} → IsMinus w → IsMinus v → (i j x y : List ℕ) → IsInt i → IsInt j → w ++ (i ++ x) ≡ v ++ (j ++ y) → (w ≡ v) × (i ++ x ≡ j ++ y)
minus-once no_minus no_minus i j x y a b h = (refl, h)
minus-once minus minus i j x y a b h = (refl, ap (drop 1) h)
minus-once no_minus minus [] j x y a b h = absurd a
minus-once no_minus minus (c ∷ cs) j x y a b h = let k : c ≡ 45 = cc h in let z : false ≡ true = ap digit (sym k) ∙ a.0 in absurd (cc z)
minus-once minus no_minus i [] x y a b h = absurd b
minus-once minus no_minus i (c ∷ cs) x y a b h = let k : 45 ≡ c = cc h in let z : false ≡ true = ap digit k ∙ b.0 in absurd (cc z)

-- a number, and what follows, part by part
parted : (m i f e x : List ℕ) → (m ++ (i ++ (f ++ e))) ++ x ≡ m ++ (i ++ (f ++ (e ++ x)))
parted m i f e x = append_assoc m (i ++ (f ++ e)) x ∙ ap (λ z. m ++ z) (append_assoc i (f ++ e) x ∙ ap (λ z. i ++ z) (append_assoc f e x))

-- what follows the same is the same
rest-same : (w x y : List ℕ) → w ++ x ≡ w ++ y → x ≡ y
rest-same [] x y e = e
rest-same (c ∷ cs) x y e = rest-same cs x y (ap (drop 1) e)

-- two numbers that begin one text are one, where neither goes on
pub number-split : {w v : List ℕ} → IsNumberText w → IsNumberText v → (x y : List ℕ) → StopsAt number_goes_on x → StopsAt number_goes_on y → w ++ x ≡ v ++ y → (w ≡ v) × (x ≡ y)
number-split (is_number_text {m} {f} {e} i a b c d) (is_number_text {m = n} {f = g} {e = h} j p q r s) x y k l t =
    let u : m ++ (i ++ (f ++ (e ++ x))) ≡ n ++ (j ++ (g ++ (h ++ y))) = sym (parted m i f e x) ∙ t ∙ parted n j g h y in
    let one = minus-once a p i j (f ++ (e ++ x)) (g ++ (h ++ y)) b q u in
    let after = exponent-stops d x k in
    let there = exponent-stops s y l in
    let two = front digit i j (f ++ (e ++ x)) (g ++ (h ++ y)) (int-digits i b) (int-digits j q) (fraction-stops c (e ++ x) after.0) (fraction-stops r (h ++ y) there.0) one.1 in
    let three = fraction-once c r (e ++ x) (h ++ y) after there two.1 in
    let z : e ≡ h = exponent-once d s x y k l three.1 in
    let last : e ++ x ≡ e ++ y = three.1 ∙ ap (λ u. u ++ y) (sym z) in
    let o : m ≡ n = one.0 in
    let v : i ≡ j = two.0 in
    let w : f ≡ g = three.0 in
    (cc (o, v, w, z), rest-same e x y last)

-- a number begins with a digit or a minus
pub number-begins : {w : List ℕ} → IsNumberText w → (c : ℕ) × (cs : List ℕ) × (w ≡ c ∷ cs) × (begins_number c ≡ true)
number-begins (is_number_text {f} {e} i minus b c d) = (45, i ++ (f ++ e), refl, refl)
number-begins (is_number_text {f} {e} i no_minus b c d) = by_digits i b
  where
    by_digits : (i : List ℕ) → IsInt i → (c : ℕ) × (cs : List ℕ) × (i ++ (f ++ e) ≡ c ∷ cs) × (begins_number c ≡ true)
    by_digits [] h = absurd h
    by_digits (c ∷ cs) h = (c, cs ++ (f ++ e), refl, let z : is_digit c 10 ≡ true = h.0 in rw z refl)
