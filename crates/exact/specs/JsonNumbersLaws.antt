-- The parser of numbers accepts just these.
-- Main laws: number-sound, number-some, number-complete, number-follow, number-unambiguous, number-fails. Read first: JsonNumbers.antt, JsonNumbersLanguage.antt.
use Rattle.std.proofs.Common.{◌≡◌, ℕ, Bool, true, false, nat_eq, ◌||◌, List, [], ◌∷◌, ◌++◌, append_assoc, refl, sym, ◌∙◌, ap, subst, arith, inl, inr}
use Rattle.std.specs.Prelude.{◌⊎◌, ◌==◌, String, string_bytes, ⊤}
use Rattle.std.specs.Char.{is_digit}
use Rattle.std.specs.Str.{chars, encode_utf8_all}
use Rattle.std.specs.declared.alloc.Global.{Global}
use Rattle.std.proofs.lemmas.Bool.{eqb-true}
use Rattle.std.proofs.lemmas.Bool.Decides.{nat_tests}
use Rattle.std.proofs.lemmas.Str.{chars_from_encodes, IsUtf8-string_bytes}
use Rattle.chumsky_parser.specs.Ending.{DoesNotEnd}
use Rattle.chumsky_parser.specs.Words.{StopsAt}
use Rattle.chumsky_primitive.specs.Literals.{equals-same, same-equals}
use Rattle.chumsky_primitive.specs.OneOf.{among}
use Rattle.chumsky_primitive.specs.PrimitiveLanguage.{one_ends, literal_ends}
use Rattle.chumsky_combinator.specs.OptionalLanguage.{or_not_language}
use Rattle.chumsky_text.specs.Decimals.{IsInt, IsDigits, slice-bytes}
use Rattle.exact.specs.JsonNumbers.{AreDigits, digits, IsMinus, no_minus, minus, IsSign, no_sign, plus_sign, minus_sign, IsFraction, no_fraction, fraction, IsExponent, no_exponent, exponent, IsNumberText, is_number_text, begins_number, number_goes_on}
use Rattle.exact.specs.JsonNumbersLanguage.{fixed, one_among, fraction_language, exponent_language, pointed_language, more_language, whole_language, number_language}
use Rattle.chumsky_exact.specs.TableLaws.{both_false}
use Rattle.exact.specs.JsonNumbersOnce.{is_e, is_point, letter_is, letter-other, no_digit, no_more}
use Rattle.exact.specs.JsonPicksLaws.{both}
use Rattle.chumsky_exact.specs.Numerals.{no_digit-stops}

-- one of two characters
among-two : (a b t : ℕ) → among nat_eq (a ∷ b ∷ []) t ≡ true → (t ≡ a) ⊎ (t ≡ b)
among-two a b t e = by_tests (nat_eq a t) (nat_eq b t) refl refl e
  where
    by_tests : (x y : Bool) → nat_eq a t ≡ x → nat_eq b t ≡ y → (x || (y || false)) ≡ true → (t ≡ a) ⊎ (t ≡ b)
    by_tests true y p q e = inl (sym (eqb-true a t p))
    by_tests false true p q e = inr (sym (eqb-true b t q))
    by_tests false false p q e = absurd (cc e)

among-letters : (t : ℕ) → among nat_eq (101 ∷ 69 ∷ []) t ≡ true → is_e t ≡ true
among-letters t e = elim (among-two 101 69 t e) [ inl h ↦ rw h refl | inr h ↦ rw h refl ]

letters-among : (t : ℕ) → is_e t ≡ true → among nat_eq (101 ∷ 69 ∷ []) t ≡ true
letters-among t e = elim (letter_is t e) [ inl h ↦ rw h refl | inr h ↦ rw h refl ]

-- the words of the parts
minus-is : (w : List ℕ) → (or_not_language (fixed 45)).word w → IsMinus w
minus-is w (inl e) = subst IsMinus (sym (equals-same (45 ∷ []) w e)) minus
minus-is w (inr e) = subst IsMinus (sym e) no_minus

sign-is : (w : List ℕ) → (or_not_language (one_among (43 ∷ 45 ∷ []))).word w → IsSign w
sign-is w (inl o) =
    elim (among-two 43 45 o.token o.passes) [
      | inl h ↦ subst IsSign (sym (o.all ∙ ap (λ z. z ∷ []) h)) plus_sign
      | inr h ↦ subst IsSign (sym (o.all ∙ ap (λ z. z ∷ []) h)) minus_sign
    ]
sign-is w (inr e) = subst IsSign (sym e) no_sign

digits-are : (w : List ℕ) → IsDigits w → AreDigits w
digits-are [] i = absurd i
digits-are (d ∷ ds) i = digits d ds i

fraction-begins : (w : List ℕ) (j : fraction_language.word w) → w ≡ 46 ∷ j.second
fraction-begins w j = both w (46 ∷ []) j.second j (equals-same (46 ∷ []) j.first j.is_first) refl

fraction-is : (w : List ℕ) → fraction_language.word w → IsFraction w
fraction-is w j = subst IsFraction (sym (fraction-begins w j)) (fraction (digits-are j.second j.is_second))

-- an exponent is its letter, its sign and its digits
exponent-parts : (w : List ℕ) (j : exponent_language.word w) → w ≡ j.is_first.is_first.token ∷ (j.is_first.second ++ j.second)
exponent-parts w j =
    let h = j.is_first in
    let t : ℕ = h.is_first.token in
    both w (t ∷ h.second) j.second j (both j.first (t ∷ []) h.second h h.is_first.all refl) refl

exponent-letter : (w : List ℕ) (j : exponent_language.word w) → is_e j.is_first.is_first.token ≡ true
exponent-letter w j = among-letters j.is_first.is_first.token j.is_first.is_first.passes

exponent-is : (w : List ℕ) → exponent_language.word w → IsExponent w
exponent-is w j = subst IsExponent (sym (exponent-parts w j)) (exponent j.is_first.is_first.token (exponent-letter w j) (sign-is j.is_first.second j.is_first.is_second) (digits-are j.second j.is_second))

maybe-exponent : (w : List ℕ) → (or_not_language exponent_language).word w → IsExponent w
maybe-exponent w (inl j) = exponent-is w j
maybe-exponent w (inr e) = subst IsExponent (sym e) no_exponent

-- a fraction and an exponent
abbrev BothOf : List ℕ → Type 0
BothOf w = (f : List ℕ) × (e : List ℕ) × IsFraction f × IsExponent e × (w ≡ f ++ e)

rest-is : (w : List ℕ) → (or_not_language more_language).word w → BothOf w
rest-is w (inl (inl j)) = (j.first, j.second, fraction-is j.first j.is_first, maybe-exponent j.second j.is_second, j.all)
rest-is w (inl (inr j)) = ([], w, no_fraction, exponent-is w j, refl)
rest-is w (inr e) = ([], [], no_fraction, no_exponent, e)

-- each word is a number
pub number-some : (w : List ℕ) → number_language.word w → IsNumberText w
number-some w j =
    let h = j.is_first in
    let r = rest-is j.second j.is_second in
    let e : w ≡ h.first ++ (h.second ++ (r.0 ++ r.1)) = j.all ∙ ap (λ z. z ++ j.second) h.all ∙ append_assoc h.first h.second j.second ∙ ap (λ z. h.first ++ (h.second ++ z)) r.4 in
    subst IsNumberText (sym e) (is_number_text h.second (minus-is h.first h.is_first) h.is_second r.2 r.3)

-- and it stands for itself
pub number-sound : (w : List ℕ) (s : String Global) → number_language.stands_for w s → IsNumberText w × (chars (string_bytes s) ≡ w)
number-sound w s m =
    let e : string_bytes s ≡ encode_utf8_all w = m.2 ∙ slice-bytes (λ t. t.now) w m.0 m.1.1 in
    (number-some w m.1.0, sym (chars_from_encodes w (string_bytes s) (IsUtf8-string_bytes s) (sym e)))

minus-word : {w : List ℕ} → IsMinus w → (or_not_language (fixed 45)).word w
minus-word no_minus = inr refl
minus-word minus = inl (same-equals (45 ∷ []))

sign-word : {w : List ℕ} → IsSign w → (or_not_language (one_among (43 ∷ 45 ∷ []))).word w
sign-word no_sign = inr refl
sign-word plus_sign = inl (record { token = 43; all = refl; passes = refl; is = tt })
sign-word minus_sign = inl (record { token = 45; all = refl; passes = refl; is = tt })

digits-word : {w : List ℕ} → AreDigits w → IsDigits w
digits-word (digits d ds p) = p

exponent-word : {s w : List ℕ} (e : ℕ) → is_e e ≡ true → IsSign s → AreDigits w → exponent_language.word (e ∷ (s ++ w))
exponent-word {s} {w} e l g d = record {
  first = e ∷ s;
  second = w;
  all = refl;
  is_first = record { first = e ∷ []; second = s; all = refl; is_first = record { token = e; all = refl; passes = letters-among e l; is = tt }; is_second = sign-word g };
  is_second = digits-word d;
}

maybe-exponent_word : {w : List ℕ} → IsExponent w → (or_not_language exponent_language).word w
maybe-exponent_word no_exponent = inr refl
maybe-exponent_word (exponent e l g d) = inl (exponent-word e l g d)

rest-word : {f e : List ℕ} → IsFraction f → IsExponent e → (or_not_language more_language).word (f ++ e)
rest-word no_fraction no_exponent = inr refl
rest-word no_fraction (exponent e l g d) = inl (inr (exponent-word e l g d))
rest-word {e} (fraction {w} d) x = inl (inl (record {
  first = 46 ∷ w;
  second = e;
  all = refl;
  is_first = record { first = 46 ∷ []; second = w; all = refl; is_first = same-equals (46 ∷ []); is_second = digits-word d };
  is_second = maybe-exponent_word x;
}))

-- each number is a word
pub number-complete : {w : List ℕ} → IsNumberText w → number_language.word w
number-complete (is_number_text {m} {f} {e} i a b c d) = record {
  first = m ++ i;
  second = f ++ e;
  all = sym (append_assoc m i (f ++ e));
  is_first = record { first = m; second = i; all = refl; is_first = minus-word a; is_second = b };
  is_second = rest-word c d;
}

turned : (a b : ℕ) → nat_eq a b ≡ false → nat_eq b a ≡ false
turned a b e = grind (arith, nat_tests)

-- where no letter of one stands, no exponent is taken, and without a point no fraction
no_exponent-ends : (rest : List ℕ) → StopsAt is_e rest → DoesNotEnd (exponent_language.ends rest)
no_exponent-ends [] s = tt
no_exponent-ends (c ∷ cs) s =
    let p = both_false (c == 101) (c == 69) s in
    let a : nat_eq 101 c ≡ false = turned c 101 p.0 in
    let b : nat_eq 69 c ≡ false = turned c 69 p.1 in
    rw (a, b) tt

no_point-ends : (rest : List ℕ) → StopsAt is_point rest → DoesNotEnd (pointed_language.ends rest)
no_point-ends [] s = tt
no_point-ends (c ∷ cs) s = let a : nat_eq 46 c ≡ false = turned c 46 s in rw a tt

no_more-ends : (rest : List ℕ) → StopsAt is_point rest → StopsAt is_e rest → DoesNotEnd (more_language.ends rest)
no_more-ends [] s t = tt
no_more-ends (c ∷ cs) s t =
    let p = both_false (c == 101) (c == 69) t in
    let a : nat_eq 46 c ≡ false = turned c 46 s in
    let b : nat_eq 101 c ≡ false = turned c 101 p.0 in
    let d : nat_eq 69 c ≡ false = turned c 69 p.1 in
    rw (a, b, d) tt

-- what may follow
pub number-follow : (rest : List ℕ) → StopsAt number_goes_on rest → number_language.follow rest
number-follow rest s =
    let n = no_more rest s in
    ((((λ t. no_digit rest s), no_exponent-ends rest n.1), λ t. no_digit rest s), no_more-ends rest n.0 n.1)

-- a digit is not another character
digit-other : (k c : ℕ) → is_digit k 10 ≡ false → is_digit c 10 ≡ true → nat_eq k c ≡ false
digit-other k c n d = by_test (nat_eq k c) refl
  where
    by_test : (b : Bool) → nat_eq k c ≡ b → nat_eq k c ≡ false
    by_test true e = let z : false ≡ true = sym n ∙ ap (λ z. is_digit z 10) (eqb-true k c e) ∙ d in absurd (cc z)
    by_test false e = e

minus-before : (w rest : List ℕ) → IsInt w → ⊤ × DoesNotEnd (literal_ends nat_eq (45 ∷ []) (w ++ rest))
minus-before [] rest i = absurd i
minus-before (c ∷ cs) rest i = let e : nat_eq 45 c ≡ false = digit-other 45 c refl i.0 in (tt, rw e tt)

sign-before : (w rest : List ℕ) → IsDigits w → ⊤ × DoesNotEnd (one_ends (among nat_eq (43 ∷ 45 ∷ [])) (w ++ rest))
sign-before [] rest i = absurd i
sign-before (c ∷ cs) rest i =
    let a : nat_eq 43 c ≡ false = digit-other 43 c refl i.0 in
    let b : nat_eq 45 c ≡ false = digit-other 45 c refl i.0 in
    (tt, rw (a, b) tt)

exponent-stops : (w rest : List ℕ) → exponent_language.word w → StopsAt (λ c. is_digit c 10) (w ++ rest) × StopsAt is_point (w ++ rest)
exponent-stops w rest j =
    let n = letter-other j.is_first.is_first.token (exponent-letter w j) in
    subst (λ z. StopsAt (λ c. is_digit c 10) (z ++ rest) × StopsAt is_point (z ++ rest)) (sym (exponent-parts w j)) n

maybe-stops : (w rest : List ℕ) → (or_not_language exponent_language).word w → StopsAt (λ c. is_digit c 10) rest → StopsAt (λ c. is_digit c 10) (w ++ rest)
maybe-stops w rest (inl j) s = (exponent-stops w rest j).0
maybe-stops w rest (inr e) s = subst (λ z. StopsAt (λ c. is_digit c 10) (z ++ rest)) (sym e) s

rest-stops : (w rest : List ℕ) → (or_not_language more_language).word w → StopsAt (λ c. is_digit c 10) rest → StopsAt (λ c. is_digit c 10) (w ++ rest)
rest-stops w rest (inl (inl j)) s =
    let e : w ≡ 46 ∷ (j.is_first.second ++ j.second) = both w (46 ∷ j.is_first.second) j.second j (fraction-begins j.first j.is_first) refl in
    subst (λ z. StopsAt (λ c. is_digit c 10) (z ++ rest)) (sym e) refl
rest-stops w rest (inl (inr j)) s = (exponent-stops w rest j).0
rest-stops w rest (inr e) s = subst (λ z. StopsAt (λ c. is_digit c 10) (z ++ rest)) (sym e) s

exponent-unambiguous : exponent_language.unambiguous
exponent-unambiguous = ((tt, tt, λ w rest i f. tt), tt, λ w rest i f. sign-before w rest i)

pointed-unambiguous : pointed_language.unambiguous
pointed-unambiguous = ((tt, tt, λ w rest i f. tt), exponent-unambiguous, λ w rest j f t. maybe-stops w rest j (f.0 0))

more-unambiguous : more_language.unambiguous
more-unambiguous = (pointed-unambiguous, exponent-unambiguous, λ w rest j f. no_point-ends (w ++ rest) (exponent-stops w rest j).1)

whole-unambiguous : whole_language.unambiguous
whole-unambiguous = (tt, tt, λ w rest i f. minus-before w rest i)

-- no word is cut short
pub number-unambiguous : number_language.unambiguous
number-unambiguous = (whole-unambiguous, more-unambiguous, λ w rest j f t. no_digit-stops t (w ++ rest) (rest-stops w rest j (f.0.1 0)))

-- what begins with no digit and no minus is no number
pub number-fails : (ts : List ℕ) → StopsAt begins_number ts → DoesNotEnd (number_language.ends ts)
number-fails [] s = tt
number-fails (c ∷ cs) s =
    let p = both_false (is_digit c 10) (c == 45) s in
    let d : is_digit c 10 ≡ false = p.0 in
    let m : nat_eq 45 c ≡ false = turned c 45 p.1 in
    rw (m, d) tt
