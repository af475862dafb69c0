-- What is written is JSON of the value that it was written from.
-- Main laws: written-is, json-numbers. Read first: JsonWritten.antt.
use Rattle.std.proofs.Common.{◌≡◌, ℕ, ◌+◌, ◌*◌, ◌/◌, ◌%◌, ◌<◌, ◌&&◌, Bool, true, false, cond, nat_eq, nat_lt, nat_le, Option, Some, None, List, [], ◌∷◌, ◌++◌, refl, sym, ◌∙◌, ap, subst, arith, inl, inr}
use Rattle.std.specs.Prelude.{◌⊎◌, codes, drop, flat_map}
use Rattle.std.specs.Char.{digit_value, digit_char}
use Rattle.std.specs.Char.Utf16.{lone_unit_char}
use Rattle.std.proofs.lemmas.Bool.{lt-ltb, lt-leb, ltb-true, ltb-false, le-leb, eqb-true}
use Rattle.std.proofs.lemmas.List.{append-nil}
use Rattle.std.proofs.lemmas.Str.{digit_value-digit_char}
use Rattle.exact.specs.JsonStrings.{escaped, unit_of, IsPiece, plain, by_letter, by_unit, ArePieces, no_piece, more_pieces, IsString, quoted}
use Rattle.exact.specs.JsonForms.{Form, null, truth, number, string, array, object, Forms, no_forms, form, Members, no_members, member, IsValue, is_null, is_true, is_false, is_number, is_string, is_array, is_object, IsElement, is_element, AreElements, no_element, one_element, more_elements, IsMember, is_member, AreMembers, no_member, one_member, more_members, IsJson}
use Rattle.exact.specs.JsonWritten.{letter_of, text_by, character_text, string_text, written, elements_written, members_written, AreNumbers, AreNumbersEach, AreNumbersIn}

-- a character that is this one, or isn't
tested : (c n : ℕ) → (c ≡ n) ⊎ (nat_eq c n ≡ false)
tested c n = by_test (nat_eq c n) refl
  where
    by_test : (b : Bool) → nat_eq c n ≡ b → (c ≡ n) ⊎ (nat_eq c n ≡ false)
    by_test true e = inl (eqb-true c n e)
    by_test false e = inr e

-- a character has a letter that stands for it, or it is neither a quote nor a backslash
lettered : (c : ℕ) → ((e : ℕ) × (letter_of c ≡ Some e) × (escaped e ≡ Some c)) ⊎ ((letter_of c ≡ None) × (nat_eq c 34 ≡ false) × (nat_eq c 92 ≡ false))
lettered c = elim (tested c 34) [
  | inl q ↦ inl (34, ap letter_of q, ap Some (sym q))
  | inr a ↦ elim (tested c 92) [
    | inl q ↦ inl (92, ap letter_of q, ap Some (sym q))
    | inr b ↦ elim (tested c 8) [
      | inl q ↦ inl (98, ap letter_of q, ap Some (sym q))
      | inr d ↦ elim (tested c 12) [
        | inl q ↦ inl (102, ap letter_of q, ap Some (sym q))
        | inr f ↦ elim (tested c 10) [
          | inl q ↦ inl (110, ap letter_of q, ap Some (sym q))
          | inr g ↦ elim (tested c 13) [
            | inl q ↦ inl (114, ap letter_of q, ap Some (sym q))
            | inr h ↦ elim (tested c 9) [
              | inl q ↦ inl (116, ap letter_of q, ap Some (sym q))
              | inr i ↦ inr (rw (a, b, d, f, g, h, i) refl, a, b)
            ]
          ]
        ]
      ]
    ]
  ]
]

-- the unit of two digits after two zeros
abbrev low_unit : ℕ → ℕ → Option ℕ
low_unit m n = cond (nat_lt m 16 && nat_lt n 16) (Some ((0 + m) * 16 + n)) None

low-unit : (a b : ℕ) → unit_of (48 ∷ 48 ∷ a ∷ b ∷ []) ≡ low_unit (digit_value a) (digit_value b)
low-unit a b = refl

control-unit : (c : ℕ) → c < 32 → unit_of (48 ∷ 48 ∷ digit_char (c / 16) ∷ digit_char (c % 16) ∷ []) ≡ Some c
control-unit c l =
    let a : digit_value (digit_char (c / 16)) ≡ c / 16 = digit_value-digit_char (c / 16) (omega arith) in
    let b : digit_value (digit_char (c % 16)) ≡ c % 16 = digit_value-digit_char (c % 16) (omega arith) in
    let high : nat_lt (c / 16) 16 ≡ true = lt-ltb (c / 16) 16 (omega arith) in
    let low : nat_lt (c % 16) 16 ≡ true = lt-ltb (c % 16) 16 (omega arith) in
    let both : low_unit (c / 16) (c % 16) ≡ Some ((0 + c / 16) * 16 + c % 16) = rw (high, low) refl in
    let whole : (0 + c / 16) * 16 + c % 16 ≡ c = omega arith in
    low-unit (digit_char (c / 16)) (digit_char (c % 16)) ∙ ap (λ z. low_unit z (digit_value (digit_char (c % 16)))) a ∙ ap (low_unit (c / 16)) b ∙ both ∙ ap Some whole

low-lone : (c : ℕ) → c < 32 → lone_unit_char c ≡ Some c
low-lone c l = let e : nat_le 0xD800 c ≡ false = lt-leb 0xD800 c (omega arith) in rw e refl

-- what stands for a character stands for it
piece : (c : ℕ) → IsPiece (character_text c) c
piece c = elim (lettered c) [
  | inl h ↦ subst (λ o. IsPiece (text_by o c) c) (sym h.1) (by_letter h.0 c h.2)
  | inr h ↦ subst (λ o. IsPiece (text_by o c) c) (sym h.0) (by_size (nat_lt c 32) refl h.1 h.2)
]
  where
    by_size : (b : Bool) → nat_lt c 32 ≡ b → nat_eq c 34 ≡ false → nat_eq c 92 ≡ false → IsPiece (text_by None c) c
    by_size true e q s = let l : c < 32 = ltb-true c 32 e in rw e (by_unit (48 ∷ 48 ∷ digit_char (c / 16) ∷ digit_char (c % 16) ∷ []) c c (control-unit c l) (low-lone c l))
    by_size false e q s = let l : nat_le 32 c ≡ true = le-leb 32 c (ltb-false c 32 e) in rw e (plain c (rw (l, q, s) refl))

pub pieces : (cs : List ℕ) → ArePieces (flat_map character_text cs) cs
pieces [] = no_piece
pieces (c ∷ cs) = more_pieces (piece c) (pieces cs)

string-is : (cs : List ℕ) → IsString (string_text cs) cs
string-is cs = quoted (pieces cs)

mutual
  value-is : (f : Form) → AreNumbers f → IsValue (written f) f
  value-is null h = is_null
  value-is (truth true) h = is_true
  value-is (truth false) h = is_false
  value-is (number cs) h = is_number h
  value-is (string cs) h = is_string (string-is cs)
  value-is (array fs) h = is_array [] (elements-are fs h) tt
  value-is (object ms) h = is_object [] (members-are ms h) tt

  elements-are : (fs : Forms) → AreNumbersEach fs → AreElements (drop 1 (elements_written fs)) fs
  elements-are no_forms h = no_element
  elements-are (form f fs) h = more-elements fs h.1 (written f) f (is_element [] tt (value-is f h.0))

  more-elements : (fs : Forms) → AreNumbersEach fs → (w : List ℕ) (f : Form) → IsElement w f → AreElements (w ++ elements_written fs) (form f fs)
  more-elements no_forms h w f i = subst (λ z. AreElements z (form f no_forms)) (sym (append-nil w)) (one_element i)
  more-elements (form g gs) h w f i = more_elements [] i tt (more-elements gs h.1 (written g) g (is_element [] tt (value-is g h.0)))

  members-are : (ms : Members) → AreNumbersIn ms → AreMembers (drop 1 (members_written ms)) ms
  members-are no_members h = no_member
  members-are (member cs f ms) h = more-members ms h.1 ((string_text cs ++ codes ":") ++ written f) cs f (is_member [] [] tt (string-is cs) tt (is_element [] tt (value-is f h.0)))

  more-members : (ms : Members) → AreNumbersIn ms → (w cs : List ℕ) (f : Form) → IsMember w cs f → AreMembers (w ++ members_written ms) (member cs f ms)
  more-members no_members h w cs f i = subst (λ z. AreMembers z (member cs f no_members)) (sym (append-nil w)) (one_member i)
  more-members (member ds g ms) h w cs f i = more_members [] i tt (more-members ms h.1 ((string_text ds ++ codes ":") ++ written g) ds g (is_member [] [] tt (string-is ds) tt (is_element [] tt (value-is g h.0))))

-- what is written is the value
pub written-is : (f : Form) → AreNumbers f → IsJson (written f) f
written-is f h = record { element = written f; after = []; all = sym (append-nil (written f)); is = is_element [] tt (value-is f h); blank = tt }

-- the numbers in what a text says are numbers
mutual
  value-numbers : {w : List ℕ} {f : Form} → IsValue w f → AreNumbers f
  value-numbers is_null = tt
  value-numbers is_true = tt
  value-numbers is_false = tt
  value-numbers (is_number i) = i
  value-numbers (is_string i) = tt
  value-numbers (is_array b a k) = elements-numbers a
  value-numbers (is_object b a k) = members-numbers a

  element-numbers : {w : List ℕ} {f : Form} → IsElement w f → AreNumbers f
  element-numbers (is_element b k i) = value-numbers i

  elements-numbers : {w : List ℕ} {fs : Forms} → AreElements w fs → AreNumbersEach fs
  elements-numbers no_element = tt
  elements-numbers (one_element i) = (element-numbers i, tt)
  elements-numbers (more_elements b i k a) = (element-numbers i, elements-numbers a)

  member-numbers : {w cs : List ℕ} {f : Form} → IsMember w cs f → AreNumbers f
  member-numbers (is_member a b k p l i) = element-numbers i

  members-numbers : {w : List ℕ} {ms : Members} → AreMembers w ms → AreNumbersIn ms
  members-numbers no_member = tt
  members-numbers (one_member i) = (member-numbers i, tt)
  members-numbers (more_members b i k a) = (member-numbers i, members-numbers a)

pub json-numbers : {text : List ℕ} {f : Form} → IsJson text f → AreNumbers f
json-numbers i = element-numbers i.is
