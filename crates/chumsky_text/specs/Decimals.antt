-- Numbers in decimal digits: which words write one, and what `parse` picks of them.
-- Main words: IsDecimal, unsigned_of, fixed_of, below. Main laws: int-decimal, decimal-int, numeral-picked, numeral-value, numeral-fits, fixed-value, fixed-fits.
use Rattle.std.proofs.Common.{
  ◌≡◌,
  ℕ,
  zero,
  suc,
  ◌+◌,
  ◌<◌,
  ◌≤◌,
  ◌^◌,
  Bool,
  true,
  false,
  cond,
  nat_eq,
  nat_lt,
  nat_le,
  ◌&&◌,
  Option,
  Some,
  None,
  List,
  [],
  ◌∷◌,
  ◌++◌,
  length,
  refl,
  sym,
  ◌∙◌,
  ap,
  subst,
  arith,
}
use Rattle.std.specs.Prelude.{⊤, Result, Ok, Err, slice_index, slice_range}
use Rattle.std.specs.Result.{result_ok}
use Rattle.std.specs.Char.{digit_value, is_digit}
use Rattle.std.specs.Str.{encode_utf8_all}
use Rattle.std.specs.Str.Parse.{AllDigits, IsNumeral, digits_value, without_leading_plus, ParsesUnsigned}
use Rattle.std.proofs.lemmas.Bool.Decides.{nat_tests}
use Rattle.std.proofs.lemmas.List.{nil_from_length}
use Rattle.std.proofs.lemmas.Str.{encodes-IsAscii}
use Rattle.std.proofs.lemmas.Fmt.{IsAscii-from_digits}
use Rattle.std.proofs.lemmas.Str.Parse.{digit_from_value}
use Rattle.chumsky_input.specs.Layout.{Layout}
use Rattle.chumsky_parser.specs.Slices.{IsSliceOf}
use Rattle.chumsky_parser.specs.Words.{AllPass}
use Rattle.chumsky_judge.specs.Picked.{IsPick}
use Rattle.chumsky_text.specs.TextLanguage.{IsWord}

-- decimal digits, at least one, and no zero before another
abbrev pub IsDecimal : List ℕ → Type 0
IsDecimal cs = IsNumeral 10 cs × (slice_index cs 0 ≡ 48 → length cs ≡ 1)

-- whether these are digits
abbrev pub all_digits : List ℕ → Bool
all_digits [] = true
all_digits (c ∷ cs) = nat_lt (digit_value c) 10 && all_digits cs

abbrev pub some_digits : List ℕ → Bool
some_digits [] = false
some_digits (c ∷ cs) = all_digits (c ∷ cs)

-- a number that so many bits hold
abbrev pub below : ℕ → ℕ → Option ℕ
below bits n = cond (nat_lt n (2 ^ bits)) (Some n) None

-- what `parse` reads of some bytes, as a number of so many bits
abbrev pub unsigned_of : ℕ → List ℕ → Option ℕ
unsigned_of bits bs = let ds = without_leading_plus bs in cond (some_digits ds && nat_lt (digits_value 10 ds) (2 ^ bits)) (Some (digits_value 10 ds)) None

below-lt : (a b : ℕ) → nat_lt a b ≡ true → a < b
below-lt a b e = grind (arith, nat_tests)

lt-below : (a b : ℕ) → a < b → nat_lt a b ≡ true
lt-below a b l = grind (arith, nat_tests)

both_true : (a b : Bool) → (a && b) ≡ true → (a ≡ true) × (b ≡ true)
both_true true b e = (refl, e)
both_true false b e = absurd (cc e)

all_digits-is : (cs : List ℕ) → all_digits cs ≡ true → AllDigits 10 cs
all_digits-is [] e = tt
all_digits-is (c ∷ cs) e = let p = both_true (nat_lt (digit_value c) 10) (all_digits cs) e in (below-lt (digit_value c) 10 p.0, all_digits-is cs p.1)

is-all_digits : (cs : List ℕ) → AllDigits 10 cs → all_digits cs ≡ true
is-all_digits [] h = refl
is-all_digits (c ∷ cs) h = let d : nat_lt (digit_value c) 10 ≡ true = lt-below (digit_value c) 10 h.0 in let ds = is-all_digits cs h.1 in rw (d, ds) refl

some_digits-is : (ds : List ℕ) → some_digits ds ≡ true → IsNumeral 10 ds
some_digits-is [] e = absurd (cc e)
some_digits-is (c ∷ cs) e = (omega arith, all_digits-is (c ∷ cs) e)

is-some_digits : (ds : List ℕ) → IsNumeral 10 ds → some_digits ds ≡ true
is-some_digits [] h = absurd (omega (arith, h.0))
is-some_digits (c ∷ cs) h = is-all_digits (c ∷ cs) h.1

module _ (bits : ℕ) where
  fits_yes : (ds : List ℕ) → IsNumeral 10 ds → digits_value 10 ds < 2 ^ bits → (some_digits ds && nat_lt (digits_value 10 ds) (2 ^ bits)) ≡ true
  fits_yes ds h l = let a = is-some_digits ds h in let b = lt-below (digits_value 10 ds) (2 ^ bits) l in rw (a, b) refl

  fits_is : (ds : List ℕ) → (some_digits ds && nat_lt (digits_value 10 ds) (2 ^ bits)) ≡ true → IsNumeral 10 ds × (digits_value 10 ds < 2 ^ bits)
  fits_is ds e = let p = both_true (some_digits ds) (nat_lt (digits_value 10 ds) (2 ^ bits)) e in (some_digits-is ds p.0, below-lt (digits_value 10 ds) (2 ^ bits) p.1)

  -- what `parse` gives
  pub parsed-is : {E : Type 0} (bs : List ℕ) (r : Result ℕ E) → ParsesUnsigned bits 10 bs r → result_ok r ≡ unsigned_of bits bs
  parsed-is bs (Ok x) h = let a = fits_yes (without_leading_plus bs) h.0.0 h.0.1 in let b = h.1 in rw (a, b) refl
  parsed-is bs (Err e) h = by_test (some_digits (without_leading_plus bs) && nat_lt (digits_value 10 (without_leading_plus bs)) (2 ^ bits)) refl
    where
      by_test : (t : Bool)
          → (some_digits (without_leading_plus bs) && nat_lt (digits_value 10 (without_leading_plus bs)) (2 ^ bits)) ≡ t
          → None ≡ cond t (Some (digits_value 10 (without_leading_plus bs))) None
      by_test true e = absurd (h (fits_is (without_leading_plus bs) e))
      by_test false e = refl

-- the words of `text::digits(10)` and of `text::int(10)`
abbrev pub IsDigits : List ℕ → Type 0
IsDigits = IsWord (λ t. is_digit t 10) (λ t c. is_digit c 10)

abbrev pub IsInt : List ℕ → Type 0
IsInt = IsWord (λ t. is_digit t 10) (λ t c. cond (nat_eq t 48) false (is_digit c 10))

all_pass : (cs : List ℕ) → AllPass (λ c. is_digit c 10) cs → AllDigits 10 cs
all_pass [] h = tt
all_pass (c ∷ cs) h = (below-lt (digit_value c) 10 h.0, all_pass cs h.1)

pass_all : (cs : List ℕ) → AllDigits 10 cs → AllPass (λ c. is_digit c 10) cs
pass_all [] h = tt
pass_all (c ∷ cs) h = (lt-below (digit_value c) 10 h.0, pass_all cs h.1)

-- the one are the numerals
pub digits-numeral : (w : List ℕ) → IsDigits w → IsNumeral 10 w
digits-numeral [] h = absurd h
digits-numeral (t ∷ ts) h = (omega arith, (below-lt (digit_value t) 10 h.0, all_pass ts h.1))

pub numeral-digits : (w : List ℕ) → IsNumeral 10 w → IsDigits w
numeral-digits [] h = absurd (omega (arith, h.0))
numeral-digits (t ∷ ts) h = (lt-below (digit_value t) 10 h.1.0, pass_all ts h.1.1)

digits_after : (t : ℕ) (cs : List ℕ) → AllPass (λ c. cond (nat_eq t 48) false (is_digit c 10)) cs → AllDigits 10 cs × (t ≡ 48 → cs ≡ [])
digits_after t [] h = (tt, λ e. refl)
digits_after t (c ∷ cs) h = by_zero (digits_after t cs h.1).0 (nat_eq t 48) refl h.0
  where
    by_zero : AllDigits 10 cs → (z : Bool) → nat_eq t 48 ≡ z → cond z false (is_digit c 10) ≡ true → AllDigits 10 (c ∷ cs) × (t ≡ 48 → c ∷ cs ≡ [])
    by_zero ds true e g = absurd (cc g)
    by_zero ds false e g = ((below-lt (digit_value c) 10 g, ds), λ x. absurd (grind (arith, nat_tests)))

after_digits : (t : ℕ) (cs : List ℕ) → nat_eq t 48 ≡ false → AllDigits 10 cs → AllPass (λ c. cond (nat_eq t 48) false (is_digit c 10)) cs
after_digits t [] e h = tt
after_digits t (c ∷ cs) e h = let d : is_digit c 10 ≡ true = lt-below (digit_value c) 10 h.0 in (rw (e, d) refl, after_digits t cs e h.1)

-- and the other the decimals
pub int-decimal : (w : List ℕ) → IsInt w → IsDecimal w
int-decimal [] h = absurd h
int-decimal (t ∷ ts) h =
    let p = digits_after t ts h.1 in
    ((omega arith, (below-lt (digit_value t) 10 h.0, p.0)), λ z. let n : ts ≡ [] = p.1 z in rw n refl)

pub decimal-int : (w : List ℕ) → IsDecimal w → IsInt w
decimal-int [] h = absurd (omega (arith, h.0.0))
decimal-int (t ∷ ts) h = (lt-below (digit_value t) 10 h.0.1.0, by_zero (nat_eq t 48) refl)
  where
    by_zero : (z : Bool) → nat_eq t 48 ≡ z → AllPass (λ c. cond (nat_eq t 48) false (is_digit c 10)) ts
    by_zero true e =
        let z : t ≡ 48 = grind (arith, nat_tests) in
        let n : length (t ∷ ts) ≡ 1 = h.1 z in
        let k : length ts ≡ 0 = omega (arith, n) in
        let s : ts ≡ [] = nil_from_length ts k in
        subst (λ u. AllPass (λ c. cond (nat_eq t 48) false (is_digit c 10)) u) (sym s) tt
    by_zero false e = after_digits t ts e h.0.1.1

plus_kept : (t : ℕ) (cs : List ℕ) → digit_value t < 10 → without_leading_plus (t ∷ cs) ≡ t ∷ cs
plus_kept t cs d =
    let r = digit_from_value t d in
    let e : nat_eq t 43 ≡ false = grind (arith, nat_tests) in
    rw e refl

-- digits are their own bytes
pub numeral-bytes : (w : List ℕ) → IsNumeral 10 w → encode_utf8_all w ≡ w
numeral-bytes w h = encodes-IsAscii w (IsAscii-from_digits w h.1)

module _ (bits : ℕ) where
  -- what is picked of a numeral
  pub numeral-picked : (w : List ℕ) → IsNumeral 10 w → unsigned_of bits (encode_utf8_all w) ≡ below bits (digits_value 10 w)
  numeral-picked [] h = absurd (omega (arith, h.0))
  numeral-picked (t ∷ ts) h =
      let e : encode_utf8_all (t ∷ ts) ≡ t ∷ ts = numeral-bytes (t ∷ ts) h in
      let k : without_leading_plus (t ∷ ts) ≡ t ∷ ts = plus_kept t ts h.1.0 in
      let d : some_digits (t ∷ ts) ≡ true = is-some_digits (t ∷ ts) h in
      let u : unsigned_of bits (t ∷ ts) ≡ below bits (digits_value 10 (t ∷ ts)) = rw (k, d) refl in
      ap (unsigned_of bits) e ∙ u

  below-is : (v n : ℕ) (b : Bool) → nat_lt v (2 ^ bits) ≡ b → cond b (Some v) None ≡ Some n → (n ≡ v) × (v < 2 ^ bits)
  below-is v n true d e = (cc e, below-lt v (2 ^ bits) d)
  below-is v n false d e = absurd (cc e)

  -- a number that is picked is the numeral's value, and fits
  pub numeral-value : (w : List ℕ) (n : ℕ) → IsNumeral 10 w → unsigned_of bits (encode_utf8_all w) ≡ Some n → (n ≡ digits_value 10 w) × (digits_value 10 w < 2 ^ bits)
  numeral-value w n h e = below-is (digits_value 10 w) n (nat_lt (digits_value 10 w) (2 ^ bits)) refl (sym (numeral-picked w h) ∙ e)

  -- and one that fits is picked
  pub numeral-fits : (w : List ℕ) → IsNumeral 10 w → digits_value 10 w < 2 ^ bits → unsigned_of bits (encode_utf8_all w) ≡ Some (digits_value 10 w)
  numeral-fits w h l = let b = lt-below (digits_value 10 w) (2 ^ bits) l in numeral-picked w h ∙ rw b refl

  pub is_pick : (x : Option ℕ) (n : ℕ) → x ≡ Some n → IsPick x
  is_pick x n e = rw e tt

-- a number of just so many bytes within bounds
abbrev pub bounded : ℕ → ℕ → Option ℕ → Option ℕ
bounded least most None = None
bounded least most (Some n) = cond (nat_le least n && nat_le n most) (Some n) None

abbrev pub fixed_of : ℕ → ℕ → ℕ → List ℕ → Option ℕ
fixed_of digits least most bs = cond (nat_eq (length bs) digits) (bounded least most (unsigned_of 32 bs)) None

-- the bytes of a text
abbrev pub TextSlice : {Text : Type 0} → (Text → List ℕ) → Layout ℕ → ℕ → ℕ → Text → Type 0
TextSlice bytes l i j text = bytes text ≡ encode_utf8_all (slice_range l.list i j)

-- the slice of a word has the word's bytes
pub slice-bytes : {Text : Type 0} (bytes : Text → List ℕ) (w : List ℕ) (text : Text) → IsSliceOf (TextSlice bytes) w text → bytes text ≡ encode_utf8_all w
slice-bytes bytes w text s = s.is_slice ∙ ap encode_utf8_all s.tokens

-- what is picked of the slice of a word
pub unsigned-by_word : (bits : ℕ) (w bytes : List ℕ) (x : Option ℕ) → bytes ≡ encode_utf8_all w → x ≡ unsigned_of bits bytes → x ≡ unsigned_of bits (encode_utf8_all w)
unsigned-by_word bits w bytes x e g = g ∙ ap (unsigned_of bits) e

pub fixed-by_word : (digits least most : ℕ) (w bytes : List ℕ) (x : Option ℕ) → bytes ≡ encode_utf8_all w → x ≡ fixed_of digits least most bytes → x ≡ fixed_of digits least most (encode_utf8_all w)
fixed-by_word digits least most w bytes x e g = g ∙ ap (fixed_of digits least most) e

-- a number that is picked is the value of so many digits, and within the bounds
pub fixed-value : (digits least most : ℕ) (w : List ℕ) (n : ℕ) → IsNumeral 10 w
    → fixed_of digits least most (encode_utf8_all w) ≡ Some n
    → (length w ≡ digits) × (n ≡ digits_value 10 w) × (least ≤ n) × (n ≤ most)
fixed-value digits least most w n h e =
    let b : encode_utf8_all w ≡ w = numeral-bytes w h in
    let f : cond (nat_eq (length w) digits) (bounded least most (below 32 (digits_value 10 w))) None ≡ Some n = cc (by_bytes (encode_utf8_all w) b (numeral-picked 32 w h), e) in
    by_length (nat_eq (length w) digits) refl f
  where
    by_bytes : (bs : List ℕ) → bs ≡ w → unsigned_of 32 bs ≡ below 32 (digits_value 10 w)
        → fixed_of digits least most bs ≡ cond (nat_eq (length w) digits) (bounded least most (below 32 (digits_value 10 w))) None
    by_bytes bs b p = rw p (ap (λ z. cond (nat_eq (length z) digits) (bounded least most (below 32 (digits_value 10 w))) None) b)

    by_bounds : (m : ℕ) (c : Bool) → (nat_le least m && nat_le m most) ≡ c → cond c (Some m) None ≡ Some n → (n ≡ m) × (least ≤ m) × (m ≤ most)
    by_bounds m false d g = absurd (cc g)
    by_bounds m true d g =
        let p = both_true (nat_le least m) (nat_le m most) d in
        let a = p.0 in
        let c = p.1 in
        (cc g, grind (arith, nat_tests, a), grind (arith, nat_tests, c))

    by_fit : (c : Bool) → bounded least most (cond c (Some (digits_value 10 w)) None) ≡ Some n → (n ≡ digits_value 10 w) × (least ≤ digits_value 10 w) × (digits_value 10 w ≤ most)
    by_fit false g = absurd (cc g)
    by_fit true g = by_bounds (digits_value 10 w) (nat_le least (digits_value 10 w) && nat_le (digits_value 10 w) most) refl g

    by_length : (c : Bool) → nat_eq (length w) digits ≡ c
        → cond c (bounded least most (below 32 (digits_value 10 w))) None ≡ Some n
        → (length w ≡ digits) × (n ≡ digits_value 10 w) × (least ≤ n) × (n ≤ most)
    by_length false d g = absurd (cc g)
    by_length true d g =
        let l : length w ≡ digits = grind (arith, nat_tests) in
        let p = by_fit (nat_lt (digits_value 10 w) (2 ^ 32)) g in
        let e : n ≡ digits_value 10 w = p.0 in
        let a : least ≤ digits_value 10 w = p.1 in
        let b : digits_value 10 w ≤ most = p.2 in
        (l, e, omega (arith, a, e), omega (arith, b, e))

-- and each such number is picked
pub fixed-fits : (digits least most : ℕ) (w : List ℕ) → IsNumeral 10 w → length w ≡ digits → least ≤ digits_value 10 w
    → digits_value 10 w ≤ most → most < 2 ^ 32 → IsPick (fixed_of digits least most (encode_utf8_all w))
fixed-fits digits least most w h l a b f =
    let e : encode_utf8_all w ≡ w = numeral-bytes w h in
    let u : unsigned_of 32 (encode_utf8_all w) ≡ Some (digits_value 10 w) = numeral-fits 32 w h (omega (arith, b, f)) in
    let n : length (encode_utf8_all w) ≡ digits = ap length e ∙ l in
    let n' : nat_eq (length (encode_utf8_all w)) digits ≡ true = grind (arith, nat_tests) in
    let c : nat_le least (digits_value 10 w) ≡ true = grind (arith, nat_tests) in
    let d : nat_le (digits_value 10 w) most ≡ true = grind (arith, nat_tests) in
    rw (n', u, c, d) tt

-- what the two ways to pick say, of what `parse` gave
pub fixed-some : (digits least most : ℕ) (bs : List ℕ) (n : ℕ) → length bs ≡ digits → unsigned_of 32 bs ≡ Some n → least ≤ n → n ≤ most → Some n ≡ fixed_of digits least most bs
fixed-some digits least most bs n l u a b =
    let e : nat_eq (length bs) digits ≡ true = grind (arith, nat_tests) in
    let c : nat_le least n ≡ true = grind (arith, nat_tests) in
    let d : nat_le n most ≡ true = grind (arith, nat_tests) in
    rw (e, u, c, d) refl

pub fixed-none : (digits least most : ℕ) (bs : List ℕ) → unsigned_of 32 bs ≡ None → None ≡ fixed_of digits least most bs
fixed-none digits least most bs u = by_length (nat_eq (length bs) digits)
  where
    by_length : (c : Bool) → None ≡ cond c (bounded least most (unsigned_of 32 bs)) None
    by_length true = rw u refl
    by_length false = refl
