-- The parser of `list` accepts just its texts.
-- Main laws: sound-by, word-by, complete-by, comma_stops, closing_stops. Read first: Numbers.antt.
use Rattle.std.proofs.Common.{◌≡◌, ℕ, zero, suc, ◌<◌, ◌≤◌, nat_eq, Bool, true, false, Option, None, List, [], ◌∷◌, ◌++◌, refl, sym, ◌∙◌, ap, subst, arith, inr}
use Rattle.std.proofs.lemmas.Bool.Decides.{nat_tests}
use Rattle.std.proofs.lemmas.Str.Parse.{digit_from_value}
use Rattle.std.specs.Prelude.{⊤, codes, map}
use Rattle.std.specs.Borrow.{Bor}
use Rattle.std.specs.declared.alloc.Global.{Global}
use Rattle.std.specs.declared.vec.Vec.{Vec}
use Rattle.std.specs.Char.{digit_value}
use Rattle.std.specs.Str.Parse.{AllDigits, IsNumeral}
use Rattle.chumsky_parser.specs.ItemsLanguage.{IsListFrom, ListFrom, list_ends}
use Rattle.chumsky_parser.specs.Slices.{IsSliceOf}
use Rattle.chumsky_parser.specs.Words.{Joined, IsOne, AllPass, then_ends}
use Rattle.chumsky_primitive.specs.Literals.{equals-same, same-equals}
use Rattle.chumsky_primitive.specs.OneOf.{among}
use Rattle.chumsky_primitive.specs.PrimitiveLanguage.{Equals, one_ends, literal_ends}
use Rattle.chumsky_items.specs.ListLanguage.{Holding}
use Rattle.chumsky_items.specs.ListWords.{repeated_next, RepeatedWord, RepeatedEnd, RepeatedFollow, SeparatedWord, SeparatedEnd, SeparatedFollow}
use Rattle.chumsky_text.specs.Decimals.{TextSlice, numeral-bytes, slice-bytes}
use Rattle.chumsky_exact.specs.Rendered.{OfEach, Written, separated-written, written-separated, written-map, each-map, written-tokens}
use Rattle.chk_run.specs.Checked.{HasValue}
use Rattle.chk_run.specs.Numbers.{IsNumbers, numbers_of}

abbrev pub Is : List ℕ → List ℕ → Type 0
Is = Equals nat_eq

abbrev pub is_digit : ℕ → Bool
is_digit = among nat_eq (codes "0123456789")

-- any number of digits, and one before them
abbrev pub Digits : List ℕ → Type 0
Digits = IsListFrom (RepeatedWord None (IsOne is_digit (λ t. ⊤))) (RepeatedEnd 0 None) 0

abbrev pub NumberWord : List ℕ → Type 0
NumberWord = Joined (IsOne is_digit (λ t. ⊤)) Digits

-- the words of numbers with commas between them, and a text in brackets
abbrev pub ListWord : List ℕ → Type 0
ListWord = IsListFrom (SeparatedWord (Is (codes ",")) false None NumberWord) (SeparatedEnd (Is (codes ",")) false true 0 None) 0

abbrev pub InBrackets : (List ℕ → Type 0) → List ℕ → Type 0
InBrackets P = Joined (Is (codes "[")) (Joined P (Is (codes "]")))

-- a number, with a slice of it
abbrev pub NumberOf : List ℕ → Bor (List ℕ) → Type 0
NumberOf w s = NumberWord w × IsSliceOf (TextSlice (λ s. s.now)) w s

abbrev pub ListOf : List ℕ → Vec (Bor (List ℕ)) Global → Type 0
ListOf = Holding (ListFrom (λ k w s. SeparatedWord (Is (codes ",")) false None (λ u. NumberOf u s) k w) (SeparatedEnd (Is (codes ",")) false true 0 None) 0) (λ xs v. v.items ≡ xs)

digit-value : (c : ℕ) → is_digit c ≡ true → digit_value c < 10
digit-value c e =
    let a : 48 ≤ c = grind (arith, nat_tests) in
    let b : c ≤ 57 = grind (arith, nat_tests) in
    grind (arith, nat_tests)

value-digit : (c : ℕ) → digit_value c < 10 → is_digit c ≡ true
value-digit c l = let r = digit_from_value c l in let a : 48 ≤ c = r.0 in let b : c ≤ 57 = r.1 in grind (arith, nat_tests)

digits-pass : (k : ℕ) (us : List (List ℕ)) (w : List ℕ) → ListFrom (λ j u (v : List ℕ). RepeatedWord None (IsOne is_digit (λ t. ⊤)) j u) (RepeatedEnd 0 None) k us w → AllDigits 10 w
digits-pass k [] w i = let e : w ≡ [] = i.1 in rw e tt
digits-pass k (u ∷ us) w i =
    let o = i.is_first.1 in
    let e : w ≡ o.token ∷ i.second = i.all ∙ ap (λ z. z ++ i.second) o.all in
    rw e (digit-value o.token o.passes, digits-pass (suc k) us i.second i.is_second)

word-numeral : (w : List ℕ) → NumberWord w → IsNumeral 10 w
word-numeral w j =
    let o = j.is_first in
    let e : w ≡ o.token ∷ j.second = j.all ∙ ap (λ z. z ++ j.second) o.all in
    rw e (omega arith, (digit-value o.token o.passes, digits-pass 0 j.is_second.items j.second j.is_second.are))

all-pass : (w : List ℕ) → AllDigits 10 w → AllPass is_digit w
all-pass [] h = tt
all-pass (c ∷ cs) h = (value-digit c h.0, all-pass cs h.1)

numeral-word : (w : List ℕ) → IsNumeral 10 w → NumberWord w
numeral-word [] h = absurd (omega (arith, h.0))
numeral-word (c ∷ cs) h = record {
  first = c ∷ [];
  second = cs;
  all = refl;
  is_first = record { token = c; all = refl; passes = value-digit c h.1.0; is = tt };
  is_second = written-tokens is_digit 0 cs (all-pass cs h.1.1) (omega arith);
}

number-said : (w : List ℕ) (s : Bor (List ℕ)) → NumberOf w s → (w ≡ s.now) × IsNumeral 10 s.now
number-said w s i =
    let n = word-numeral w i.0 in
    let e : s.now ≡ w = slice-bytes (λ s. s.now) w s i.1 ∙ numeral-bytes w n in
    (sym e, subst (IsNumeral 10) (sym e) n)

bracketed : (P : List ℕ → Type 0) (w : List ℕ) → InBrackets P w → (inside : List ℕ) × P inside × (w ≡ codes "[" ++ (inside ++ codes "]"))
bracketed P w j =
    let o : j.first ≡ codes "[" = equals-same (codes "[") j.first j.is_first in
    let c : j.is_second.second ≡ codes "]" = equals-same (codes "]") j.is_second.second j.is_second.is_second in
    let e : w ≡ codes "[" ++ (j.is_second.first ++ codes "]") = cc (j.all, o, j.is_second.all, c) in
    (j.is_second.first, j.is_second.is_first, e)

-- what a word stands for says its numbers
pub numbers-sound : (cs : List ℕ) (v : Vec (Bor (List ℕ)) Global) → InBrackets (λ u. ListOf u v) cs → IsNumbers cs (numbers_of v)
numbers-sound cs v j =
    let b = bracketed (λ u. ListOf u v) cs j in
    let h = b.1 in
    let w = separated-written (λ s. s.now) (codes ",") 0 (λ s. IsNumeral 10 s.now) (Is (codes ",")) NumberOf number-said (λ u e. equals-same (codes ",") u e) true h.items b.0 h.is in
    let e : map (λ s. s.now) h.items ≡ numbers_of v = ap (map (λ s. s.now)) (sym h.held) in
    record {
      inside = b.0;
      all = b.2;
      written = subst (λ ns. Written (λ n. n) (codes ",") true ns b.0) e (written-map (λ n. n) (codes ",") (λ s. s.now) true h.items b.0 w.1);
      numerals = subst (OfEach (IsNumeral 10)) e (each-map (IsNumeral 10) (λ s. s.now) h.items w.0);
    }

-- words of items, each with itself
module _ (S P : List ℕ → Type 0) (last : ℕ → List ℕ → Type 0) where
  themselves : (k : ℕ) (us : List (List ℕ)) (w : List ℕ) → ListFrom (λ j u (v : List ℕ). SeparatedWord S false None P j u) last k us w
      → (vs : List (List ℕ)) × ListFrom (λ j u v. SeparatedWord S false None (λ z. P z × (z ≡ v)) j u) last k vs w
  themselves k [] w i = ([], i)
  themselves zero (u ∷ us) w i =
      let r = themselves 1 us i.second i.is_second in
      (i.first ∷ r.0, record { first = i.first; second = i.second; all = i.all; is_first = (tt, (i.is_first.1, refl)); is_second = r.1 })
  themselves (suc k) (u ∷ us) w i =
      let r = themselves (suc (suc k)) us i.second i.is_second in
      let j = i.is_first.1 in
      (j.second ∷ r.0, record { first = i.first; second = i.second; all = i.all; is_first = (tt, record { first = j.first; second = j.second; all = j.all; is_first = j.is_first; is_second = (j.is_second, refl) }); is_second = r.1 })

-- each word has its numbers
pub numbers-word : (cs : List ℕ) → InBrackets ListWord cs → HasValue IsNumbers cs (tt {0})
numbers-word cs j =
    let b = bracketed ListWord cs j in
    let t = themselves (Is (codes ",")) NumberWord (SeparatedEnd (Is (codes ",")) false true 0 None) 0 b.1.items b.0 b.1.are in
    let w = separated-written (λ n. n) (codes ",") 0 (IsNumeral 10) (Is (codes ",")) (λ z v. NumberWord z × (z ≡ v)) (λ z v h. (h.1, subst (IsNumeral 10) h.1 (word-numeral z h.0))) (λ u e. equals-same (codes ",") u e) true t.0 b.0 t.1 in
    (t.0, record { inside = b.0; all = b.2; written = w.1; numerals = w.0 })

-- and a text of numbers is a word
pub numbers-complete : (cs : List ℕ) (ns : List (List ℕ)) → IsNumbers cs ns → InBrackets ListWord cs
numbers-complete cs ns i = record {
  first = codes "[";
  second = i.inside ++ codes "]";
  all = i.all;
  is_first = same-equals (codes "[");
  is_second = record {
    first = i.inside;
    second = codes "]";
    all = refl;
    is_first = written-separated (λ n. n) (codes ",") 0 (IsNumeral 10) (Is (codes ",")) NumberWord numeral-word (same-equals (codes ",")) true ns i.inside i.numerals i.written (omega arith);
    is_second = same-equals (codes "]");
  };
}

-- the words of a number, of the list and of the brackets, of parsers with these members
abbrev pub NumberBy : List ℕ → List ℕ → ℕ → Option ℕ → List ℕ → Type 0
NumberBy digits more few many = Joined (IsOne (among nat_eq digits) (λ t. ⊤)) (IsListFrom (RepeatedWord many (IsOne (among nat_eq more) (λ t. ⊤))) (RepeatedEnd few many) 0)

abbrev pub ListBy : List ℕ → Bool → Bool → ℕ → Option ℕ → (List ℕ → Type 0) → List ℕ → Type 0
ListBy comma leading trailing least most P = IsListFrom (SeparatedWord (Is comma) leading most P) (SeparatedEnd (Is comma) leading trailing least most) 0

abbrev pub ListOfBy : List ℕ → Bool → Bool → ℕ → Option ℕ → (List ℕ → Type 0) → List ℕ → Vec (Bor (List ℕ)) Global → Type 0
ListOfBy comma leading trailing least most P =
    Holding (ListFrom (λ k w s. SeparatedWord (Is comma) leading most (λ u. P u × IsSliceOf (TextSlice (λ s. s.now)) u s) k w) (SeparatedEnd (Is comma) leading trailing least most) 0) (λ xs v. v.items ≡ xs)

abbrev pub BracketsBy : List ℕ → List ℕ → (List ℕ → Type 0) → List ℕ → Type 0
BracketsBy opening closing P = Joined (Is opening) (Joined P (Is closing))

-- the laws above, of a parser that has the members which they speak of
module _ {opening comma closing digits more : List ℕ} {few least : ℕ} {many most : Option ℕ} {leading trailing : Bool} (eo : opening ≡ codes "[") (ec : comma ≡ codes ",") (el : closing ≡ codes "]")
    (ed : digits ≡ codes "0123456789") (em : more ≡ codes "0123456789") (ef : few ≡ 0) (en : many ≡ None) (ea : least ≡ 0) (eb : most ≡ None) (eg : leading ≡ false) (et : trailing ≡ true) where
  pub sound-by : (cs : List ℕ) (v : Vec (Bor (List ℕ)) Global) → BracketsBy opening closing (λ u. ListOfBy comma leading trailing least most (NumberBy digits more few many) u v) cs → IsNumbers cs (numbers_of v)
  sound-by cs v = rw (eo, ec, el, ed, em, ef, en, ea, eb, eg, et) (numbers-sound cs v)

  pub word-by : (cs : List ℕ) → BracketsBy opening closing (ListBy comma leading trailing least most (NumberBy digits more few many)) cs → HasValue IsNumbers cs (tt {0})
  word-by cs = rw (eo, ec, el, ed, em, ef, en, ea, eb, eg, et) (numbers-word cs)

  pub complete-by : (cs : List ℕ) (ns : List (List ℕ)) → IsNumbers cs ns → BracketsBy opening closing (ListBy comma leading trailing least most (NumberBy digits more few many)) cs
  complete-by cs ns i = rw (eo, ec, el, ed, em, ef, en, ea, eb, eg, et) (numbers-complete cs ns i)

-- neither a comma nor a bracket that closes goes on with a number, nor a bracket with a list
abbrev NumberFollow : List ℕ → ℕ → Option ℕ → List ℕ → Type 0
NumberFollow more few many = RepeatedFollow (one_ends (among nat_eq more)) (λ r. ⊤) few many

pub comma_stops : {comma more : List ℕ} (few : ℕ) (many : Option ℕ) → comma ≡ codes "," → more ≡ codes "0123456789" → (w rest : List ℕ) → Is comma w → NumberFollow more few many (w ++ rest)
comma_stops {comma} few many ec em w rest i = let e : w ≡ codes "," = equals-same comma w i ∙ ec in rw (e, em) (tt, inr tt)

pub closing_stops : {comma closing digits more : List ℕ} (few : ℕ) (many : Option ℕ) → comma ≡ codes "," → closing ≡ codes "]" → digits ≡ codes "0123456789" → more ≡ codes "0123456789" → (w rest : List ℕ) → Is closing w
    → SeparatedFollow (then_ends (one_ends (among nat_eq digits)) (list_ends (repeated_next (one_ends (among nat_eq more)) few many))) (literal_ends nat_eq comma) (NumberFollow more few many) (λ r. ⊤) (w ++ rest)
closing_stops {closing = closing} few many ec el ed em w rest i = let e : w ≡ codes "]" = equals-same closing w i ∙ el in rw (e, ed, em, ec) ((tt, inr tt), tt, tt, tt)
