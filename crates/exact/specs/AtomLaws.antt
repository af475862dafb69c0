-- Which characters names and decimal numbers have.
-- Main laws: number-stops, no_name-begins, atom-front, name-passes, number-passes, passes-ascii, starts-no_atom, number-no_name.
use Rattle.std.proofs.Common.{◌≡◌, ℕ, ◌<◌, Bool, true, false, cond, nat_eq, List, [], ◌∷◌, ◌++◌, refl, arith}
use Rattle.std.specs.Char.{digit_value, is_digit}
use Rattle.std.specs.Str.{IsAscii}
use Rattle.std.specs.Str.Parse.{AllDigits}
use Rattle.std.proofs.lemmas.Bool.Decides.{nat_tests}
use Rattle.std.proofs.lemmas.Str.Ascii.{IsAscii-nil, IsAscii-cons}
use Rattle.std.proofs.lemmas.Str.Parse.{digit_from_value}
use Rattle.chumsky_parser.specs.Ending.{DoesNotEnd}
use Rattle.chumsky_parser.specs.Words.{AllPass, StopsAt}
use Rattle.chumsky_text.specs.Decimals.{IsInt, IsDecimal}
use Rattle.chumsky_text.specs.Names.{IsName, begins_name, in_name}
use Rattle.chumsky_text.specs.TextLanguage.{begun_ends, word_front}
use Rattle.chumsky_exact.specs.Numerals.{no_digit-stops}

-- a digit may be in a name, and begins none
digit-in_name : (c : ℕ) → digit_value c < 10 → (in_name c ≡ true) × (begins_name c ≡ false)
digit-in_name c l = let r = digit_from_value c l in (grind (arith, nat_tests), grind (arith, nat_tests))

is_digit-below : (c : ℕ) → is_digit c 10 ≡ true → digit_value c < 10
is_digit-below c e = grind (arith, nat_tests)

-- where none goes on with a name, none goes on with a number
pub number-stops : (t : ℕ) (rest : List ℕ) → StopsAt in_name rest → StopsAt (λ c. cond (nat_eq t 48) false (is_digit c 10)) rest
number-stops t [] s = tt
number-stops t (c ∷ cs) s = no_digit-stops t (c ∷ cs) (by_digit (is_digit c 10) refl)
  where
    by_digit : (b : Bool) → is_digit c 10 ≡ b → is_digit c 10 ≡ false
    by_digit true e = let i = (digit-in_name c (is_digit-below c e)).0 in absurd (cc (i, s))
    by_digit false e = e

-- no name begins where a number does
pub no_name-begins : (w rest : List ℕ) → IsInt w → DoesNotEnd (begun_ends begins_name (word_front (λ t. in_name)) (λ w. true) (w ++ rest))
no_name-begins [] rest h = absurd h
no_name-begins (c ∷ cs) rest h = let b : begins_name c ≡ false = (digit-in_name c (is_digit-below c h.0)).1 in rw b tt

-- an atom, up to where none goes on with it, is one alone
pub atom-front : (w v x y : List ℕ) → AllPass in_name w → AllPass in_name v → StopsAt in_name x → StopsAt in_name y → w ++ x ≡ v ++ y → (w ≡ v) × (x ≡ y)
atom-front [] [] x y p q s t e = (refl, e)
atom-front [] (d ∷ v) [] y p q s t e = absurd (cc e)
atom-front [] (d ∷ v) (c ∷ x) y p q s t e = let h : c ≡ d = cc e in let b : in_name d ≡ true = q.0 in absurd (cc (s, h, b))
atom-front (c ∷ w) [] x [] p q s t e = absurd (cc e)
atom-front (c ∷ w) [] x (d ∷ y) p q s t e = let h : c ≡ d = cc e in let b : in_name c ≡ true = p.0 in absurd (cc (t, h, b))
atom-front (c ∷ w) (d ∷ v) x y p q s t e =
    let h : c ≡ d = cc e in
    let r = atom-front w v x y p.1 q.1 s t (cc e) in
    let a : w ≡ v = r.0 in
    (cc (h, a), r.1)

-- the characters of atoms
begins-in_name : (c : ℕ) → begins_name c ≡ true → in_name c ≡ true
begins-in_name c e = grind (arith, nat_tests)

pub name-passes : (w : List ℕ) → IsName w → AllPass in_name w
name-passes [] h = absurd h
name-passes (c ∷ cs) h = (begins-in_name c h.0, h.1)

digits-pass : (w : List ℕ) → AllDigits 10 w → AllPass in_name w
digits-pass [] h = tt
digits-pass (c ∷ cs) h = ((digit-in_name c h.0).0, digits-pass cs h.1)

pub number-passes : (w : List ℕ) → IsDecimal w → AllPass in_name w
number-passes w d = digits-pass w d.0.1

in_ascii : (c : ℕ) → in_name c ≡ true → c < 128
in_ascii c e = grind (arith, nat_tests)

-- they are of ASCII
pub passes-ascii : (w : List ℕ) → AllPass in_name w → IsAscii w
passes-ascii [] h = IsAscii-nil
passes-ascii (c ∷ cs) h = IsAscii-cons c cs (in_ascii c h.0) (passes-ascii cs h.1)

-- and there is one at least
pub name-some : (w : List ℕ) → IsName w → w ≡ [] → ⊥
name-some [] h e = h
name-some (c ∷ cs) h e = absurd (cc e)

pub number-some : (w : List ℕ) → IsDecimal w → w ≡ [] → ⊥
number-some [] d e = absurd (omega (arith, d.0.0))
number-some (c ∷ cs) d e = absurd (cc e)

-- no atom begins with another character
pub starts-no_atom : (c : ℕ) (w x z : List ℕ) → in_name c ≡ false → AllPass in_name w → (w ≡ [] → ⊥) → c ∷ x ≡ w ++ z → ⊥
starts-no_atom c [] x z n h s e = s refl
starts-no_atom c (d ∷ ds) x z n h s e = let q : c ≡ d = cc e in let b : in_name d ≡ true = h.0 in absurd (cc (n, q, b))

-- and no number is a name, whatever follows
pub number-no_name : (w v x y : List ℕ) → IsName w → IsDecimal v → w ++ x ≡ v ++ y → ⊥
number-no_name [] v x y h d e = h
number-no_name (c ∷ cs) [] x y h d e = absurd (omega (arith, d.0.0))
number-no_name (c ∷ cs) (t ∷ ts) x y h d e = let q : c ≡ t = cc e in let b : begins_name c ≡ true = h.0 in let n = (digit-in_name t d.0.1.0).1 in absurd (cc (q, b, n))
