-- The parser of settings accepts just these.
-- Main laws: setting-sound, setting-complete, no_switch. Read first: Setting.antt.
use Rattle.std.proofs.Common.{◌≡◌, ℕ, ◌<◌, ◌≤◌, ◌^◌, Bool, true, false, nat_eq, ◌||◌, Option, Some, List, [], ◌∷◌, ◌++◌, length, refl, sym, subst, ◌∙◌, arith, inl, inr}
use Rattle.std.proofs.lemmas.Bool.Decides.{nat_tests}
use Rattle.std.proofs.lemmas.Int.Digits.{digits_value-lt}
use Rattle.std.proofs.Math.Nat.{pow-le-pow_right}
use Rattle.std.specs.Prelude.{⊤, ◌⊎◌, codes}
use Rattle.std.specs.Char.{digit_value}
use Rattle.std.specs.Str.{encode_utf8_all}
use Rattle.std.specs.Str.Parse.{AllDigits, IsNumeral, digits_value}
use Rattle.chumsky_parser.specs.ItemsLanguage.{IsListFrom}
use Rattle.chumsky_parser.specs.Words.{Joined, IsOne, AllPass}
use Rattle.chumsky_primitive.specs.Literals.{equals-same, same-equals}
use Rattle.chumsky_primitive.specs.OneOf.{among}
use Rattle.chumsky_primitive.specs.PrimitiveLanguage.{Equals}
use Rattle.chumsky_combinator.specs.MappedLanguage.{MapsSome}
use Rattle.chumsky_items.specs.ListWords.{RepeatedWord, RepeatedEnd}
use Rattle.chumsky_judge.specs.Picked.{IsPick}
use Rattle.chumsky_text.specs.Decimals.{unsigned_of, numeral-value, numeral-fits, is_pick}
use Rattle.chumsky_exact.specs.Capped.{capped-tokens, tokens-capped}
use Rattle.chumsky_exact.specs.Rendered.{OfEach}
use Rattle.chumsky_exact.specs.Table.{Names, BeginsNone}
use Rattle.examples.specs.declared.setting.Key.{Key}
use Rattle.examples.specs.declared.setting.Value.{Value}
use Rattle.examples.specs.declared.setting.Value.TheVariants.{Number}
use Rattle.examples.specs.declared.setting.Setting.{Setting}
use Rattle.examples.specs.Setting.{keys, switches, IsShort, IsSetting}

abbrev pub is_digit : ℕ → Bool
is_digit = among nat_eq (codes "0123456789")

-- at least so many characters, and no more than so many, each among these
abbrev pub DigitsIn : List ℕ → ℕ → Option ℕ → List ℕ → Type 0
DigitsIn digits least most = IsListFrom (RepeatedWord most (IsOne (among nat_eq digits) (λ t. ⊤))) (RepeatedEnd least most) 0

abbrev pub Digits : List ℕ → Type 0
Digits = DigitsIn (codes "0123456789") 1 (Some 4)

abbrev pub Is : List ℕ → List ℕ → Type 0
Is = Equals nat_eq

-- what each member has a token has that is among them
among-each : (P : ℕ → Type 0) (ms : List ℕ) → OfEach P ms → (c : ℕ) → among nat_eq ms c ≡ true → P c
among-each P [] h c e = absurd (cc e)
among-each P (m ∷ ms) h c e = by_first (λ g. among-each P ms h.1 c g) (nat_eq m c) refl e
  where
    by_first : (among nat_eq ms c ≡ true → P c) → (b : Bool) → nat_eq m c ≡ b → (b || among nat_eq ms c) ≡ true → P c
    by_first later true q e = let s : m ≡ c = grind (arith, nat_tests) in subst P s h.0
    by_first later false q e = later e

digit-below : (c : ℕ) → is_digit c ≡ true → digit_value c < 10
digit-below = among-each (λ c. digit_value c < 10) (codes "0123456789") (omega arith, (omega arith, (omega arith, (omega arith, (omega arith, (omega arith, (omega arith, (omega arith, (omega arith, (omega arith, tt))))))))))

all-digits : (w : List ℕ) → AllPass is_digit w → AllDigits 10 w
all-digits [] h = tt
all-digits (c ∷ cs) h = (digit-below c h.0, all-digits cs h.1)

short-value : (w : List ℕ) → AllDigits 10 w → length w ≤ 4 → digits_value 10 w < 2 ^ 16
short-value w d l =
    let a = digits_value-lt 10 w d in
    let b = pow-le-pow_right {n = 10} (omega arith) l in
    let c : 10 ^ 4 < 2 ^ 16 = omega arith in
    omega (arith, a, b, c)

-- the words of a value, and what each stands for, with what a mapper gives for the number that is picked
abbrev pub NumberWordIn : List ℕ → ℕ → Option ℕ → List ℕ → Type 0
NumberWordIn digits least most w = DigitsIn digits least most w × IsPick (unsigned_of 16 (encode_utf8_all w))

abbrev pub NumberWord : List ℕ → Type 0
NumberWord = NumberWordIn (codes "0123456789") 1 (Some 4)

abbrev pub NumberIn : (ℕ → Value → Type 0) → List ℕ → ℕ → Option ℕ → List ℕ → Value → Type 0
NumberIn gives digits least most = MapsSome (λ w n. DigitsIn digits least most w × (unsigned_of 16 (encode_utf8_all w) ≡ Some n)) gives

abbrev pub NumberOf : (ℕ → Value → Type 0) → List ℕ → Value → Type 0
NumberOf gives = NumberIn gives (codes "0123456789") 1 (Some 4)

number-short : (gives : ℕ → Value → Type 0) → ((n : ℕ) (v : Value) → gives n v → v ≡ Number n) → (w : List ℕ) (v : Value) → NumberOf gives w v → IsShort w v
number-short gives is w v h =
    let t = capped-tokens is_digit 1 4 (omega arith) w h.1.0 in
    let some : 0 < length w = omega (arith, t.2) in
    let n = numeral-value 16 w h.0 (some, all-digits w t.0) h.1.1 in
    let e : h.0 ≡ digits_value 10 w = n.0 in
    let m : v ≡ Number h.0 = is h.0 v h.2 in
    record { digits = t.0; some = some; few = t.1; written = cc (m, e) }

short-number : (w : List ℕ) (v : Value) → IsShort w v → NumberWord w
short-number w v i =
    let d = all-digits w i.digits in
    let p = numeral-fits 16 w (i.some, d) (short-value w d i.few) in
    (tokens-capped is_digit 1 4 (omega arith) w i.digits i.few (omega (arith, i.some)), is_pick 16 (unsigned_of 16 (encode_utf8_all w)) (digits_value 10 w) p)

-- no switch begins with a digit
no_digit_begins : (w rest : List ℕ) → NumberWord w → BeginsNone switches (w ++ rest)
no_digit_begins w rest h = let t = capped-tokens is_digit 1 4 (omega arith) w h.0 in by_word w t.0 (omega (arith, t.2))
  where
    by_word : (w : List ℕ) → AllPass is_digit w → 0 < length w → BeginsNone switches (w ++ rest)
    by_word [] p l = absurd (omega (arith, l))
    by_word (c ∷ cs) p l = among-each (λ c. BeginsNone switches ((c ∷ cs) ++ rest)) (codes "0123456789") ((refl, (refl, tt)), ((refl, (refl, tt)), ((refl, (refl, tt)), ((refl, (refl, tt)), ((refl, (refl, tt)), ((refl, (refl, tt)), ((refl, (refl, tt)), ((refl, (refl, tt)), ((refl, (refl, tt)), ((refl, (refl, tt)), tt)))))))))) c p.0

-- of a parser that was built with this sign, these digits and bounds
module _ (sign digits : List ℕ) (least : ℕ) (most : Option ℕ) (equals : sign ≡ codes " = ") (decimal : digits ≡ codes "0123456789") (from : least ≡ 1) (to : most ≡ Some 4) where
  word-in : (w : List ℕ) → NumberWord w → NumberWordIn digits least most w
  word-in w h =
      let a = subst (λ z. NumberWordIn (codes "0123456789") 1 z w) (sym to) h in
      let b = subst (λ z. NumberWordIn (codes "0123456789") z most w) (sym from) a in
      subst (λ z. NumberWordIn z least most w) (sym decimal) b

  in-word : (w : List ℕ) → NumberWordIn digits least most w → NumberWord w
  in-word w h =
      let a = subst (λ z. NumberWordIn z least most w) decimal h in
      let b = subst (λ z. NumberWordIn (codes "0123456789") z most w) from a in
      subst (λ z. NumberWordIn (codes "0123456789") 1 z w) to b

  in-number : (gives : ℕ → Value → Type 0) (w : List ℕ) (v : Value) → NumberIn gives digits least most w v → NumberOf gives w v
  in-number gives w v h =
      let a = subst (λ z. NumberIn gives z least most w v) decimal h in
      let b = subst (λ z. NumberIn gives (codes "0123456789") z most w v) from a in
      subst (λ z. NumberIn gives (codes "0123456789") 1 z w v) to b

  -- what a word stands for is its setting
  pub setting-sound : {P : Type 0} (KeyOf : List ℕ → Key → Type 0) (SwitchOf : List ℕ → Value → Type 0) (gives : ℕ → Value → Type 0)
      → ((w : List ℕ) (k : Key) → KeyOf w k → Names keys w k) → ((w : List ℕ) (v : Value) → SwitchOf w v → Names switches w v)
      → (text : List ℕ) (key : Key) (value : Value) (setting : Setting) → Joined (λ u. Joined (λ u. KeyOf u key) (λ u. Is sign u × P) u) (λ u. SwitchOf u value ⊎ NumberIn gives digits least most u value) text
      → setting.key ≡ key → setting.value ≡ value → ((n : ℕ) (v : Value) → gives n v → v ≡ Number n) → IsSetting text setting
  setting-sound KeyOf SwitchOf gives is_key is_switch text key value setting j ek ev is_number =
      let k = j.is_first in
      let s : k.second ≡ codes " = " = equals-same sign k.second k.is_second.0 ∙ equals in
      record {
        key = k.first;
        value = j.second;
        all = rw (j.all, k.all, s) refl;
        is_key = rw ek (is_key k.first key k.is_first);
        is_value = rw ev (elim j.is_second [ inl h ↦ inl (is_switch j.second value h) | inr h ↦ inr (number-short gives is_number j.second value (in-number gives j.second value h)) ]);
      }

  -- and a setting is a word
  pub setting-complete : (KeyWord SwitchWord : List ℕ → Type 0) → ((w : List ℕ) (k : Key) → Names keys w k → KeyWord w) → ((w : List ℕ) (v : Value) → Names switches w v → SwitchWord w)
      → (text : List ℕ) (setting : Setting) → IsSetting text setting → Joined (Joined KeyWord (Is sign)) (λ u. SwitchWord u ⊎ NumberWordIn digits least most u) text
  setting-complete KeyWord SwitchWord a_key a_switch text setting i = record {
    first = i.key ++ codes " = ";
    second = i.value;
    all = i.all;
    is_first = record { first = i.key; second = codes " = "; all = refl; is_first = a_key i.key setting.key i.is_key; is_second = subst (λ z. Is z (codes " = ")) (sym equals) (same-equals (codes " = ")) };
    is_second = elim i.is_value [ inl h ↦ inl (a_switch i.value setting.value h) | inr h ↦ inr (word-in i.value (short-number i.value setting.value h)) ];
  }

  -- no switch begins with a digit
  pub no_switch : (w rest : List ℕ) → NumberWordIn digits least most w → BeginsNone switches (w ++ rest)
  no_switch w rest h = no_digit_begins w rest (in-word w h)
