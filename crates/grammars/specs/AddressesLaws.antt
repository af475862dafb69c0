-- The rule takes just the addresses.
-- Main word: AreAddressLeaves. Main laws: leaves-address, each_decides. Read first: Addresses.antt, EachWord.antt, Deciding.antt and ExactlyLaws.antt of chumsky_grammars.
use Rattle.std.proofs.Common.{◌≡◌, ℕ, ◌+◌, ◌*◌, ◌-◌, ◌<◌, ◌^◌, Bool, true, false, cond, nat_eq, nat_lt, Some, None, List, [], ◌∷◌, ◌++◌, map, refl, sym, ◌∙◌, ap, arith}
use Rattle.std.proofs.lemmas.Bool.Decides.{nat_tests}
use Rattle.std.specs.Borrow.{Bor}
use Rattle.std.specs.Char.{is_digit}
use Rattle.std.specs.Prelude.{unwrap_or, Result, ⊤}
use Rattle.std.specs.Result.{result_ok}
use Rattle.std.specs.Str.Parse.{digits_value}
use Rattle.chumsky_parser.specs.Language.{Language}
use Rattle.chumsky_parser.specs.Words.{Joined}
use Rattle.chumsky_primitive.specs.Literals.{equals-same, same-equals}
use Rattle.chumsky_primitive.specs.PrimitiveLanguage.{Equals}
use Rattle.chumsky_combinator.specs.MappedLanguage.{map_language}
use Rattle.chumsky_exact.specs.Parts.{joined, never_goes_on}
use Rattle.chumsky_judge.specs.Picked.{IsPick}
use Rattle.chumsky_text.specs.Decimals.{IsInt, TextSlice, below, unsigned_of, int-decimal, decimal-int, numeral-picked, numeral-value, numeral-fits, is_pick, slice-bytes}
use Rattle.chumsky_text.specs.TextLanguage.{StopsAll, word_language}
use Rattle.chumsky_grammars.specs.BuiltLeaves.{BuiltLeaf, just_to, with_language, leaf_language}
use Rattle.chumsky_grammars.specs.Deciding.{DecidesByWord, EachDecides}
use Rattle.chumsky_grammars.specs.EachWord.{Keeps, one_rule, each-call}
use Rattle.chumsky_grammars.specs.ExactlyLaws.{ExactWords}
use Rattle.chumsky_grammars.specs.Leaves.{leaves_of}
use Rattle.chumsky_grammars.specs.RuleLanguage.{Makes}
use Rattle.grammars.specs.Addresses.{IsByte, IsAddress, byte_of, address_expression}
use Rattle.grammars.specs.Addresses.IsAddress.{four}

-- an address of one number more, which may refuse numbers
abbrev pub addresses : Makes ℕ ℕ
addresses = record { pair = λ _ p v. p.0 * 256 + p.1 < 2 ^ 32 → v ≡ p.0 * 256 + p.1; map = λ f v w. ⊤; option = λ o v. ⊤; unit = λ v. ⊤; list = λ vs v. ⊤; picks = Some (λ f. byte_of) }

-- digits go on with a number, unless it is a zero
abbrev goes_on : ℕ → ℕ → Bool
goes_on t c = cond (nat_eq t 48) false (is_digit c 10)

-- a byte is a word of which one is picked
abbrev IsByteWord : List ℕ → Type 0
IsByteWord w = IsInt w × IsPick (byte_of w)

byte_word : (w : List ℕ) (n : ℕ) → IsByte w n → IsByteWord w
byte_word w n i =
    let f : digits_value 10 w < 2 ^ 8 = (let e = i.value in let l = i.fits in omega arith) in
    (decimal-int w i.digits, is_pick 8 (byte_of w) (digits_value 10 w) (numeral-fits 8 w i.digits.0 f))

word_byte : (w : List ℕ) (n : ℕ) → IsInt w × (byte_of w ≡ Some n) → IsByte w n
word_byte w n h =
    let d = int-decimal w h.0 in
    let v = numeral-value 8 w n d.0 h.1 in
    record { digits = d; value = v.0; fits = omega (arith, v) }

-- what is made of a number that 32 bits hold, or of the greatest, is what is made of the number
capped : (n : ℕ) → below 8 (unwrap_or (below 32 n) (2 ^ 32 - 1)) ≡ below 8 n
capped n = by_size (nat_lt n (2 ^ 32)) refl
  where
    by_size : (b : Bool) → nat_lt n (2 ^ 32) ≡ b → below 8 (unwrap_or (cond b (Some n) None) (2 ^ 32 - 1)) ≡ below 8 n
    by_size true e = refl
    by_size false e = let l : nat_lt n (2 ^ 8) ≡ false = grind (arith, nat_tests) in rw l refl

-- a dot and a byte
abbrev Next : List ℕ → Type 0
Next = Joined (Equals nat_eq (46 ∷ [])) IsByteWord

next : (w : List ℕ) (n : ℕ) → IsByte w n → Next (46 ∷ w)
next w n i = joined (46 ∷ []) w (same-equals (46 ∷ [])) (byte_word w n i)

-- no number goes on with it
stops : (w rest : List ℕ) → Next w → StopsAll goes_on (w ++ rest)
stops w rest j t = let e : w ≡ 46 ∷ j.second = (rw (equals-same (46 ∷ []) j.first j.is_first) at j.all) in rw e (never_goes_on (nat_eq t 48))

-- digits that write a number, which is the greatest where 32 bits don't hold it
abbrev number : Language ℕ ℕ
number = map_language (λ (s : Bor (List ℕ)) n. n ≡ unwrap_or (unsigned_of 32 s.now) (2 ^ 32 - 1)) (word_language (TextSlice (λ (s : Bor (List ℕ)). s.now)) (λ t. is_digit t 10) goes_on)

-- the leaves, of which the second takes this character
abbrev leaves : ℕ → List (BuiltLeaf ℕ)
leaves c = with_language number ∷ just_to c 0 ∷ []

-- each word stands for an address
sound : Keeps addresses (leaves 46) address_expression IsAddress
sound call deeper = λ a k h b l i x p y q c m j z r u s d n o t e v f.
    let first = word_byte a k h in
    let second = word_byte b l i in
    let third = word_byte c m j in
    let last = word_byte d n o in
    let is : v ≡ ((k * 256 + l) * 256 + m) * 256 + n = omega (arith, first.fits, second.fits, third.fits, last.fits) in
    rw is (four {a = a} {b = b} {c = c} {d = d} first second third last)

-- the words are unambiguous, and each address is one
words : ExactWords addresses address_expression IsAddress (map leaf_language (leaves 46))
words = record {
  move = refl;
  sound = each-call addresses (leaves 46) address_expression IsAddress sound;
  once = λ n.
      let dotted : ⊤ × ⊤ × ((w rest : List ℕ) → IsByteWord w → StopsAll goes_on rest → ⊤) = (tt, tt, λ w rest h f. tt) in
      (((tt, dotted, λ w rest h f. stops w rest h), dotted, λ w rest h f. stops w rest h), dotted, λ w rest h f. stops w rest h);
  follows = λ n t. tt;
  complete = λ n w v i. is_word w v i;
}
  where
    is_word : (w : List ℕ) (v : ℕ) → IsAddress w v → (one_rule addresses (leaves 46) address_expression 1).word w
    is_word w v (four {a} {b} {c} {d} {k} {l} {m} {n} i j x y) =
        joined ((a ++ (46 ∷ b)) ++ (46 ∷ c)) (46 ∷ d) (joined (a ++ (46 ∷ b)) (46 ∷ c) (joined a (46 ∷ b) (byte_word a k i) (next b l j)) (next c m x)) (next d n y)

-- over these leaves the words are just the addresses; and of a number that the first makes, a byte is made just where its word
-- writes one
pub record AreAddressLeaves (ls : List (Language ℕ ℕ)) : Type 0 where
  pub words : ExactWords addresses address_expression IsAddress ls
  pub decides : (w : List ℕ) (v : ℕ) → (leaves_of ls 0).stands_for w v → below 8 v ≡ byte_of w

-- digits and a dot are such
pub leaves-address : (c : ℕ) → c ≡ 46 → AreAddressLeaves (map leaf_language (leaves c))
leaves-address c dot = rw dot (record {
  words = words;
  decides = λ w v s.
      let d = (int-decimal w s.1.0).0 in
      let n : unsigned_of 32 s.0.now ≡ below 32 (digits_value 10 w) = ap (unsigned_of 32) (slice-bytes (λ (s : Bor (List ℕ)). s.now) w s.0 s.1.1) ∙ numeral-picked 32 w d in
      let c : v ≡ unwrap_or (below 32 (digits_value 10 w)) (2 ^ 32 - 1) = s.2 ∙ ap (λ x. unwrap_or x (2 ^ 32 - 1)) n in
      ap (below 8) c ∙ capped (digits_value 10 w) ∙ sym (numeral-picked 8 w d);
})

-- the mapper decides by the word
pub each_decides : (ls : List (Language ℕ ℕ)) → AreAddressLeaves ls
    → {Sp Er : Type 0} → EachDecides addresses (leaves_of ls) (address_expression ∷ []) (λ f number (span : Sp) (r : Result ℕ Er). result_ok r ≡ below 8 number)
each_decides ls are {Sp} {Er} n = ((judged, (judged, (judged, (judged, tt)))), tt)
  where
    judged : DecidesByWord byte_of (leaves_of ls 0).stands_for (λ number (span : Sp) (r : Result ℕ Er). result_ok r ≡ below 8 number)
    judged w v span r s g = g ∙ are.decides w v s
