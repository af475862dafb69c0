-- The characters of a text from a byte on, one by one.
use Rattle.std.specs.Prelude.{◌≡◌, ℕ, ◌+◌, ◌≤◌, ◌<◌, Bool, true, false, cond, List, [], ◌∷◌, ◌++◌, ◌||◌, length, drop, slice_index, slice_index_or, nat_eq}
use Rattle.std.specs.List.{list_any}
use Rattle.std.specs.Str.{chars, IsUtf8, IsCharBoundary}
use Rattle.std.specs.Char.{encode_utf8, len_utf8}
use Rattle.std.proofs.Common.{ap, sym, ◌∙◌, refl, arith, subst, ⊎_elim}
use Rattle.std.proofs.lemmas.Bool.{cases_lt, cases_Bool}
use Rattle.std.proofs.lemmas.List.{nil_from_length, length-drop, drop_more, drop_all, append-nil}
use Rattle.std.proofs.lemmas.List.Folds.{list_any_none, list_any-append}
use Rattle.std.proofs.lemmas.List.Elements.{All-from_get_or}
use Rattle.std.proofs.Math.Utf8.{encodes}
use Rattle.std.proofs.lemmas.Bool.Decides.{nat_tests}
use Rattle.std.proofs.lemmas.Str.{chars-nil, chars_past_char, drop_past_char, IsUtf8-drop, IsCharBoundary-start, IsCharBoundary-past_char}
use Rattle.std.proofs.lemmas.Str.{IsCharBoundary-before_ascii, encode_ascii, len_utf8_ascii, encodes-chars, length-le-encodes, NoCharPasses-byte}
use Rattle.chumsky_parser.specs.Members.{at_boundary, chars_from}

boundary_yes : (bs : List ℕ) (i : ℕ) → IsCharBoundary bs i → at_boundary bs i ≡ true
boundary_yes bs i h = let a = h.0 in let b = h.1 in grind (arith, nat_tests)

boundary_in : (bs : List ℕ) (i : ℕ) → 0 < i → at_boundary bs i ≡ true → i ≤ length bs
boundary_in bs i p e = grind (arith, nat_tests)

boundary_lead : (bs : List ℕ) (i : ℕ) → 0 < i → at_boundary bs i ≡ true → i < length bs → 128 ≤ slice_index bs i → 192 ≤ slice_index bs i
boundary_lead bs i p e l h = grind (arith, nat_tests)

boundary_back : (bs : List ℕ) (i : ℕ) → IsUtf8 bs → at_boundary bs i ≡ true → IsCharBoundary bs i
boundary_back bs i u e =
    ⊎_elim (λ p. (boundary_in bs i p e, boundary_lead bs i p e))
    (λ z. let o : 0 ≡ i = omega arith in let P : ℕ → Type 0 = λ k. IsCharBoundary bs k in subst P o (IsCharBoundary-start bs u)) (cases_lt 0 i)

either_way : (P : Type 0) (b : Bool) → (b ≡ true → P) → ¬ P → b ≡ false
either_way P true f n = absurd (n (f refl))
either_way P false f n = refl

boundary_no : (bs : List ℕ) (i : ℕ) → IsUtf8 bs → ¬ (IsCharBoundary bs i) → at_boundary bs i ≡ false
boundary_no bs i u n = either_way (IsCharBoundary bs i) (at_boundary bs i) (boundary_back bs i u) n

pub chars_from_none : (bs : List ℕ) (i : ℕ) → IsUtf8 bs → ¬ (IsCharBoundary bs i) → chars_from bs i ≡ []
chars_from_none bs i u n = ap (λ b. cond b (chars (drop i bs)) []) (boundary_no bs i u n)

pub chars_from_end : (bs : List ℕ) (i : ℕ) → IsCharBoundary bs i → length (drop i bs) ≡ 0 → chars_from bs i ≡ []
chars_from_end bs i h e = ap (λ b. cond b (chars (drop i bs)) []) (boundary_yes bs i h) ∙ ap chars (nil_from_length _ e) ∙ chars-nil

pub chars_from_step : (bs rest : List ℕ) (i c : ℕ) → IsUtf8 bs → IsCharBoundary bs i → drop i bs ≡ encode_utf8 c ++ rest → chars_from bs i ≡ c ∷ chars_from bs (i + len_utf8 c)
chars_from_step bs rest i c u h e =
    let v = IsUtf8-drop bs i u h in
    let next = IsCharBoundary-past_char bs rest i c h.0 v e in
    ap (λ b. cond b (chars (drop i bs)) []) (boundary_yes bs i h) ∙ chars_past_char (drop i bs) rest c v e
    ∙ sym (ap (λ b. c ∷ cond b (chars (drop (i + len_utf8 c) bs)) []) (boundary_yes bs (i + len_utf8 c) next) ∙ ap (λ t. c ∷ chars t) (drop_past_char bs rest i c e))

-- a byte below 128 is a character by itself
pub chars_from_ascii : (bs : List ℕ) (i : ℕ) → IsUtf8 bs → i < length bs → slice_index_or bs i 0 < 128 → chars_from bs i ≡ slice_index_or bs i 0 ∷ chars_from bs (i + 1)
chars_from_ascii bs i u l small =
    let c = slice_index_or bs i 0 in
    let here : drop i bs ≡ encode_utf8 c ++ drop (i + 1) bs = drop_more bs i 0 l ∙ ap (λ t. t ++ drop (i + 1) bs) (sym (encode_ascii c small)) in
    chars_from_step bs (drop (i + 1) bs) i c u (IsCharBoundary-before_ascii bs i l small) here ∙ ap (λ n. c ∷ chars_from bs (i + n)) (len_utf8_ascii c small)

-- from a byte on a text has no more characters than bytes
pub chars_from_few : (bs : List ℕ) (i : ℕ) → IsUtf8 bs → length (chars_from bs i) ≤ length bs
chars_from_few bs i u = ⊎_elim some (λ e. rw e (omega arith)) (cases_Bool (at_boundary bs i))
  where
    some : at_boundary bs i ≡ true → length (chars_from bs i) ≤ length bs
    some e =
        let few = length-le-encodes (chars (drop i bs)) in
        let all = ap length (encodes-chars (drop i bs) (IsUtf8-drop bs i u (boundary_back bs i u e))) in
        let part = length-drop i bs in
        rw e (omega (arith, few, all, part))

pub chars_from_past : (bs : List ℕ) (i : ℕ) → length bs ≤ i → chars_from bs i ≡ []
chars_from_past bs i l = ap (λ t. cond (at_boundary bs i) t []) (ap chars (drop_all i bs l) ∙ chars-nil) ∙ nothing (at_boundary bs i)
  where
    nothing : (b : Bool) → cond {A = List ℕ} b [] [] ≡ []
    nothing true = refl
    nothing false = refl

module _ (t : ℕ) (small : t < 128) where
  other_byte : (x : ℕ) → 128 ≤ x → nat_eq x t ≡ false
  other_byte x l = grind (arith, nat_tests)

  -- a character passes where one of its bytes does
  in_one : (c : ℕ) → list_any (λ x. nat_eq x t) (encode_utf8 c) ≡ nat_eq c t
  in_one c =
      ⊎_elim (λ l. rw (encode_ascii c l) (or-false (nat_eq c t)))
      (λ l. list_any_none (λ x. nat_eq x t) (encode_utf8 c) (All-from_get_or (λ x. nat_eq x t ≡ false) (encode_utf8 c) 0 (λ i k. by c l i k)) ∙ sym (other_byte c l)) (cases_lt c 128)
    where
      or-false : (b : Bool) → (b || false) ≡ b
      or-false true = refl
      or-false false = refl

      by : (c : ℕ) → 128 ≤ c → (i : ℕ) → i < length (encode_utf8 c) → nat_eq (slice_index_or (encode_utf8 c) i 0) t ≡ false
      by c l i k =
          ⊎_elim (λ s. NoCharPasses-byte (λ x. nat_eq x t) (encode_utf8 c) i (c ∷ [], append-nil (encode_utf8 c), (other_byte c l, tt)) k s)
          (λ s. other_byte _ s) (cases_lt (slice_index_or (encode_utf8 c) i 0) 128)

  in_all : (cs : List ℕ) → list_any (λ x. nat_eq x t) (encodes cs) ≡ list_any (λ x. nat_eq x t) cs
  in_all [] = refl
  in_all (c ∷ cs) = list_any-append (λ x. nat_eq x t) (encode_utf8 c) (encodes cs) ∙ ap (λ b. b || list_any (λ x. nat_eq x t) (encodes cs)) (in_one c) ∙ ap (λ b. nat_eq c t || b) (in_all cs)

  -- a character below 128 is in a text where it is one of its bytes
  pub ascii_in_text : (bs : List ℕ) → IsUtf8 bs → list_any (λ x. nat_eq x t) bs ≡ list_any (λ x. nat_eq x t) (chars bs)
  ascii_in_text bs u = ap (list_any (λ x. nat_eq x t)) (sym (encodes-chars bs u)) ∙ in_all (chars bs)
