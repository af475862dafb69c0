use Rattle.std.proofs.Common.{◌≡◌, ℕ, ◌+◌, ◌≤◌, ◌<◌, List, [], ◌∷◌, ◌++◌, length, take, drop, slice_get, Some, None, refl, sym, ◌∙◌, ap, arith}
use Rattle.std.proofs.Common.{append_assoc, length-append, ⊎_elim, ◌-◌, IsTrue, nat_lt}
use Rattle.std.proofs.lemmas.List.{take-append-drop, take_at, drop_at, length-take-le}
use Rattle.std.proofs.Math.Seq.{take-add}
use Rattle.std.proofs.lemmas.Bool.{cases_lt}
use Rattle.std.proofs.lemmas.Bool.Decides.{nat_tests}
use Rattle.std.proofs.lemmas.Str.{chars-nil, chars-append, chars_past_char, IsUtf8-take, IsUtf8-drop, IsCharBoundary-past_char, IsCharBoundary-start}
use Rattle.std.proofs.lemmas.Str.{encodes-chars, drop_past_char, encodes-append, length-le-encodes}
use Rattle.std.proofs.lemmas.Option.{slice_get_past}
use Rattle.std.proofs.lemmas.List.{nil_from_length}
use Rattle.std.specs.Str.{chars, encode_utf8_all, IsUtf8}
use Rattle.std.specs.Char.{encode_utf8, len_utf8}
use Rattle.chumsky_input.specs.Text.{text_offset, text_place, IsTextCursor}

pub text_starts : (bs : List ℕ) → IsUtf8 bs → IsTextCursor bs 0
text_starts bs u = record { text = u; boundary = IsCharBoundary-start bs u }

pub text_place_start : (bs : List ℕ) → text_place bs 0 ≡ 0
text_place_start bs = let e : take 0 bs ≡ [] = refl in rw (e, chars-nil)

get_at_seam : (xs ys : List ℕ) (y : ℕ) → slice_get (xs ++ y ∷ ys) (length xs) ≡ Some y
get_at_seam [] ys y = refl
get_at_seam (x ∷ xs) ys y = get_at_seam xs ys y

-- the characters before a cursor, and those after it
chars_cut : (bs : List ℕ) (c : ℕ) → IsTextCursor bs c → chars bs ≡ chars (take c bs) ++ chars (drop c bs)
chars_cut bs c h = ap chars (sym (take-append-drop c bs)) ∙ chars-append (take c bs) (drop c bs) (IsUtf8-take bs c h.text h.boundary)

pub text_offset_place : (bs : List ℕ) (c : ℕ) → IsTextCursor bs c → text_offset bs (text_place bs c) ≡ c
text_offset_place bs c h =
    rw (chars_cut bs c h, take_at (chars (take c bs)) (chars (drop c bs)) (length (chars (take c bs))) refl, encodes-chars (take c bs) (IsUtf8-take bs c h.text h.boundary))
    (length-take-le c bs h.boundary.0)

pub text_place_end : (bs : List ℕ) (c : ℕ) → IsTextCursor bs c → text_place bs c ≤ length (chars bs)
text_place_end bs c h = let e = ap length (chars_cut bs c h) in omega (arith, length-append {A = ℕ}, simp length-append at e)

module _ (bs : List ℕ) (c ch : ℕ) (rest : List ℕ) (h : IsTextCursor bs c) (e : drop c bs ≡ encode_utf8 ch ++ rest) where
  pub text_steps : IsTextCursor bs (c + len_utf8 ch)
  text_steps = record { text = h.text; boundary = IsCharBoundary-past_char bs rest c ch h.boundary.0 (IsUtf8-drop bs c h.text h.boundary) e }

  -- the characters of the whole
  chars_split : chars bs ≡ chars (take c bs) ++ ch ∷ chars rest
  chars_split =
      chars_cut bs c h ∙ ap (λ t. chars (take c bs) ++ t) (chars_past_char (drop c bs) rest ch (IsUtf8-drop bs c h.text h.boundary) e)

  pub text_token : slice_get (chars bs) (text_place bs c) ≡ Some ch
  text_token = rw chars_split (get_at_seam (chars (take c bs)) (chars rest) ch)

  pub text_moves : text_place bs (c + len_utf8 ch) ≡ text_place bs c + 1
  text_moves =
      let d = chars_cut bs (c + len_utf8 ch) text_steps in
      let f : drop (c + len_utf8 ch) bs ≡ rest = drop_past_char bs rest c ch e in
      let g : chars (take (c + len_utf8 ch) bs) ++ chars rest ≡ chars (take c bs) ++ ch ∷ chars rest = ap (λ t. chars (take (c + len_utf8 ch) bs) ++ chars t) (sym f) ∙ sym d ∙ chars_split in
      omega (arith, simp length-append at (ap length g))

pub text_offset_mono : (bs : List ℕ) (i j : ℕ) → i ≤ j → text_offset bs i ≤ text_offset bs j
text_offset_mono bs i j h =
    let k : i + (j - i) ≡ j = omega arith in
    rw (← k, take-add i (j - i) (chars bs), encodes-append, length-append) (omega arith)

pub text_one_cursor : (bs : List ℕ) (c d : ℕ) → IsTextCursor bs c → IsTextCursor bs d → text_place bs c ≡ text_place bs d → c ≡ d
text_one_cursor bs c d h k e = sym (text_offset_place bs c h) ∙ ap (text_offset bs) e ∙ text_offset_place bs d k

-- cursors stand as their places do
pub text_before : (bs : List ℕ) (c d : ℕ) → IsTextCursor bs c → IsTextCursor bs d → c < d → text_place bs c < text_place bs d
text_before bs c d h k l =
    ⊎_elim (λ g. g) (λ g. absurd (let m = text_offset_mono bs (text_place bs d) (text_place bs c) g in omega (arith, text_offset_place bs c h, text_offset_place bs d k, m)))
    (cases_lt (text_place bs c) (text_place bs d))

pub text_not_before : (bs : List ℕ) (c d : ℕ) → IsTextCursor bs c → IsTextCursor bs d → d ≤ c → text_place bs d ≤ text_place bs c
text_not_before bs c d h k l =
    ⊎_elim (λ g. absurd (let m : text_offset bs (text_place bs c) ≤ text_offset bs (text_place bs d) = text_offset_mono bs (text_place bs c) (text_place bs d) (omega arith) in
    let s : c ≡ d = omega (arith, text_offset_place bs c h, text_offset_place bs d k, m) in let t = ap (text_place bs) s in omega arith)) (λ g. g)
    (cases_lt (text_place bs c) (text_place bs d))

pub text_le : (bs : List ℕ) (c d : ℕ) → IsTextCursor bs c → IsTextCursor bs d → text_place bs c ≤ text_place bs d → c ≤ d
text_le bs c d h k l =
    let m : text_offset bs (text_place bs c) ≤ text_offset bs (text_place bs d) = text_offset_mono bs (text_place bs c) (text_place bs d) l in
    omega (arith, text_offset_place bs c h, text_offset_place bs d k, m)

pub text_is_before : (bs : List ℕ) (c d : ℕ) → IsTextCursor bs c → IsTextCursor bs d
    → (IsTrue (nat_lt c d) → text_place bs c < text_place bs d) × (text_place bs c < text_place bs d → IsTrue (nat_lt c d))
text_is_before bs c d h k = (
  λ t. text_before bs c d h k (grind (arith, nat_tests)),
  λ l. ⊎_elim (λ m. grind (arith, nat_tests)) (λ m. absurd (let n = text_not_before bs c d h k m in omega arith)) (cases_lt c d),
)

-- the characters between two cursors
pub text_between : (bs : List ℕ) (c d : ℕ) → IsTextCursor bs c → IsTextCursor bs d → text_place bs c ≤ text_place bs d
    → chars (take (d - c) (drop c bs)) ≡ take (text_place bs d - text_place bs c) (drop (text_place bs c) (chars bs))
text_between bs c d h k l =
    let le : c ≤ d = text_le bs c d h k l in
    let middle = take (d - c) (drop c bs) in
    let split : take d bs ≡ take c bs ++ middle = (let e : c + (d - c) ≡ d = omega arith in rw (← e) (take-add c (d - c) bs ∙ ap (λ n. take c bs ++ take n (drop c bs)) (omega arith))) in
    let front : chars (take d bs) ≡ chars (take c bs) ++ chars middle = ap chars split ∙ chars-append (take c bs) middle (IsUtf8-take bs c h.text h.boundary) in
    let whole : chars bs ≡ chars (take c bs) ++ (chars middle ++ chars (drop d bs)) =
    chars_cut bs d k ∙ ap (λ t. t ++ chars (drop d bs)) front
    ∙ append_assoc (chars (take c bs)) (chars middle) (chars (drop d bs)) in
    let n : length (chars middle) ≡ text_place bs d - text_place bs c = (let e = ap length front in omega (arith, simp length-append at e)) in
    sym (ap (λ t. take (text_place bs d - text_place bs c) (drop (text_place bs c) t)) whole
    ∙ ap (take (text_place bs d - text_place bs c)) (drop_at (chars (take c bs)) (chars middle ++ chars (drop d bs)) (text_place bs c) refl)
    ∙ take_at (chars middle) (chars (drop d bs)) (text_place bs d - text_place bs c) n)

pub text_place_within : (bs : List ℕ) (c : ℕ) → IsTextCursor bs c → text_place bs c ≤ c
text_place_within bs c h =
    let e : encode_utf8_all (chars (take c bs)) ≡ take c bs = encodes-chars (take c bs) (IsUtf8-take bs c h.text h.boundary) in
    let l = length-le-encodes (chars (take c bs)) in
    let m : length (encode_utf8_all (chars (take c bs))) ≡ c = ap length e ∙ length-take-le c bs h.boundary.0 in
    omega arith

pub text_past_end : (bs : List ℕ) (c : ℕ) → IsTextCursor bs c → length (drop c bs) ≡ 0 → slice_get (chars bs) (text_place bs c) ≡ None
text_past_end bs c h e =
    let n : drop c bs ≡ [] = nil_from_length (drop c bs) e in
    let k : chars bs ≡ chars (take c bs) ++ [] = chars_cut bs c h ∙ ap (λ t. chars (take c bs) ++ t) (ap chars n ∙ chars-nil) in
    slice_get_past (chars bs) (text_place bs c) (let m = ap length k in omega (arith, simp length-append at m))
