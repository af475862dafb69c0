-- Cursors into a text.
use Rattle.std.specs.Prelude.{◌≡◌, ℕ, ◌≤◌, ◌-◌, List, length, take, drop}
use Rattle.std.specs.Str.{chars, encode_utf8_all, IsUtf8, IsCharBoundary}
use Rattle.std.proofs.Common.{ap, sym, ◌∙◌, arith, subst}
use Rattle.std.proofs.lemmas.Str.{IsUtf8-had, encodes-chars}
use Rattle.chumsky_input.specs.Text.{text_place, IsTextCursor}
use Rattle.chumsky_input.specs.TextLaws.{text_place_end, text_offset_place, text_le, text_between}

-- the byte offset of the place i among these characters
abbrev pub char_offset : List ℕ → ℕ → ℕ
char_offset cs i = length (encode_utf8_all (take i cs))

pub cursor_in_text : (bs : List ℕ) (at : ℕ) → ∥ IsUtf8 bs ∥₁ → IsCharBoundary bs at → IsTextCursor bs at
cursor_in_text bs at u b = record { text = IsUtf8-had bs u; boundary = b }

pub place_in_text : (bs : List ℕ) (at place : ℕ) → ∥ IsUtf8 bs ∥₁ → IsCharBoundary bs at → place ≡ text_place bs at → place ≤ length (chars bs)
place_in_text bs at place u b e = let h = text_place_end bs at (cursor_in_text bs at u b) in omega arith

-- a cursor stands at the offset of its place
pub cursor_span : (bs : List ℕ) (at place : ℕ) → ∥ IsUtf8 bs ∥₁ → IsCharBoundary bs at → place ≡ text_place bs at → at ≡ char_offset (chars bs) place
cursor_span bs at place u b e = sym (ap (char_offset (chars bs)) e ∙ text_offset_place bs at (cursor_in_text bs at u b))

texts_same : (bs ds : List ℕ) → IsUtf8 bs → IsUtf8 ds → chars ds ≡ chars bs → bs ≡ ds
texts_same bs ds u v e = sym (encodes-chars bs u) ∙ ap encode_utf8_all (sym e) ∙ encodes-chars ds v

module _ (bs ds : List ℕ) (c d p q : ℕ) (h : IsTextCursor bs c) (hp : p ≡ text_place bs c) (k : IsTextCursor ds d) (kq : q ≡ text_place ds d) (e : chars ds ≡ chars bs) (l : p ≤ q) where
  pub cursor_there : IsTextCursor ds c
  cursor_there = subst (λ t. IsTextCursor t c) (texts_same bs ds h.text k.text e) h

  place_there : p ≡ text_place ds c
  place_there = hp ∙ ap (λ t. text_place t c) (texts_same bs ds h.text k.text e)

  in_order : text_place ds c ≤ text_place ds d
  in_order = let a = place_there in omega arith

  pub cursors_le : c ≤ d
  cursors_le = text_le ds c d cursor_there k in_order

  pub chars_between : chars (take (d - c) (drop c ds)) ≡ take (q - p) (drop p (chars bs))
  chars_between =
      text_between ds c d cursor_there k in_order
      ∙ ap (λ n. take (n - text_place ds c) (drop (text_place ds c) (chars ds))) (sym kq)
      ∙ ap (λ n. take (q - n) (drop n (chars ds))) (sym place_there)
      ∙ ap (λ t. take (q - p) (drop p t)) e
