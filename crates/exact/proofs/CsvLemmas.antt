-- What is left of a text without the end of its last line.
-- Main laws: trimmed-return, trimmed-end, trimmed-none.
use Rattle.std.proofs.Common.{◌≡◌, ◌≢◌, ℕ, ◌<◌, arith, List, [], ◌∷◌, ◌++◌, length, take, append_assoc, sym, ◌∙◌, ap, subst}
use Rattle.std.specs.Str.{IsUtf8, IsAscii, chars}
use Rattle.std.proofs.Math.Utf8.{encodes}
use Rattle.std.proofs.Math.Seq.{take-append_seam}
use Rattle.std.proofs.lemmas.Str.{chars-append, chars-IsAscii, encodes-append, encodes-chars, encodes-IsAscii, IsUtf8-take, IsUtf8-from_ascii, IsCharBoundary-at_seam}
use Rattle.std.proofs.lemmas.Str.Ascii.{IsAscii-nil, IsAscii-cons}
use Rattle.exact.specs.Csv.{without_line_end}
use Rattle.exact.specs.CsvLaws.{without-return, without-end, without-none}

module _ (c : ℕ) (small : c < 128) where
  ascii : IsAscii (c ∷ [])
  ascii = IsAscii-cons c [] small IsAscii-nil

  -- a text before such a character, and what it says
  module _ (bs : List ℕ) (u : IsUtf8 bs) where
    pub front-text : (front : List ℕ) → bs ≡ front ++ (c ∷ []) → IsUtf8 front
    front-text front e =
        let b = IsCharBoundary-at_seam bs front (c ∷ []) e (IsUtf8-from_ascii (c ∷ []) ascii) in
        subst IsUtf8 (ap (take (length front)) e ∙ take-append_seam front (c ∷ [])) (IsUtf8-take bs (length front) u b)

    pub front-chars : (front : List ℕ) → bs ≡ front ++ (c ∷ []) → chars bs ≡ chars front ++ (c ∷ [])
    front-chars front e = ap chars e ∙ chars-append front (c ∷ []) (front-text front e) ∙ ap (λ z. chars front ++ z) (chars-IsAscii (c ∷ []) ascii)

    -- and where its bytes don't end so, its characters don't
    pub chars-end : ((front : List ℕ) → bs ≢ front ++ (c ∷ [])) → (front : List ℕ) → chars bs ≢ front ++ (c ∷ [])
    chars-end h front e = h (encodes front) (sym (encodes-chars bs u) ∙ ap encodes e ∙ encodes-append front (c ∷ []) ∙ ap (λ z. encodes front ++ z) (encodes-IsAscii (c ∷ []) ascii))

lf_small : 10 < 128
lf_small = omega arith

cr_small : 13 < 128
cr_small = omega arith

-- what is before LF, and before CR and LF
pub trimmed-return : (bs line shorter : List ℕ) → IsUtf8 bs → bs ≡ line ++ (10 ∷ []) → line ≡ shorter ++ (13 ∷ []) → chars shorter ≡ without_line_end (chars bs)
trimmed-return bs line shorter u e d =
    let v = front-text 10 lf_small bs u line e in
    let a = front-chars 10 lf_small bs u line e ∙ ap (λ z. z ++ (10 ∷ [])) (front-chars 13 cr_small line v shorter d) ∙ append_assoc (chars shorter) (13 ∷ []) (10 ∷ []) in
    sym (ap without_line_end a ∙ without-return (chars shorter))

pub trimmed-end : (bs line : List ℕ) → IsUtf8 bs → bs ≡ line ++ (10 ∷ []) → ((front : List ℕ) → line ≢ front ++ (13 ∷ [])) → chars line ≡ without_line_end (chars bs)
trimmed-end bs line u e h =
    let v = front-text 10 lf_small bs u line e in
    sym (ap without_line_end (front-chars 10 lf_small bs u line e) ∙ without-end (chars line) (chars-end 13 cr_small line v h))

pub trimmed-none : (bs : List ℕ) → IsUtf8 bs → ((front : List ℕ) → bs ≢ front ++ (10 ∷ [])) → chars bs ≡ without_line_end (chars bs)
trimmed-none bs u h = sym (without-none (chars bs) (chars-end 10 lf_small bs u h))
