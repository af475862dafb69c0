-- How JSON writes strings: plain characters and escapes between quotes, after RFC 8259.
-- Main words: IsPiece, IsString. Laws: JsonStringsLaws.antt.
use Rattle.std.specs.Prelude.{◌≡◌, ℕ, ◌==◌, ◌&&◌, ◌||◌, not, nat_le, true, cond, Bool, Option, Some, None, List, [], ◌∷◌, ◌++◌, String, string_bytes}
use Rattle.std.specs.Char.{is_digit}
use Rattle.std.specs.Char.Utf16.{lone_unit_char, is_high_surrogate, is_low_surrogate, surrogate_pair_char}
use Rattle.std.specs.Str.{chars}
use Rattle.std.specs.Str.Parse.{digits_value}
use Rattle.std.specs.declared.alloc.Global.{Global}

-- what stands for itself: no control character, no quote and no backslash
abbrev pub is_plain : ℕ → Bool
is_plain c = nat_le 32 c && not ((c == 34) || (c == 92))

-- what a letter stands for after a backslash: a quote, a backslash and a slash for themselves, and `b`, `f`, `n`, `r` and `t` for
-- backspace, form feed, line feed, return and tab
abbrev pub escaped : ℕ → Option ℕ
escaped e = cond ((e == 34) || (e == 92) || (e == 47)) (Some e) (cond (e == 98) (Some 8) (cond (e == 102) (Some 12) (cond (e == 110) (Some 10) (cond (e == 114) (Some 13) (cond (e == 116) (Some 9) None)))))

-- the unit of UTF-16 that four hexadecimal digits write, in either case
abbrev pub unit_of : List ℕ → Option ℕ
unit_of (a ∷ b ∷ c ∷ d ∷ []) = cond (is_digit a 16 && (is_digit b 16 && (is_digit c 16 && is_digit d 16))) (Some (digits_value 16 (a ∷ b ∷ c ∷ d ∷ []))) None
unit_of _ = None

-- a text within quotes stands for a character: itself; a backslash (92) and a letter; a backslash, `u` (117) and the digits of a
-- unit; or two such, which are halves of a pair of surrogates
pub data IsPiece : List ℕ → ℕ → Type 0 where
  plain : (c : ℕ) → is_plain c ≡ true → IsPiece (c ∷ []) c
  by_letter : (e c : ℕ) → escaped e ≡ Some c → IsPiece (92 ∷ e ∷ []) c
  by_unit : (h : List ℕ) (u c : ℕ) → unit_of h ≡ Some u → lone_unit_char u ≡ Some c → IsPiece (92 ∷ 117 ∷ h) c
  by_pair : (h l : List ℕ) (u v : ℕ) → unit_of h ≡ Some u → is_high_surrogate u ≡ true → unit_of l ≡ Some v → is_low_surrogate v ≡ true → IsPiece (92 ∷ 117 ∷ (h ++ (92 ∷ 117 ∷ l))) (surrogate_pair_char u v)

-- such texts one after another stand for characters in order
pub data ArePieces : List ℕ → List ℕ → Type 0 where
  no_piece : ArePieces [] []
  more_pieces : {w ws cs : List ℕ} {c : ℕ} → IsPiece w c → ArePieces ws cs → ArePieces (w ++ ws) (c ∷ cs)

-- a string: they stand between quotes (34)
pub data IsString : List ℕ → List ℕ → Type 0 where
  quoted : {w cs : List ℕ} → ArePieces w cs → IsString (34 ∷ (w ++ 34 ∷ [])) cs

-- a text is that of a string with these characters
abbrev pub HoldsString : List ℕ → String Global → Type 0
HoldsString text s = IsString text (chars (string_bytes s))
