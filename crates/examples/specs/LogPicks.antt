-- What is picked of the words of a line.
-- Main words: level_of, is_blank. Main laws: level-by_word, level-named, named-level. Read first: Log.antt.
use Rattle.std.proofs.Common.{◌≡◌, ℕ, Bool, true, false, cond, ◌&&◌, Option, Some, None, List, refl, sym, ◌∙◌, ap, inl, inr}
use Rattle.std.specs.Prelude.{codes}
use Rattle.std.specs.Char.{is_whitespace}
use Rattle.std.specs.Str.{encode_utf8_all, bytes_eq}
use Rattle.std.proofs.lemmas.Slice.Eq.{bytes_eq-Decides}
use Rattle.chumsky_text.specs.Names.{IsName, name-bytes}
use Rattle.chumsky_exact.specs.Table.{Names}
use Rattle.examples.specs.declared.log_lines.Level.{Level}
use Rattle.examples.specs.declared.log_lines.Level.TheVariants.{Info, Warning, Error}
use Rattle.examples.specs.Log.{levels, in_line}

-- white space within a line
abbrev pub is_blank : ℕ → Bool
is_blank c = in_line c && is_whitespace c

-- the level of a name, if it is one
abbrev pub level_of : List ℕ → Option Level
level_of name = cond (bytes_eq name (codes "INFO")) (Some Info) (cond (bytes_eq name (codes "WARN")) (Some Warning) (cond (bytes_eq name (codes "ERROR")) (Some Error) None))

pub level-by_word : (w bytes : List ℕ) (x : Option Level) → bytes ≡ encode_utf8_all w → x ≡ level_of bytes → x ≡ level_of (encode_utf8_all w)
level-by_word w bytes x e g = g ∙ ap level_of e

-- the levels are those of the table
pub level-named : (w : List ℕ) (l : Level) → IsName w → level_of (encode_utf8_all w) ≡ Some l → Names levels w l
level-named w l n e = by_name (bytes_eq w (codes "INFO")) (bytes_eq w (codes "WARN")) (bytes_eq w (codes "ERROR")) refl refl refl (sym (ap level_of (name-bytes w n)) ∙ e)
  where
    by_name : (a b c : Bool) → bytes_eq w (codes "INFO") ≡ a → bytes_eq w (codes "WARN") ≡ b → bytes_eq w (codes "ERROR") ≡ c
        → cond a (Some Info) (cond b (Some Warning) (cond c (Some Error) None)) ≡ Some l → Names levels w l
    by_name true b c p q r g = inl ((bytes_eq-Decides w (codes "INFO")).0 p, cc g)
    by_name false true c p q r g = inr (inl ((bytes_eq-Decides w (codes "WARN")).0 q, cc g))
    by_name false false true p q r g = inr (inr (inl ((bytes_eq-Decides w (codes "ERROR")).0 r, cc g)))
    by_name false false false p q r g = absurd (cc g)

name-level : (w : List ℕ) (l : Level) → Names levels w l → IsName w × (level_of w ≡ Some l)
name-level w l (inl e) = rw (e.0, e.1) ((refl, (refl, (refl, (refl, tt)))), refl)
name-level w l (inr (inl e)) = rw (e.0, e.1) ((refl, (refl, (refl, (refl, tt)))), refl)
name-level w l (inr (inr (inl e))) = rw (e.0, e.1) ((refl, (refl, (refl, (refl, (refl, tt))))), refl)
name-level w l (inr (inr (inr e))) = absurd e

pub named-level : (w : List ℕ) (l : Level) → Names levels w l → IsName w × (level_of (encode_utf8_all w) ≡ Some l)
named-level w l n = let p = name-level w l n in (p.0, ap level_of (name-bytes w p.0) ∙ p.1)
