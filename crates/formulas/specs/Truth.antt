-- The parser of a `t` or an `f`: what it takes, and what may stand around that.
-- Main words: Truths, truth_of, truth. Main laws: truth-by, truth-alone, truth-begins. Read first: Signs.antt.
use Rattle.std.proofs.Common.{◌≡◌, ℕ, Bool, true, false, nat_eq, List, refl, inl, inr}
use Rattle.std.specs.Prelude.{codes, ⊤}
use Rattle.chumsky_parser.specs.ChoiceLanguage.{or_language, FailsOn}
use Rattle.chumsky_parser.specs.Language.{Language}
use Rattle.chumsky_primitive.specs.Literals.{equals-same, same-equals}
use Rattle.chumsky_combinator.specs.MappedLanguage.{to_language}
use Rattle.formulas.specs.Signs.{character, apart}

-- what such a parser is given: two characters, and their values
pub record Truths : Type 0 where
  pub t : ℕ
  pub f : ℕ
  pub holds : Bool
  pub fails : Bool

-- those of this one
abbrev pub truths : Truths
truths = record { t = 116; f = 102; holds = true; fails = false }

abbrev pub truth_of : Truths → Language ℕ Bool
truth_of g = or_language (to_language (λ w. w ≡ g.holds) ⊤ (character g.t)) (to_language (λ w. w ≡ g.fails) ⊤ (character g.f))

abbrev pub truth : Language ℕ Bool
truth = truth_of truths

-- what is so of a `t` and of an `f` is so of what it takes
pub truth-by : (P : List ℕ → Bool → Type 0) → P (codes "t") true → P (codes "f") false → (w : List ℕ) (v : Bool) → truth.stands_for w v → P w v
truth-by P t f w v (inl x) = let s = equals-same (codes "t") w x.0 in let q = x.1 in rw (s, q) t
truth-by P t f w v (inr x) = let s = equals-same (codes "f") w x.0 in let q = x.1 in rw (s, q) f

pub truth-valued : (w : List ℕ) → truth.word w → (v : Bool) × truth.stands_for w v
truth-valued w (inl x) = (true, inl (x, refl))
truth-valued w (inr x) = (false, inr (x, refl))

pub is-t : truth.word (codes "t")
is-t = inl (same-equals (codes "t"))

pub is-f : truth.word (codes "f")
is-f = inr (same-equals (codes "f"))

-- neither is the beginning of the other, nor is another character
pub truth-alone : truth.unambiguous
truth-alone = (tt, tt, λ w rest e f. apart 116 102 refl w rest e)

pub truth-begins : (c : ℕ) → nat_eq c 116 ≡ false → nat_eq c 102 ≡ false → FailsOn (character c) truth
truth-begins c t f w rest (inl e) n = apart c 116 t w rest e
truth-begins c t f w rest (inr e) n = apart c 102 f w rest e
