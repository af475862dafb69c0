-- The rule takes just what is balanced.
-- Main words: leaves, depths. Main laws: sound, complete. Read first: Brackets.antt, EachWord.antt and ExactlyLaws.antt of chumsky_grammars.
use Rattle.std.proofs.Common.{◌≡◌, ℕ, zero, suc, ◌+◌, ◌-◌, ◌<◌, ◌≤◌, ◌^◌, max, min, List, [], ◌∷◌, ◌++◌, None, length, refl, arith, append_assoc}
use Rattle.std.proofs.lemmas.List.{length-append}
use Rattle.std.specs.Prelude.{unwrap_or, ⊤}
use Rattle.chumsky_parser.specs.Ending.{At, Nowhere}
use Rattle.chumsky_grammars.specs.BuiltLeaves.{BuiltLeaf, just_to, built}
use Rattle.chumsky_grammars.specs.EachWord.{Keeps, one_rule}
use Rattle.chumsky_grammars.specs.RuleLanguage.{Makes}
use Rattle.grammars.specs.Brackets.{IsBalanced, brackets}
use Rattle.grammars.specs.Brackets.IsBalanced.{none, pair}

-- the leaves
abbrev pub leaves : List (BuiltLeaf ℕ)
leaves = just_to 40 0 ∷ just_to 41 0 ∷ []

-- the depth of two parts is the greater, of a pair one more than what is in it, and of nothing 0
abbrev pub depths : Makes ℕ ℕ
depths = record { pair = λ _ p v. v ≡ max p.0 p.1; map = λ f v w. w ≡ min (v + 1) (2 ^ 64 - 1); option = λ o v. v ≡ unwrap_or o 0; unit = λ v. ⊤; list = λ vs v. ⊤; picks = None }

-- a text is balanced, no deeper than long, and the value is its depth, or the greatest number
abbrev pub IsMeasured : List ℕ → ℕ → Type 0
IsMeasured w v = (d : ℕ) × IsBalanced w d × (d ≤ length w) × (v ≡ min d (2 ^ 64 - 1))

-- each word is so, if those of calls are
pub sound : Keeps depths leaves brackets IsMeasured
sound call deeper = (
  λ v e. (0, none, omega arith, omega arith),
  λ inside d x closed p opened q u r after e z y s v t.
      rw (append_assoc inside (41 ∷ []) after) (max (suc x.0) z.0, pair {inside = inside} {after = after} x.1 z.1, omega (arith, length-append inside (41 ∷ after)), omega arith),
)

-- what is balanced is taken, where no pair of brackets follows
pub complete : {p : List ℕ} {d : ℕ} → IsBalanced p d → (rest : List ℕ) → (built leaves 0).ends rest ≡ Nowhere → (n : ℕ) → length p < n → (one_rule depths leaves brackets n).ends (p ++ rest) ≡ At rest
complete none rest s (suc n) l = rw s refl
complete (pair {inside} {after} a b) rest s (suc n) l =
    rw (append_assoc, complete {p = inside} a (41 ∷ (after ++ rest)) refl n (omega (arith, length-append {A = ℕ})), complete {p = after} b rest s n (omega (arith, length-append {A = ℕ}))) refl
complete {p} x rest s zero l = absurd (omega arith)
