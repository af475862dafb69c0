-- The function that reads pairs accepts just these.
-- Main word: calls. Main laws: sound, taken. Read first: Nested.antt, ByCalls.antt of chumsky_exact.
use Rattle.std.proofs.Common.{◌≡◌, ℕ, zero, suc, ◌<◌, List, [], ◌∷◌, ◌++◌, append_assoc, true, refl, sym, ◌∙◌, ap, rules, inl, inr}
use Rattle.std.specs.Prelude.{codes}
use Rattle.std.proofs.lemmas.List.{append-nil}
use Rattle.chumsky_parser.specs.Ending.{At}
use Rattle.chumsky_parser.specs.Language.{Language}
use Rattle.chumsky_exact.specs.ByCalls.{called, due, due-within, due-enough}
use Rattle.chumsky_exact.specs.Parts.{within}
use Rattle.exact.specs.Nested.{nested, IsNested}
use Rattle.exact.specs.contracts.nested.OfPairBodyRefStrUnitEmptyText.TheImpl.{ghosts, no_dict}
use denote.Builtin.{unit}

-- the language of a call under so many open calls
abbrev pub calls : ℕ → Language ℕ (Unit {0})
calls = called (λ call. (ghosts unit call no_dict).body tt)

-- each word is pairs
pub sound : (depth : ℕ) (w : List ℕ) (value : Unit {0}) → (calls depth).word w → IsNested w value
sound zero w value j = absurd j
sound (suc depth) w value j = within (λ z. IsNested z value) (codes "[") (codes "]") j (λ u k. elim k [
  | inl h ↦ let i = sound depth u tt h in record { around = suc i.around; is = ap (λ z. codes "[" ++ (z ++ codes "]")) i.is }
  | inr none ↦ record { around = zero; is = ap (λ z. codes "[" ++ (z ++ codes "]")) none }
])

-- and pairs are taken, under as many calls as they need
pub taken : (n depth : ℕ) (rest : List ℕ) → (calls depth).ends (nested n ++ rest) ≡ due depth (suc n) rest
taken n zero rest = refl
taken zero (suc zero) rest = refl
taken zero (suc (suc depth)) rest = refl
taken (suc n) (suc depth) rest = rw (append_assoc (nested n) (93 ∷ []) rest, taken n depth (93 ∷ rest)) (due-within depth (suc n) _ _ refl)

-- all of a text is taken, under enough calls
pub whole : (n depth : ℕ) → suc n < depth → (calls depth).ends (nested n) ≡ At []
whole n depth l = ap (calls depth).ends (sym (append-nil (nested n))) ∙ (taken n depth [] ∙ due-enough depth (suc n) [] l)

-- of each call something is said
pub said : (depth : ℕ) → (calls depth).said ≡ true
said zero = refl
said (suc depth) = rw (said depth) refl

-- and none asks for memory
pub sparing : (depth : ℕ) → (calls depth).takes_no_memory
sparing zero = tt
sparing (suc depth) = (search rules, (sparing depth, search rules))
