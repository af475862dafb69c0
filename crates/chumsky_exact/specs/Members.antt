-- Tokens that each are among some, as `one_of(..).repeated()` takes them.
-- Main laws: among-each, pass-each, each-pass. Read first: Rendered.antt, OneOf.antt of chumsky_primitive.
use Rattle.std.proofs.Common.{◌≡◌, ℕ, Bool, true, false, nat_eq, ◌||◌, List, [], ◌∷◌, refl, subst, arith}
use Rattle.std.proofs.lemmas.Bool.Decides.{nat_tests}
use Rattle.chumsky_parser.specs.Words.{AllPass}
use Rattle.chumsky_primitive.specs.OneOf.{among}
use Rattle.chumsky_exact.specs.Rendered.{OfEach}

-- what each member has a token has that is among them
pub among-each : (P : ℕ → Type 0) (ms : List ℕ) → OfEach P ms → (c : ℕ) → among nat_eq ms c ≡ true → P c
among-each P [] h c e = absurd (cc e)
among-each P (m ∷ ms) h c e = by_first (λ g. among-each P ms h.1 c g) (nat_eq m c) refl e
  where
    by_first : (among nat_eq ms c ≡ true → P c) → (b : Bool) → nat_eq m c ≡ b → (b || among nat_eq ms c) ≡ true → P c
    by_first later true q e = let s : m ≡ c = grind (arith, nat_tests) in subst P s h.0
    by_first later false q e = later e

module _ {P : ℕ → Type 0} {test : ℕ → Bool} where
  -- what a token has that passes each has, and what passes where P is passes of each
  pub pass-each : ((c : ℕ) → test c ≡ true → P c) → (w : List ℕ) → AllPass test w → OfEach P w
  pass-each h [] a = tt
  pass-each h (c ∷ cs) a = (h c a.0, pass-each h cs a.1)

  pub each-pass : ((c : ℕ) → P c → test c ≡ true) → (w : List ℕ) → OfEach P w → AllPass test w
  each-pass h [] a = tt
  each-pass h (c ∷ cs) a = (h c a.0, each-pass h cs a.1)
