-- Fixed sequences of characters or bytes: what equals them is they themselves.
-- Main laws: equals-same, same-equals, literal-taken. Read first: PrimitiveLanguage.antt.
use Rattle.std.proofs.Common.{◌≡◌, ℕ, true, nat_eq, cond, List, [], ◌∷◌, ◌++◌, refl, sym, ◌∙◌, ap, arith}
use Rattle.std.proofs.lemmas.Bool.Decides.{nat_tests}
use Rattle.chumsky_parser.specs.Ending.{Ending, At}
use Rattle.chumsky_primitive.specs.PrimitiveLanguage.{Equals, literal_ends}

-- what equals a sequence is that sequence
pub equals-same : (ms w : List ℕ) → Equals nat_eq ms w → w ≡ ms
equals-same [] [] e = refl
equals-same [] (t ∷ ts) e = absurd e
equals-same (m ∷ ms) [] e = absurd e
equals-same (m ∷ ms) (t ∷ ts) e =
    let q : nat_eq m t ≡ true = e.0 in
    let same : t ≡ m = grind (arith, nat_tests) in
    let rest : ts ≡ ms = equals-same ms ts e.1 in
    cc (same, rest)

pub same-equals : (ms : List ℕ) → Equals nat_eq ms ms
same-equals [] = tt
same-equals (m ∷ ms) = (grind (arith, nat_tests), same-equals ms)

-- and it is taken from the beginning of a text
pub literal-taken : (ms rest : List ℕ) → literal_ends nat_eq ms (ms ++ rest) ≡ At rest
literal-taken [] rest = refl
literal-taken (m ∷ ms) rest = let q : nat_eq m m ≡ true = grind (arith, nat_tests) in rw q (literal-taken ms rest)
