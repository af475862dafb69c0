-- Parts of a text, one after another: how they are put together, what stands before fixed text, and which tokens end a part.
-- Main laws: joined, one, one-is, before, within, between, stops-at, never_goes_on. Read first: Words.antt of chumsky_parser.
use Rattle.std.proofs.Common.{◌≡◌, ℕ, Bool, true, false, cond, nat_eq, List, [], ◌∷◌, ◌++◌, refl, sym, ◌∙◌, ap, subst}
use Rattle.std.specs.Prelude.{⊤}
use Rattle.chumsky_parser.specs.Words.{Joined, IsOne, StopsAt}
use Rattle.chumsky_primitive.specs.Literals.{equals-same, same-equals}
use Rattle.chumsky_primitive.specs.PrimitiveLanguage.{Equals}

-- a word with P, and after it one with Q
pub joined : {Tok : Type 0} {P Q : List Tok → Type 0} (a b : List Tok) → P a → Q b → Joined P Q (a ++ b)
joined a b p q = record { first = a; second = b; all = refl; is_first = p; is_second = q }

-- a token alone, of a parser as `any()` or `one_of(..)`
pub one : {Tok : Type 0} {test : Tok → Bool} (t : Tok) → test t ≡ true → IsOne test (λ t. ⊤) (t ∷ [])
one t p = record { token = t; all = refl; passes = p; is = tt }

-- such a token is the value of its word, and passes
pub one-is : {Tok : Type 0} {test : Tok → Bool} {v : Tok} {w : List Tok} → IsOne test (λ t. v ≡ t) w → (w ≡ v ∷ []) × (test v ≡ true)
one-is {test = test} i = (cc (i.all, i.is), ap test i.is ∙ i.passes)

-- what stands before fixed text
pub before : {P : List ℕ → Type 0} {w : List ℕ} (s : List ℕ) → Joined P (Equals nat_eq s) w → (u : List ℕ) × (w ≡ u ++ s) × P u
before s j = (j.first, j.all ∙ ap (λ z. j.first ++ z) (equals-same s j.second j.is_second), j.is_first)

-- what is so of all that stands between two fixed texts, with P, is so of a word of the three
pub within : {P : List ℕ → Type 0} (Q : List ℕ → Type 0) (o c : List ℕ) {w : List ℕ} → Joined (Equals nat_eq o) (Joined P (Equals nat_eq c)) w → ((u : List ℕ) → P u → Q (o ++ (u ++ c))) → Q w
within Q o c j each = let b = before c j.is_second in subst Q (sym (j.all ∙ ap (λ z. z ++ j.second) (equals-same o j.first j.is_first) ∙ ap (λ z. o ++ z) b.1)) (each b.0 b.2)

-- and each such text is a word
pub between : {P : List ℕ → Type 0} (o c u : List ℕ) → P u → Joined (Equals nat_eq o) (Joined P (Equals nat_eq c)) (o ++ (u ++ c))
between o c u p = joined o (u ++ c) (same-equals o) (joined u c p (same-equals c))

-- a part ends where fixed text stands that doesn't go on with it
pub stops-at : (goes_on : ℕ → ℕ → Bool) (s : List ℕ) → ((rest : List ℕ) (t : ℕ) → StopsAt (goes_on t) (s ++ rest)) → (w rest : List ℕ) → Equals nat_eq s w → (t : ℕ) → StopsAt (goes_on t) (w ++ rest)
stops-at goes_on s h w rest e t = let same : w ≡ s = equals-same s w e in rw same (h rest t)

-- nothing goes on with a zero of `int(10)`, and no digit with another first digit where none stands
pub never_goes_on : (z : Bool) → cond z false false ≡ false
never_goes_on true = refl
never_goes_on false = refl
