-- What is picked of a value is picked of its word.
-- Main laws: one-by_word, four-by_word, four_is. Read first: JsonPicks.antt.
use Rattle.std.proofs.Common.{◌≡◌, ℕ, true, Option, List, [], ◌∷◌, ◌++◌, refl, sym, ◌∙◌, ap}
use Rattle.std.specs.Prelude.{⊤}
use Rattle.chumsky_parser.specs.Words.{Joined, IsOne}
use Rattle.exact.specs.JsonPicks.{of_one, digits_of}

-- a word whose parts are these is these
pub both : {P Q : List ℕ → Type 0} (w x y : List ℕ) (j : Joined P Q w) → j.first ≡ x → j.second ≡ y → w ≡ x ++ y
both w x y j e d = j.all ∙ (ap (λ z. z ++ j.second) e ∙ ap (λ z. x ++ z) d)

-- this character, alone
abbrev pub IsThis : ℕ → List ℕ → Type 0
IsThis v = IsOne (λ (t : ℕ). true) (λ t. v ≡ t)

this_is : (v : ℕ) (w : List ℕ) → IsThis v w → w ≡ v ∷ []
this_is v w i = i.all ∙ ap (λ z. z ∷ []) (sym i.is)

pub one-by_word : (pick : ℕ → Option ℕ) (w : List ℕ) (v : ℕ) (x : Option ℕ) → IsThis v w → x ≡ pick v → x ≡ of_one pick w
one-by_word pick w v x i g = g ∙ ap (of_one pick) (sym (this_is v w i))

-- these four
abbrev pub AreThese : ((ℕ × ℕ) × ℕ) × ℕ → List ℕ → Type 0
AreThese v = Joined (Joined (Joined (IsThis v.0.0.0) (IsThis v.0.0.1)) (IsThis v.0.1)) (IsThis v.1)

these_are : (v : ((ℕ × ℕ) × ℕ) × ℕ) (w : List ℕ) → AreThese v w → w ≡ digits_of v
these_are v w j =
    let a : ℕ = v.0.0.0 in
    let b : ℕ = v.0.0.1 in
    let c : ℕ = v.0.1 in
    let d : ℕ = v.1 in
    let k = j.is_first in
    let l = k.is_first in
    let two : k.first ≡ a ∷ b ∷ [] = both k.first (a ∷ []) (b ∷ []) l (this_is a l.first l.is_first) (this_is b l.second l.is_second) in
    let three : j.first ≡ a ∷ b ∷ c ∷ [] = both j.first (a ∷ b ∷ []) (c ∷ []) k two (this_is c k.second k.is_second) in
    both w (a ∷ b ∷ c ∷ []) (d ∷ []) j three (this_is d j.second j.is_second)

pub four-by_word : {U : Type 0} (pick : List ℕ → Option U) (w : List ℕ) (v : ((ℕ × ℕ) × ℕ) × ℕ) (x : Option U) → AreThese v w → x ≡ pick (digits_of v) → x ≡ pick w
four-by_word pick w v x j g = g ∙ ap pick (sym (these_are v w j))

-- any character, and any four
abbrev pub IsAny : List ℕ → Type 0
IsAny = IsOne (λ (t : ℕ). true) (λ t. ⊤)

abbrev pub IsFour : List ℕ → Type 0
IsFour = Joined (Joined (Joined IsAny IsAny) IsAny) IsAny

pub four_is : (w : List ℕ) → IsFour w → (a : ℕ) × (b : ℕ) × (c : ℕ) × (d : ℕ) × (w ≡ a ∷ b ∷ c ∷ d ∷ [])
four_is w j =
    let k = j.is_first in
    let l = k.is_first in
    let a : ℕ = l.is_first.token in
    let b : ℕ = l.is_second.token in
    let c : ℕ = k.is_second.token in
    let d : ℕ = j.is_second.token in
    let two : k.first ≡ a ∷ b ∷ [] = both k.first (a ∷ []) (b ∷ []) l l.is_first.all l.is_second.all in
    let three : j.first ≡ a ∷ b ∷ c ∷ [] = both j.first (a ∷ b ∷ []) (c ∷ []) k two k.is_second.all in
    (a, b, c, d, both w (a ∷ b ∷ c ∷ []) (d ∷ []) j three j.is_second.all)

-- and each four characters are any
pub is_any : (c : ℕ) → IsAny (c ∷ [])
is_any c = record { token = c; all = refl; passes = refl; is = tt }

pub are_four : (a b c d : ℕ) → IsFour (a ∷ b ∷ c ∷ d ∷ [])
are_four a b c d =
    let two : Joined IsAny IsAny (a ∷ b ∷ []) = record { first = a ∷ []; second = b ∷ []; all = refl; is_first = is_any a; is_second = is_any b } in
    let three : Joined (Joined IsAny IsAny) IsAny (a ∷ b ∷ c ∷ []) = record { first = a ∷ b ∷ []; second = c ∷ []; all = refl; is_first = two; is_second = is_any c } in
    record { first = a ∷ b ∷ c ∷ []; second = d ∷ []; all = refl; is_first = three; is_second = is_any d }
