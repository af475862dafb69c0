-- The parser of `ab` accepts just its texts.
-- Main laws: ab-sound, ab-word, ab-complete. Read first: Ab.antt.
use Rattle.std.proofs.Common.{◌≡◌, ℕ, true, nat_eq, List, [], ◌∷◌, ◌⊎◌, inl, inr, refl, ◌∙◌}
use Rattle.std.specs.Prelude.{⊤}
use Rattle.chumsky_parser.specs.Ending.{At}
use Rattle.chumsky_parser.specs.Words.{Joined, IsOne, then_ends, either_ends}
use Rattle.chumsky_primitive.specs.Literals.{equals-same}
use Rattle.chumsky_primitive.specs.PrimitiveLanguage.{Equals, literal_ends, one_ends}
use Rattle.chk_run.specs.Ab.{IsAb}
use Rattle.chk_run.specs.Checked.{HasValue}

module _ (a b d : List ℕ) (ea : a ≡ 97 ∷ []) (eb : b ≡ 98 ∷ []) (ed : d ≡ 98 ∷ []) where
  -- a word of the parser is of two characters of `ab`, which are its value
  pub ab-sound : (A B D : ℕ → Type 0) (C : ℕ → ℕ → Type 0) → ((c : ℕ) → A c → c ≡ 97) → ((c : ℕ) → B c → c ≡ 98) → ((c : ℕ) → D c → c ≡ 98) → ((t c : ℕ) → C t c → c ≡ t) → (cs : List ℕ) (v : ℕ × ℕ)
      → (Joined (λ u. Equals nat_eq a u × A v.0) (λ u. Equals nat_eq b u × B v.1) cs ⊎ Joined (λ u. Equals nat_eq d u × D v.0) (IsOne (λ t. true) (λ t. C t v.1)) cs) → IsAb cs v
  ab-sound A B D C fa fb fd fc cs v (inl j) =
      let first : j.first ≡ 97 ∷ [] = equals-same a j.first j.is_first.0 ∙ ea in
      let second : j.second ≡ 98 ∷ [] = equals-same b j.second j.is_second.0 ∙ eb in
      let x : v.0 ≡ 97 = fa v.0 j.is_first.1 in
      let y : v.1 ≡ 98 = fb v.1 j.is_second.1 in
      (rw (j.all, first, second, x, y) refl, inl (x, y))
  ab-sound A B D C fa fb fd fc cs v (inr j) =
      let first : j.first ≡ 98 ∷ [] = equals-same d j.first j.is_first.0 ∙ ed in
      let second : j.second ≡ j.is_second.token ∷ [] = j.is_second.all in
      let x : v.0 ≡ 98 = fd v.0 j.is_first.1 in
      let y : v.1 ≡ j.is_second.token = fc j.is_second.token v.1 j.is_second.is in
      (rw (j.all, first, second, x, y) refl, inr x)

  -- so it is where no value is asked for
  pub ab-word : (cs : List ℕ) → (Joined (Equals nat_eq a) (Equals nat_eq b) cs ⊎ Joined (Equals nat_eq d) (IsOne (λ t. true) (λ t. ⊤)) cs) → HasValue IsAb cs (tt {0})
  ab-word cs (inl j) =
      let first : j.first ≡ 97 ∷ [] = equals-same a j.first j.is_first ∙ ea in
      let second : j.second ≡ 98 ∷ [] = equals-same b j.second j.is_second ∙ eb in
      ((97, 98), (rw (j.all, first, second) refl, inl (refl, refl)))
  ab-word cs (inr j) =
      let first : j.first ≡ 98 ∷ [] = equals-same d j.first j.is_first ∙ ed in
      let second : j.second ≡ j.is_second.token ∷ [] = j.is_second.all in
      ((98, j.is_second.token), (rw (j.all, first, second) refl, inr refl))

  -- and each such text is taken whole
  pub ab-complete : (cs : List ℕ) (p : ℕ × ℕ) → IsAb cs p → either_ends (then_ends (literal_ends nat_eq a) (literal_ends nat_eq b)) (then_ends (literal_ends nat_eq d) (one_ends (λ t. true))) cs ≡ At []
  ab-complete cs p (e, inl s) = rw (e, s.0, s.1, ea, eb) refl
  ab-complete cs p (e, inr s) = rw (e, s, ea, ed) refl
