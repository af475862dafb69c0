-- The words of a set of two: one of each, in one order or in the other.
-- Main law: set_of_two. Read first: SetLanguage.antt.
use Rattle.std.proofs.Common.{◌≡◌, ℕ, zero, suc, ◌<◌, List, [], ◌∷◌, ◌++◌, length, flat_map, IsPermutation, ◌⊎◌, inl, inr, refl, ◌∙◌, ap, arith, append-nil}
use Rattle.std.specs.Prelude.{swap}
use Rattle.std.proofs.lemmas.List.Sorted.{IsPermutation-keeps}
use Rattle.chumsky_parser.specs.Words.{Joined}
use Rattle.chumsky_set.specs.SetLanguage.{InAnyOrder, OfFirst}

module _ {X : Type 0} where
  swapped : (a b : X) (i j : ℕ) → i < 2 → j < 2 → (swap (a ∷ b ∷ []) i j ≡ a ∷ b ∷ []) ⊎ (swap (a ∷ b ∷ []) i j ≡ b ∷ a ∷ [])
  swapped a b zero zero p q = inl refl
  swapped a b zero (suc zero) p q = inr refl
  swapped a b zero (suc (suc j)) p q = absurd (omega (arith, q))
  swapped a b (suc zero) zero p q = inr refl
  swapped a b (suc zero) (suc zero) p q = inl refl
  swapped a b (suc zero) (suc (suc j)) p q = absurd (omega (arith, q))
  swapped a b (suc (suc i)) j p q = absurd (omega (arith, p))

  -- two things have two orders
  two_orders : (a b : X) (order : List X) → IsPermutation (a ∷ b ∷ []) order → (order ≡ a ∷ b ∷ []) ⊎ (order ≡ b ∷ a ∷ [])
  two_orders a b order s =
      IsPermutation-keeps (a ∷ b ∷ []) (λ l. (l ≡ a ∷ b ∷ []) ⊎ (l ≡ b ∷ a ∷ [])) (inl refl) (λ l i j p q h. elim h [ inl e ↦ first l i j p q e | inr e ↦ second l i j p q e ]) order s
    where
      first : (l : List X) (i j : ℕ) → i < length l → j < length l → l ≡ a ∷ b ∷ [] → (swap l i j ≡ a ∷ b ∷ []) ⊎ (swap l i j ≡ b ∷ a ∷ [])
      first l i j p q e = rw e (swapped a b i j (rw e at p) (rw e at q))

      second : (l : List X) (i j : ℕ) → i < length l → j < length l → l ≡ b ∷ a ∷ [] → (swap l i j ≡ a ∷ b ∷ []) ⊎ (swap l i j ≡ b ∷ a ∷ [])
      second l i j p q e = rw e (elim (swapped b a i j (rw e at p) (rw e at q)) [ inl x ↦ inr x | inr x ↦ inl x ])

module _ {Tok : Type 0} (P Q : List Tok → Type 0) where
  -- a word of the one and a word of the other
  abbrev pub OneOfEach : List (List Tok) → Type 0
  OneOfEach ws = OfFirst (λ u us. P u × OfFirst (λ v vs. Q v × (vs ≡ [])) us) ws

  -- a word of a set of two
  pub set_of_two : {w : List Tok} → InAnyOrder OneOfEach w → Joined P Q w ⊎ Joined Q P w
  set_of_two {w} h = by_words h.words h.is h.moved
    where
      by_words : (ws : List (List Tok)) → OneOfEach ws → IsPermutation ws h.order → Joined P Q w ⊎ Joined Q P w
      by_words [] i s = absurd i
      by_words (u ∷ []) i s = absurd i.1
      by_words (u ∷ v ∷ x ∷ vs) i s = let no : ⊥ = cc i.1.1 in absurd no
      by_words (u ∷ v ∷ []) i s = elim (two_orders u v h.order s) [
        | inl e ↦ inl (record { first = u; second = v; all = h.all ∙ ap (λ o. flat_map (λ t. t) o) e ∙ ap (λ t. u ++ t) (append-nil v); is_first = i.0; is_second = i.1.0 })
        | inr e ↦ inr (record { first = v; second = u; all = h.all ∙ ap (λ o. flat_map (λ t. t) o) e ∙ ap (λ t. v ++ t) (append-nil u); is_first = i.1.0; is_second = i.0 })
      ]
