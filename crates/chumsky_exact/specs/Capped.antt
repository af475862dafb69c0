-- Tokens one by one, of which there may be no more than so many.
-- Main laws: capped-tokens, tokens-capped. Read first: ListWords.antt of chumsky_items.
use Rattle.std.proofs.Common.{◌≡◌, ℕ, suc, ◌+◌, ◌≤◌, ◌<◌, Bool, Some, List, [], ◌∷◌, ◌++◌, length, refl, ◌∙◌, ap, arith, inl, inr}
use Rattle.std.specs.Prelude.{⊤, ◌⊎◌}
use Rattle.chumsky_parser.specs.ItemsLanguage.{IsListFrom, ListFrom}
use Rattle.chumsky_parser.specs.Words.{IsOne, AllPass}
use Rattle.chumsky_items.specs.ListWords.{RepeatedWord, RepeatedEnd}

module _ {Tok : Type 0} (test : Tok → Bool) (least most : ℕ) (fit : least ≤ most) where
  abbrev Items : ℕ → List (List Tok) → List Tok → Type 0
  Items = ListFrom (λ k u (v : List Tok). RepeatedWord (Some most) (IsOne test (λ t. ⊤)) k u) (RepeatedEnd least (Some most))

  are_enough : (k : ℕ) → (least ≤ k) ⊎ (most ≤ k) → least ≤ k
  are_enough k (inl e) = e
  are_enough k (inr e) = omega (arith, e, fit)

  items-pass : (k : ℕ) (us : List (List Tok)) (w : List Tok) → k ≤ most → Items k us w → AllPass test w × (k + length w ≤ most) × (least ≤ k + length w)
  items-pass k [] w l i =
      let e : w ≡ [] = i.1 in
      let n = are_enough k i.0 in
      rw e (tt, omega (arith, l), omega (arith, n))
  items-pass k (u ∷ us) w l i =
      let o = i.is_first.1 in
      let j : k < most = i.is_first.0 in
      let r = items-pass (suc k) us i.second (omega (arith, j)) i.is_second in
      let e : w ≡ o.token ∷ i.second = i.all ∙ ap (λ z. z ++ i.second) o.all in
      let a : suc k + length i.second ≤ most = r.1 in
      let b : least ≤ suc k + length i.second = r.2 in
      rw e ((o.passes, r.0), omega (arith, a), omega (arith, b))

  -- a word of these is tokens that pass, so many of them
  pub capped-tokens : (w : List Tok) → IsListFrom (RepeatedWord (Some most) (IsOne test (λ t. ⊤))) (RepeatedEnd least (Some most)) 0 w → AllPass test w × (length w ≤ most) × (least ≤ length w)
  capped-tokens w l =
      let r = items-pass 0 l.items w (omega arith) l.are in
      let a : 0 + length w ≤ most = r.1 in
      let b : least ≤ 0 + length w = r.2 in
      (r.0, omega (arith, a), omega (arith, b))

  passing : (k : ℕ) (w : List Tok) → AllPass test w → k + length w ≤ most → least ≤ k + length w → IsListFrom (RepeatedWord (Some most) (IsOne test (λ t. ⊤))) (RepeatedEnd least (Some most)) k w
  passing k [] p a b = record { items = []; are = (inl (omega (arith, b)), refl) }
  passing k (t ∷ ts) p a b =
      let r = passing (suc k) ts p.1 (omega (arith, a)) (omega (arith, b)) in
      let l : k < most = omega (arith, a) in
      record { items = (t ∷ []) ∷ r.items; are = record { first = t ∷ []; second = ts; all = refl; is_first = (l, record { token = t; all = refl; passes = p.0; is = tt }); is_second = r.are } }

  -- and so many such tokens are a word
  pub tokens-capped : (w : List Tok) → AllPass test w → length w ≤ most → least ≤ length w → IsListFrom (RepeatedWord (Some most) (IsOne test (λ t. ⊤))) (RepeatedEnd least (Some most)) 0 w
  tokens-capped w p a b = passing 0 w p (omega (arith, a)) (omega (arith, b))
