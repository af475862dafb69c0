-- Steps, one by one.
use Rattle.std.proofs.Common.{◌≡◌, ℕ, ◌+◌, ◌<◌, List, ◌∷◌, length, drop, refl, sym, ap, subst, ◌∙◌, inl, inr, add-one}
use Rattle.std.proofs.Math.Seq.{drop-cons}
use Rattle.std.specs.Prelude.{ℤ, get_or}
use Rattle.chumsky_input.specs.declared.span.SimpleSpan.{SimpleSpan}
use Rattle.arithmetic.specs.Steps.{made_by, CanMake, from_left, CanAll, StopsAt}
use Rattle.arithmetic.specs.declared.Step.{Step}
use Rattle.arithmetic.specs.declared.Value.{Value}
use Rattle.arithmetic.specs.declared.Value.TheVariants as node

-- the values ws are worked out from m as vs are from n
pub record Left (n : ℤ) (vs : List Value) (m : ℤ) (ws : List Value) : Type 0 where
  pub made : from_left m ws ≡ from_left n vs
  pub can : CanAll m ws → CanAll n vs
  pub needs : CanAll n vs → CanAll m ws
  pub stops : (span : SimpleSpan) → StopsAt m ws span → StopsAt n vs span

taken : (n : ℤ) (s : Step) (ws : List Value) → CanMake s.sign n s.number → Left n (node.Step s ∷ ws) (made_by s.sign n s.number) ws
taken n s ws can = record { made = refl; can = λ h. (can, h); needs = λ h. h.1; stops = λ span h. inr (can, h) }

skipped : (n : ℤ) (v : Value) (ws : List Value) → ((s : Step) → v ≡ node.Step s → ⊥) → Left n (v ∷ ws) n ws
skipped n (node.TooLarge w) ws other = record { made = refl; can = λ h. h; needs = λ h. h; stops = λ span h. h }
skipped n (node.Sign c span) ws other = record { made = refl; can = λ h. h; needs = λ h. h; stops = λ span h. h }
skipped n (node.Number m) ws other = record { made = refl; can = λ h. h; needs = λ h. h; stops = λ span h. h }
skipped n (node.Step s) ws other = absurd (other s refl)
skipped n (node.Steps' p l) ws other = record { made = refl; can = λ h. h; needs = λ h. h; stops = λ span h. h }
skipped n (node.Chain' m p l) ws other = record { made = refl; can = λ h. h; needs = λ h. h; stops = λ span h. h }

drop_item : (vs : List Value) (i : ℕ) (v : Value) → i < length vs → v ≡ get_or vs i v → drop i vs ≡ v ∷ drop (i + 1) vs
drop_item vs i v l e = drop-cons vs i v l ∙ cc (add-one i)

-- a step at place i
pub step_taken : (n m : ℤ) (vs : List Value) (i : ℕ) (v : Value) (s : Step) → i < length vs → v ≡ get_or vs i v → v ≡ node.Step s → CanMake s.sign n s.number → m ≡ made_by s.sign n s.number → Left n (drop i vs) m (drop (i + 1) vs)
step_taken n m vs i v s l g e can is =
    subst (λ us. Left n us m (drop (i + 1) vs)) (sym (drop_item vs i v l g ∙ ap (λ x. x ∷ drop (i + 1) vs) e))
    (subst (λ z. Left n (node.Step s ∷ drop (i + 1) vs) z (drop (i + 1) vs)) (sym is) (taken n s (drop (i + 1) vs) can))

-- another value there
pub other_skipped : (n m : ℤ) (vs : List Value) (i : ℕ) (v : Value) → i < length vs → v ≡ get_or vs i v → ((s : Step) → v ≡ node.Step s → ⊥) → m ≡ n → Left n (drop i vs) m (drop (i + 1) vs)
other_skipped n m vs i v l g other is =
    subst (λ us. Left n us m (drop (i + 1) vs)) (sym (drop_item vs i v l g))
    (subst (λ z. Left n (v ∷ drop (i + 1) vs) z (drop (i + 1) vs)) (sym is) (skipped n v (drop (i + 1) vs) other))

-- a step that can't be worked out
pub stops_here : (n : ℤ) (vs : List Value) (i : ℕ) (v : Value) (s : Step) (span : SimpleSpan) → i < length vs → v ≡ get_or vs i v → v ≡ node.Step s → (CanMake s.sign n s.number → ⊥) → span ≡ s.span → StopsAt n (drop i vs) span
stops_here n vs i v s span l g e cannot at = subst (λ us. StopsAt n us span) (sym (drop_item vs i v l g ∙ ap (λ x. x ∷ drop (i + 1) vs) e)) (inl (cannot, at))
