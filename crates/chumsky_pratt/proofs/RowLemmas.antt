-- Operators by their index.
use Rattle.std.proofs.Common.{◌≡◌, ℕ, suc, ◌-◌, subst, sym, arith}

-- what holds of the first, and what holds of one after it
pub at_first : (P : ℕ → Type 0) (i : ℕ) → i ≡ 0 → P 0 → P i
at_first P i e h = subst P (sym e) h

pub at_later : (P : ℕ → Type 0) (i : ℕ) → (i ≡ 0 → ⊥) → P (suc (i - 1)) → P i
at_later P i n h =
    let e : suc (i - 1) ≡ i = omega (arith, n) in
    subst P e h
