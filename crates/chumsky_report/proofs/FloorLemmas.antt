-- The character that an offset falls in.
use Rattle.std.proofs.Common.{arith, rules, ◌≡◌, refl, sym, ap, subst, ◌∙◌, ℕ, zero, suc, ◌<◌, ◌≤◌, Bool, true, false, nat_lt, nat_le, List, length, get_or}
use Rattle.std.specs.Prelude.{if◌then◌else◌, ◌||◌}
use Rattle.std.specs.Fmt.{is_char_start}
use Rattle.std.specs.Fmt.Cut.{floor_char_boundary}
use Rattle.std.specs.Str.{IsCharBoundary}
use Rattle.std.proofs.lemmas.Bool.{ltb-true, ltb-false, le-ltb, le-leb, leb-true}

start_by : (b : ℕ) → (128 ≤ b → 192 ≤ b) → (t : Bool) → nat_lt b 128 ≡ t → is_char_start b ≡ true
start_by b h true e = ap (λ t. t || nat_le 192 b) e
start_by b h false e = ap (λ t. t || nat_le 192 b) e ∙ le-leb 192 b (h (ltb-false b 128 e))

at_start : (bs : List ℕ) (k : ℕ) → k < length bs → IsCharBoundary bs k → is_char_start (get_or bs k 0) ≡ true
at_start bs k l q = start_by (get_or bs k 0) (q.1 l) (nat_lt (get_or bs k 0) 128) refl

boundary_at : (bs : List ℕ) (k : ℕ) → k < length bs → is_char_start (get_or bs k 0) ≡ true → IsCharBoundary bs k
boundary_at bs k l e = (
  omega arith,
  λ m high. leb-true 192 (get_or bs k 0) (sym (ap (λ t. t || nat_le 192 (get_or bs k 0)) (le-ltb (get_or bs k 0) 128 high)) ∙ e),
)

floor_step : (bs : List ℕ) (i at : ℕ) → suc i < length bs → at ≤ suc i → IsCharBoundary bs at → ((j : ℕ) → at < j → j ≤ suc i → ¬ (IsCharBoundary bs j))
    → (at ≤ i → floor_char_boundary bs i ≡ at) → (s : Bool) → is_char_start (get_or bs (suc i) 0) ≡ s → (t : Bool) → nat_lt at (suc i) ≡ t
    → floor_char_boundary bs (suc i) ≡ at
unfolding floor_char_boundary
floor_step bs i at l le q none back true se true te = absurd (none (suc i) (ltb-true at (suc i) te) (omega arith) (boundary_at bs (suc i) l se))
floor_step bs i at l le q none back true se false te =
    let same : suc i ≡ at = omega (arith, ltb-false at (suc i) te) in
    ap (λ s. if s then suc i else floor_char_boundary bs i) se ∙ same
floor_step bs i at l le q none back false se true te = ap (λ s. if s then suc i else floor_char_boundary bs i) se ∙ back (omega (arith, ltb-true at (suc i) te))
floor_step bs i at l le q none back false se false te =
    let same : at ≡ suc i = omega (arith, ltb-false at (suc i) te) in
    let no : true ≡ false = sym (at_start bs (suc i) l (subst (IsCharBoundary bs) same q)) ∙ se in
    absurd (search (rules, no))

-- the last boundary at an offset or before it
pub floor_is : (bs : List ℕ) (i at : ℕ) → i < length bs → at ≤ i → IsCharBoundary bs at → ((j : ℕ) → at < j → j ≤ i → ¬ (IsCharBoundary bs j))
    → floor_char_boundary bs i ≡ at
unfolding floor_char_boundary
floor_is bs zero at l le q none = omega arith
floor_is bs (suc i) at l le q none =
    floor_step bs i at l le q none (λ k. floor_is bs i at (omega arith) k q (λ j p r. none j p (omega arith)))
    (is_char_start (get_or bs (suc i) 0)) refl (nat_lt at (suc i)) refl
