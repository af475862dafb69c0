-- What falls at each step of reading an expression.
use Rattle.std.proofs.Common.{◌≡◌, ℕ, zero, suc, ◌+◌, ◌-◌, ◌*◌, ◌<◌, ◌≤◌, List, [], ◌∷◌, ◌++◌, arith, refl, ap, inl, inr}
use Rattle.std.proofs.Math.Nat.{mul-le-mul_right, eq-or-lt_of_le}
use Rattle.chumsky_input.specs.declared.input.Input as input_trait
use Rattle.chumsky_pratt.specs.declared.machine.Frame.{Frame}
use Rattle.chumsky_pratt.specs.declared.machine.Todo.{Todo}
use Rattle.chumsky_pratt.specs.Climbing.{WaitsFor}
use Rattle.chumsky_pratt.specs.Weight.{value_rank, postfix_rank, infix_rank, prefix_rank, child, ranked, left_from, weight_of, weights, total}

-- a lower rank, by as much as something else weighs
less_ranked : (r r' k : ℕ) → r' < r → r' * (k + 1) < r * (k + 1)
less_ranked r r' k l =
    let h : (r' + 1) * (k + 1) ≤ r * (k + 1) = mul-le-mul_right (k + 1) (omega (arith, l)) in
    omega (arith, h)

less_and : (r r' k x : ℕ) → r' < r → x ≤ k → r' * (k + 1) + x < r * (k + 1)
less_and r r' k x l e =
    let h : (r' + 1) * (k + 1) ≤ r * (k + 1) = mul-le-mul_right (k + 1) (omega (arith, l)) in
    omega (arith, h, e)

some_ranked : (r k : ℕ) → 0 < r → 0 < r * (k + 1)
some_ranked r k l =
    let h : 1 * (k + 1) ≤ r * (k + 1) = mul-le-mul_right (k + 1) (omega (arith, l)) in
    omega (arith, h)

module _ (n size : ℕ) where
  child_suc : (t : ℕ) → child n size (suc t) ≡ (value_rank n size size + 2 * n + 3) * (child n size t + 1) + 1
  unfolding child
  child_suc t = refl

  child_more : (t : ℕ) → child n size t ≤ child n size (suc t)
  child_more t =
      let e = child_suc t in
      let h : 1 * (child n size t + 1) ≤ (value_rank n size size + 2 * n + 3) * (child n size t + 1) = mul-le-mul_right (child n size t + 1) (omega arith) in
      omega (arith, e, h)

  child_below : (t u : ℕ) → u < t → child n size (suc u) ≤ child n size t
  child_below zero u l = absurd (omega (arith, l))
  child_below (suc t) u l =
      let k : u ≤ t = omega (arith, l) in
      elim (eq-or-lt_of_le k) [
        | inl e ↦ (let h : child n size (suc u) ≡ child n size (suc t) = ap (λ i. child n size (suc i)) e in omega (arith, h))
        | inr j ↦ (let h = child_below t u j in let more = child_more t in omega (arith, h, more))
      ]

  values : (u : ℕ) → u ≤ size → value_rank n size u ≤ value_rank n size size
  values u l = mul-le-mul_right (4 * n + 8) (omega (arith, l))

  value_lower : (u v : ℕ) → v < u → value_rank n size v ≤ u * (4 * n + 8)
  value_lower u v l = mul-le-mul_right (4 * n + 8) (omega (arith, l))

  pub begin_less : (t : ℕ) → ranked n size (prefix_rank n size 0) t < child n size (suc t)
  begin_less t =
      let e = child_suc t in
      let h : prefix_rank n size 0 * (child n size t + 1) ≤ (value_rank n size size + 2 * n + 3) * (child n size t + 1) = mul-le-mul_right (child n size t + 1) (omega arith) in
      omega (arith, e, h)

  pub begin_some : (t : ℕ) → 0 < child n size (suc t)
  begin_some t = let e = child_suc t in omega (arith, e)

  pub prefix_next : (i t : ℕ) → i < n → ranked n size (prefix_rank n size (i + 1)) t < ranked n size (prefix_rank n size i) t
  prefix_next i t l = less_ranked (prefix_rank n size i) (prefix_rank n size (i + 1)) (child n size t) (omega (arith, l))

  pub prefix_value : (i u t : ℕ) → u ≤ size → ranked n size (value_rank n size u) t < ranked n size (prefix_rank n size i) t
  prefix_value i u t l = less_ranked (prefix_rank n size i) (value_rank n size u) (child n size t) (let h = values u l in omega (arith, h))

  pub prefix_some : (i t : ℕ) → 0 < ranked n size (prefix_rank n size i) t
  prefix_some i t = some_ranked (prefix_rank n size i) (child n size t) (omega arith)

  pub prefix_wait : (i u t : ℕ) → i < n → u < t → ranked n size (prefix_rank n size (i + 1) + 1) t + child n size (suc u) < ranked n size (prefix_rank n size i) t
  prefix_wait i u t l k = less_and (prefix_rank n size i) (prefix_rank n size (i + 1) + 1) (child n size t) (child n size (suc u)) (omega (arith, l)) (child_below t u k)

  pub value_postfix : (u t : ℕ) → ranked n size (postfix_rank n size u 0) t < ranked n size (value_rank n size u) t
  value_postfix u t = less_ranked (value_rank n size u) (postfix_rank n size u 0) (child n size t) (omega arith)

  pub value_some : (u t : ℕ) → 0 < ranked n size (value_rank n size u) t
  value_some u t = some_ranked (value_rank n size u) (child n size t) (omega arith)

  pub postfix_next : (u i t : ℕ) → i < n → ranked n size (postfix_rank n size u (i + 1)) t < ranked n size (postfix_rank n size u i) t
  postfix_next u i t l = less_ranked (postfix_rank n size u i) (postfix_rank n size u (i + 1)) (child n size t) (omega (arith, l))

  pub postfix_infix : (u i t : ℕ) → ranked n size (infix_rank n size u 0) t < ranked n size (postfix_rank n size u i) t
  postfix_infix u i t = less_ranked (postfix_rank n size u i) (infix_rank n size u 0) (child n size t) (omega arith)

  pub postfix_value : (u v i t : ℕ) → v < u → ranked n size (value_rank n size v) t < ranked n size (postfix_rank n size u i) t
  postfix_value u v i t l = less_ranked (postfix_rank n size u i) (value_rank n size v) (child n size t) (let h = value_lower u v l in omega (arith, h))

  pub postfix_some : (u i t : ℕ) → 0 < ranked n size (postfix_rank n size u i) t
  postfix_some u i t = some_ranked (postfix_rank n size u i) (child n size t) (omega arith)

  pub infix_next : (u i t : ℕ) → i < n → ranked n size (infix_rank n size u (i + 1)) t < ranked n size (infix_rank n size u i) t
  infix_next u i t l = less_ranked (infix_rank n size u i) (infix_rank n size u (i + 1)) (child n size t) (omega (arith, l))

  pub infix_some : (u i t : ℕ) → 0 < ranked n size (infix_rank n size u i) t
  infix_some u i t = some_ranked (infix_rank n size u i) (child n size t) (omega arith)

  pub infix_wait : (u i v t : ℕ) → i < n → v < t → ranked n size (infix_rank n size u (i + 1) + 1) t + child n size (suc v) < ranked n size (infix_rank n size u i) t
  infix_wait u i v t l k = less_and (infix_rank n size u i) (infix_rank n size u (i + 1) + 1) (child n size t) (child n size (suc v)) (omega (arith, l)) (child_below t v k)

  pub heard_prefix : (i t : ℕ) → ranked n size (prefix_rank n size i) t < ranked n size (prefix_rank n size i + 1) t
  heard_prefix i t = less_ranked (prefix_rank n size i + 1) (prefix_rank n size i) (child n size t) (omega arith)

  pub heard_value : (i u t : ℕ) → u ≤ size → ranked n size (value_rank n size u) t < ranked n size (prefix_rank n size i + 1) t
  heard_value i u t l = less_ranked (prefix_rank n size i + 1) (value_rank n size u) (child n size t) (let h = values u l in omega (arith, h))

  pub heard_some : (i t : ℕ) → 0 < ranked n size (prefix_rank n size i + 1) t
  heard_some i t = some_ranked (prefix_rank n size i + 1) (child n size t) (omega arith)

  pub heard_infix : (u i t : ℕ) → ranked n size (infix_rank n size u i) t < ranked n size (infix_rank n size u i + 1) t
  heard_infix u i t = less_ranked (infix_rank n size u i + 1) (infix_rank n size u i) (child n size t) (omega arith)

  pub heard_both : (u v i t : ℕ) → v < u → ranked n size (value_rank n size v) t < ranked n size (infix_rank n size u i + 1) t
  heard_both u v i t l = less_ranked (infix_rank n size u i + 1) (value_rank n size v) (child n size t) (let h = value_lower u v l in omega (arith, h))

  pub heard_none : (u i t : ℕ) → 0 < ranked n size (infix_rank n size u i + 1) t
  heard_none u i t = some_ranked (infix_rank n size u i + 1) (child n size t) (omega arith)

  module _ {I Tok Sp Cu A B Mk : Type 0} (source : input_trait.Ghosts I Cu Tok Sp) where
    -- one more frame
    pub weights_more : (fs : List (Frame A B Cu Mk)) (f : Frame A B Cu Mk) → weights n size source (fs ++ f ∷ []) ≡ weights n size source fs + weight_of n size source f
    weights_more [] f = omega arith
    weights_more (x ∷ xs) f = let h = weights_more xs f in omega (arith, h)

    -- an operand begins, or there is no memory to wait for it
    pub waited_less : (power : ℕ) (f : Frame A B Cu Mk) (old new : List (Frame A B Cu Mk)) (here : Cu) (next : Todo A Cu Mk) (x : ℕ)
        → WaitsFor power f old new next
        → weight_of n size source f + child n size (suc (left_from n size source here)) < x
        → total n size source new here next < weights n size source old + x
    waited_less power f old new here next x (inl e) l = rw (e.0, e.1) (let h = weights_more old f in omega (arith, h, l))
    waited_less power f old new here next x (inr e) l = rw (e.0, e.1) (omega (arith, l))

    -- a frame was taken off
    pub lightened : (old new : List (Frame A B Cu Mk)) (f : Frame A B Cu Mk) (x : ℕ) → old ≡ new ++ f ∷ []
        → x < weight_of n size source f + weights n size source new → x < weights n size source old + 0
    lightened old new f x e l = rw e (let h = weights_more new f in omega (arith, h, l))

-- beside what else weighs
pub beside : (w a b : ℕ) → a < b → w + a < w + b
beside w a b l = omega (arith, l)

pub beside_most : (w a b x : ℕ) → a < b → w + b ≤ x → w + a ≤ x
beside_most w a b x l k = omega (arith, l, k)

pub beside_below : (w a b x : ℕ) → a < b → w + b ≤ x → w + a < x
beside_below w a b x l k = omega (arith, l, k)

pub below_most : (a b x : ℕ) → a < b → b ≤ x → a < x
below_most a b x l k = omega (arith, l, k)

pub beside_frame : (w f a : ℕ) → a < f → w + a < f + w
beside_frame w f a l = omega (arith, l)

-- fewer tokens are left past a place
pub fewer : (size p q : ℕ) → p < q → q ≤ size → size - q < size - p
fewer size p q l k = omega (arith, l, k)
