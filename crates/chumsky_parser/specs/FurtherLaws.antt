-- What takes a token wherever it ends, since a part of it does; and which texts are never refused, since no part of it refuses them.
-- Main laws: first-further, second-further, then-further, else-further, both-below, behind-below, never-below, then-decided, else-decided. Read first: Language.antt, Words.antt.
use Rattle.std.proofs.Common.{◌≡◌, ℕ, zero, suc, min, nat_le, ◌≤◌, ◌<◌, Bool, true, false, ◌||◌, Option, Some, None, List, length, refl, ◌∙◌, arith, inl, inr}
use Rattle.std.proofs.Math.Nat.{min-le_left, min-le_right, min-eq_right, min_comm}
use Rattle.std.proofs.lemmas.Bool.Decides.{nat_tests}
use Rattle.chumsky_parser.specs.Ending.{Ending, At, Nowhere, Refused, Ender, and_then, or_else}
use Rattle.chumsky_parser.specs.Language.{TakesOnly, EndsFurther, NeverRefused, NeverRefusedBelow, IsBelow, sooner, later}
use Rattle.chumsky_parser.specs.ProgressLaws.{either-true}
use Rattle.chumsky_parser.specs.Words.{then_ends, either_ends}
use Rattle.chumsky_parser.specs.WordsLaws.{keeps_tokens}

-- one part after another, of which the first takes one, or the second
pub first-further : {Tok : Type 0} (f g : Ender Tok) (Q : List Tok → Type 0) → EndsFurther f → TakesOnly g Q → EndsFurther (then_ends f g)
first-further {Tok} f g Q h k = λ ts rest e. by_first ts rest (f ts) refl e
  where
    by_first : (ts rest : List Tok) (x : Ending (List Tok)) → f ts ≡ x → and_then g x ≡ At rest → length rest < length ts
    by_first ts rest Nowhere d e = absurd (cc e)
    by_first ts rest Refused d e = absurd (cc e)
    by_first ts rest (At mid) d e = let a : length mid < length ts = h ts mid d in let b : length rest ≤ length mid = keeps_tokens g Q k mid rest e in omega (arith, a, b)

pub second-further : {Tok : Type 0} (f g : Ender Tok) (P : List Tok → Type 0) → TakesOnly f P → EndsFurther g → EndsFurther (then_ends f g)
second-further {Tok} f g P h k = λ ts rest e. by_first ts rest (f ts) refl e
  where
    by_first : (ts rest : List Tok) (x : Ending (List Tok)) → f ts ≡ x → and_then g x ≡ At rest → length rest < length ts
    by_first ts rest Nowhere d e = absurd (cc e)
    by_first ts rest Refused d e = absurd (cc e)
    by_first ts rest (At mid) d e = let a : length mid ≤ length ts = keeps_tokens f P h ts mid d in let b : length rest < length mid = k mid rest e in omega (arith, a, b)

pub then-further : {Tok : Type 0} (f g : Ender Tok) (P Q : List Tok → Type 0) → TakesOnly f P → TakesOnly g Q → (a b : Bool) → (a ≡ true → EndsFurther f) → (b ≡ true → EndsFurther g)
    → (a || b) ≡ true → EndsFurther (then_ends f g)
then-further f g P Q p q a b h k e = elim (either-true a b e) [ inl x ↦ first-further f g Q (h x) q | inr x ↦ second-further f g P p (k x) ]

-- the first of two that doesn't fail
pub else-further : {Tok : Type 0} (f g : Ender Tok) → EndsFurther f → EndsFurther g → EndsFurther (either_ends f g)
else-further {Tok} f g h k = λ ts rest e. by_first ts rest (f ts) refl e
  where
    by_first : (ts rest : List Tok) (x : Ending (List Tok)) → f ts ≡ x → or_else x (g ts) ≡ At rest → length rest < length ts
    by_first ts rest Nowhere d e = k ts rest e
    by_first ts rest Refused d e = absurd (cc e)
    by_first ts rest (At r) d e = h ts rest (d ∙ e)

-- what is below the smaller of two numbers is below both, and below what comes after a token where what is left is
pub sooner-below : (a b : Option ℕ) (k : ℕ) → IsBelow (sooner a b) k → IsBelow a k × IsBelow b k
sooner-below None b k i = (tt, i)
sooner-below (Some m) None k i = (i, tt)
sooner-below (Some m) (Some n) k i = let l : min m n ≤ m = min-le_left m n in let r : min m n ≤ n = min-le_right m n in (omega (arith, i, l), omega (arith, i, r))

pub fewer-below : (a : Option ℕ) (j k : ℕ) → j ≤ k → IsBelow a k → IsBelow a j
fewer-below None j k l i = tt
fewer-below (Some n) j k l i = omega (arith, l, i)

later-below : (a : Option ℕ) (moves : Bool) (j k : ℕ) → j ≤ k → (moves ≡ true → j < k) → IsBelow (later a moves) k → IsBelow a j
later-below None moves j k l m i = tt
later-below (Some n) true j k l m i = let h : j < k = m refl in omega (arith, h, i)
later-below (Some n) false j k l m i = omega (arith, l, i)

-- and what is below both is below the smaller; below one more after a token is what is one less before it
pub both-below : (a b : Option ℕ) (k : ℕ) → IsBelow a k → IsBelow b k → IsBelow (sooner a b) k
both-below None b k i j = j
both-below (Some m) None k i j = i
both-below (Some m) (Some n) k i j = by_order (nat_le m n) refl
  where
    by_order : (c : Bool) → nat_le m n ≡ c → k < min m n
    by_order true e = let l : m ≤ n = grind (arith, nat_tests) in let s : min m n ≡ m = min_comm m n ∙ min-eq_right l in rw s i
    by_order false e = let l : n ≤ m = grind (arith, nat_tests) in let s : min m n ≡ n = min-eq_right l in rw s j

pub behind-below : (a : Option ℕ) (depth : ℕ) → ((k : ℕ) → k < depth → IsBelow a k) → (k : ℕ) → k < suc depth → IsBelow (later a true) k
behind-below None depth h k l = tt
behind-below (Some n) depth h zero l = omega arith
behind-below (Some n) depth h (suc k) l = let i : k < n = h k (omega (arith, l)) in omega (arith, i)

-- what is never refused needs no number
pub never-below : {Tok : Type 0} {f : Ender Tok} → NeverRefused f → NeverRefusedBelow None f
never-below h = λ ts i e. h ts e

-- what is refused of no text that is so short, since its parts are not
pub then-decided : {Tok : Type 0} (f g : Ender Tok) (P : List Tok → Type 0) → TakesOnly f P → (moves : Bool)
    → (moves ≡ true → EndsFurther f) → (a b : Option ℕ) → NeverRefusedBelow a f → NeverRefusedBelow b g
    → NeverRefusedBelow (sooner a (later b moves)) (then_ends f g)
then-decided {Tok} f g P p moves m a b h k = λ ts i r. let n = sooner-below a (later b moves) (length ts) i in by_first ts n.0 n.1 (f ts) refl r
  where
    by_first : (ts : List Tok) → IsBelow a (length ts) → IsBelow (later b moves) (length ts) → (x : Ending (List Tok)) → f ts ≡ x → and_then g x ≡ Refused → ⊥
    by_first ts i j Nowhere d r = absurd (cc r)
    by_first ts i j Refused d r = h ts i d
    by_first ts i j (At mid) d r = k mid (later-below b moves (length mid) (length ts) (keeps_tokens f P p ts mid d) (λ e. m e ts mid d) j) r

pub else-decided : {Tok : Type 0} (f g : Ender Tok) (a b : Option ℕ) → NeverRefusedBelow a f → NeverRefusedBelow b g → NeverRefusedBelow (sooner a b) (either_ends f g)
else-decided {Tok} f g a b h k = λ ts i r. let n = sooner-below a b (length ts) i in by_first ts n.0 n.1 (f ts) refl r
  where
    by_first : (ts : List Tok) → IsBelow a (length ts) → IsBelow b (length ts) → (x : Ending (List Tok)) → f ts ≡ x → or_else x (g ts) ≡ Refused → ⊥
    by_first ts i j Nowhere d r = k ts j r
    by_first ts i j Refused d r = h ts i d
    by_first ts i j (At mid) d r = absurd (cc r)
