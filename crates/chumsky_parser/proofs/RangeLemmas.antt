-- The characters of a range.
use Rattle.std.specs.Prelude.{◌≡◌, ℕ, zero, suc, ◌+◌, ◌-◌, ◌≤◌, ◌<◌, Bool, true, false, cond, List, [], ◌∷◌, ◌++◌, ◌&&◌, ◌||◌, length, Option, Some, None, nat_eq, nat_lt, nat_le, SomeIff, ◌==◌}
use Rattle.std.specs.List.{list_any, filter, range_with_len}
use Rattle.std.specs.Char.{IsScalar}
use Rattle.std.specs.Option.{unwrap_or}
use Rattle.std.specs.Ordering.{nat_cmp, is_le, is_lt}
use Rattle.std.specs.declared.cmp.Ordering.TheVariants.{Less, Equal, Greater}
use Rattle.std.proofs.Common.{ap, sym, ◌∙◌, refl, arith, subst, ⊎_elim}
use Rattle.std.proofs.Math.Utf8.{scalar, scalar_cases}
use Rattle.std.proofs.lemmas.Bool.{cases_lt, cases_Bool}
use Rattle.std.proofs.lemmas.Bool.Decides.{nat_tests}
use Rattle.std.proofs.lemmas.List.Elements.{filter-append}
use Rattle.std.proofs.lemmas.List.Sums.{length-filter, count_by-le-length}
use Rattle.std.proofs.lemmas.List.FromFn.{length-range_with_len}
use Rattle.std.proofs.lemmas.Map.Views.{any-filter_same}
use Rattle.chumsky_parser.specs.Members.{chars_between}

range_split : (a p q : ℕ) → range_with_len a (p + q) ≡ range_with_len a p ++ range_with_len (a + p) q
range_split a zero q =
    let e : zero + q ≡ q = omega arith in let f : a + zero ≡ a = omega arith in ap (range_with_len a) e ∙ sym (ap (λ k. range_with_len k q) f)
range_split a (suc p) q =
    let e : suc p + q ≡ suc (p + q) = omega arith in
    let f : a + 1 + p ≡ a + suc p = omega arith in
    ap (range_with_len a) e ∙ ap (λ t. a ∷ t) (range_split (a + 1) p q ∙ ap (λ k. range_with_len (a + 1) p ++ range_with_len k q) f)

between_split : (a m b : ℕ) → a ≤ m → m ≤ b → chars_between a b ≡ chars_between a m ++ chars_between m b
between_split a m b h l =
    let e : b - a ≡ (m - a) + (b - m) = omega arith in
    let f : a + (m - a) ≡ m = omega arith in
    ap (λ n. filter scalar (range_with_len a n)) e
    ∙ ap (filter scalar) (range_split a (m - a) (b - m))
    ∙ filter-append scalar (range_with_len a (m - a)) (range_with_len (a + (m - a)) (b - m))
    ∙ ap (λ k. chars_between a m ++ filter scalar (range_with_len k (b - m))) f

between_none : (a b : ℕ) → b ≤ a → chars_between a b ≡ []
between_none a b l = let e : b - a ≡ 0 = omega arith in ap (λ n. filter scalar (range_with_len a n)) e

-- between two numbers there are no more characters than numbers
between_few : (a b : ℕ) → length (chars_between a b) ≤ b - a
between_few a b =
    let passed = length-filter scalar (range_with_len a (b - a)) in
    let few = count_by-le-length scalar (range_with_len a (b - a)) in
    let all = length-range_with_len a (b - a) in
    omega (arith, passed, few, all)

-- a range has no more characters than numbers from its start to its end
pub range_few : (a at e : ℕ) (spent : Bool) → length (chars_between (a + at) (cond spent e (e + 1))) ≤ (e + 1) - a
range_few a at e true = let few = between_few (a + at) e in omega (arith, few)
range_few a at e false = let few = between_few (a + at) (e + 1) in omega (arith, few)

between_step : (c b : ℕ) → IsScalar c → c < b → chars_between c b ≡ c ∷ chars_between (c + 1) b
between_step c b s l =
    let e : b - c ≡ suc (b - (c + 1)) = omega arith in
    ap (λ n. filter scalar (range_with_len c n)) e ∙ ap (λ t. cond t (c ∷ chars_between (c + 1) b) (chars_between (c + 1) b)) s

filter_none : (a n : ℕ) → ((i : ℕ) → a ≤ i → i < a + n → scalar i ≡ false) → filter scalar (range_with_len a n) ≡ []
filter_none a zero h = refl
filter_none a (suc n) h =
    ap (λ t. cond t (a ∷ filter scalar (range_with_len (a + 1) n)) (filter scalar (range_with_len (a + 1) n))) (h a (omega arith) (omega arith))
    ∙ filter_none (a + 1) n (λ i l k. h i (omega arith) (omega arith))

surrogate : (c : ℕ) → 55296 ≤ c → c < 57344 → scalar c ≡ false
surrogate c l h =
    ⊎_elim (λ e. absurd (⊎_elim (λ k. let f : c < 55296 = k in let r : ⊥ = omega arith in r) (λ k. let f : 57344 ≤ c = k.0 in let r : ⊥ = omega arith in r) (scalar_cases c e))) (λ e. e)
    (cases_Bool (scalar c))

too_large : (c : ℕ) → 1114112 ≤ c → scalar c ≡ false
too_large c l =
    ⊎_elim (λ e. absurd (⊎_elim (λ k. let f : c < 55296 = k in let r : ⊥ = omega arith in r) (λ k. let f : c < 1114112 = k.1 in let r : ⊥ = omega arith in r) (scalar_cases c e))) (λ e. e)
    (cases_Bool (scalar c))

-- there is no character past the last
pub between_past : (a b : ℕ) → 1114112 ≤ a → chars_between a b ≡ []
between_past a b l = filter_none a (b - a) (λ i h k. too_large i (omega arith))

nil_left : {A : Type 0} (xs ys : List A) → xs ++ ys ≡ [] → xs ≡ []
nil_left [] ys e = refl
nil_left (x ∷ xs) ys e = absurd (cc)

shorter : (a b m : ℕ) → b ≤ m → chars_between a m ≡ [] → chars_between a b ≡ []
shorter a b m l e =
    ⊎_elim (λ h. nil_left (chars_between a b) (chars_between b m) (sym (between_split a b m (omega arith) l) ∙ e))
    (λ h. between_none a b h) (cases_lt a b)

gap : (a : ℕ) → 55296 ≤ a → a ≤ 57344 → chars_between a 57344 ≡ []
gap a l h = filter_none a (57344 - a) (λ i k m. surrogate i (omega arith) (omega arith))

in_gap : (a : ℕ) → scalar a ≡ false → a < 1114112 → (55296 ≤ a) × (a ≤ 57344)
in_gap a e l = grind (arith, nat_tests)

pub scalar_or : (o : Option ℕ) (a : ℕ) → SomeIff o (IsScalar a) a → (IsScalar a → unwrap_or o 57344 ≡ a) × (¬ IsScalar a → unwrap_or o 57344 ≡ 57344)
scalar_or None a h = (λ s. absurd (h s), λ n. refl)
scalar_or (Some x) a h = (λ s. h.1, λ n. absurd (n h.0))

-- the first character from a number on
pub first_from : (a c : ℕ) → a < 1114112 → (IsScalar a → c ≡ a) → (¬ IsScalar a → c ≡ 57344) → (a ≤ c) × IsScalar c × (chars_between a c ≡ [])
first_from a c l here there =
    ⊎_elim (λ e. let f = here e in subst (λ k. (a ≤ k) × IsScalar k × (chars_between a k ≡ [])) (sym f) (omega arith, e, between_none a a (omega arith)))
    (λ e. let n : ¬ IsScalar a = λ t. absurd (let b : true ≡ false = sym t ∙ e in cc) in let f = there n in let g
    = in_gap a e l in subst (λ k. (a ≤ k) × IsScalar k × (chars_between a k ≡ [])) (sym f)
    (g.1, refl, gap a g.0 g.1))
    (cases_Bool (scalar a))

range_any : (a n t : ℕ) → list_any (λ x. nat_eq x t) (range_with_len a n) ≡ (nat_le a t && nat_lt t (a + n))
range_any a zero t = grind (arith, nat_tests)
range_any a (suc n) t = ap (λ b. nat_eq a t || b) (range_any (a + 1) n t) ∙ grind (arith, nat_tests)

between_any : (a b t : ℕ) → IsScalar t → list_any (λ x. nat_eq x t) (chars_between a b) ≡ (nat_le a t && nat_lt t b)
between_any a b t s =
    any-filter_same (λ x. nat_eq x t) scalar true (λ k e. let f : k ≡ t = grind (arith, nat_tests) in ap scalar f ∙ s) (range_with_len a (b - a))
    ∙ range_any a (b - a) t
    ∙ grind (arith, nat_tests)

le_cases : (x y : Bool) → is_le (cond x Less (cond y Equal Greater)) ≡ (x || y)
le_cases true y = refl
le_cases false true = refl
le_cases false false = refl

lt_cases : (x y : Bool) → is_lt (cond x Less (cond y Equal Greater)) ≡ x
lt_cases true y = refl
lt_cases false true = refl
lt_cases false false = refl

le_test : (a b : ℕ) → is_le (nat_cmp a b) ≡ nat_le a b
le_test a b = le_cases (nat_lt a b) (a == b) ∙ grind (arith, nat_tests)

lt_test : (a b : ℕ) → is_lt (nat_cmp a b) ≡ nat_lt a b
lt_test a b = lt_cases (nat_lt a b) (a == b)

-- the test of a range's ends, and whether a character is in it
pub range_tests : (a e t : ℕ) (spent : Bool) → (is_le (nat_cmp a t) && cond spent (is_lt (nat_cmp t e)) (is_le (nat_cmp t e))) ≡ (nat_le a t && nat_lt t (cond spent e (e + 1)))
range_tests a e t true = let p = le_test a t in let q = lt_test t e in cc
range_tests a e t false = let p = le_test a t in let q = le_test t e in let r : nat_le t e ≡ nat_lt t (e + 1) = grind (arith, nat_tests) in cc

pub range_has : (a e t : ℕ) (spent : Bool) → IsScalar t
    → (is_le (nat_cmp a t) && cond spent (is_lt (nat_cmp t e)) (is_le (nat_cmp t e)))
    ≡ list_any (λ x. nat_eq x t) (chars_between a (cond spent e (e + 1)))
range_has a e t spent s = range_tests a e t spent ∙ sym (between_any a (cond spent e (e + 1)) t s)

-- the first character from a number on is in the range
pub range_next : (a e at now code c : ℕ) (spent : Bool) → now ≡ a → code ≡ now + at
    → (code ≤ c) × IsScalar c × (chars_between code c ≡ [])
    → true ≡ (is_le (nat_cmp a c) && cond spent (is_lt (nat_cmp c e)) (is_le (nat_cmp c e)))
    → chars_between (a + at) (cond spent e (e + 1)) ≡ c ∷ chars_between (a + (c - now + 1)) (cond spent e (e + 1))
range_next a e at now code c spent n is first t =
    let past = cond spent e (e + 1) in
    let b : (nat_le a c && nat_lt c past) ≡ true = sym (t ∙ range_tests a e c spent) in
    let in_range : (a ≤ c) × (c < past) = grind (arith, nat_tests) in
    let low = in_range.0 in
    let high = in_range.1 in
    let here : a + at ≡ code = omega arith in
    let next : c + 1 ≡ a + (c - now + 1) = omega arith in
    ap (λ k. chars_between k past) here
    ∙ between_split code c past first.0 (omega arith)
    ∙ ap (λ l. l ++ chars_between c past) first.2
    ∙ between_step c past first.1 high
    ∙ ap (λ k. c ∷ chars_between k past) next

-- the first character from a number on is past the range
pub range_ends : (a e at now code c : ℕ) (spent : Bool) → now ≡ a → code ≡ now + at
    → (code ≤ c) × IsScalar c × (chars_between code c ≡ [])
    → false ≡ (is_le (nat_cmp a c) && cond spent (is_lt (nat_cmp c e)) (is_le (nat_cmp c e)))
    → chars_between (a + at) (cond spent e (e + 1)) ≡ []
range_ends a e at now code c spent n is first t =
    let past = cond spent e (e + 1) in
    let b : (nat_le a c && nat_lt c past) ≡ false = sym (t ∙ range_tests a e c spent) in
    let low : a ≤ c = let l = first.0 in omega arith in
    let high : past ≤ c = grind (arith, nat_tests) in
    let here : a + at ≡ code = omega arith in
    ap (λ k. chars_between k past) here ∙ shorter code past c high first.2
