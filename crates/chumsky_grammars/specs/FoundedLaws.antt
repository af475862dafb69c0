-- Of founded rules each has a language that is said, and no text is refused under enough calls.
-- Main laws: rule-said, rule-moves, rule-below. Read first: Founded.antt, RuleLanguage.antt.
use Rattle.std.proofs.Common.{◌≡◌, ℕ, zero, suc, ◌+◌, ◌*◌, ◌≤◌, ◌<◌, Bool, true, false, not, nat_lt, Option, Some, None, List, [], ◌∷◌, length, slice_get, refl, subst, arith, zero-add, ◌⊎◌, inl, inr}
use Rattle.std.specs.Prelude.{◌&&◌, ◌||◌, is_some}
use Rattle.std.proofs.Math.Nat.{mul-le-mul_left}
use Rattle.std.proofs.lemmas.Bool.Decides.{nat_tests}
use Rattle.chumsky_parser.specs.FurtherLaws.{both-below}
use Rattle.chumsky_parser.specs.Language.{Language, IsBelow, later}
use Rattle.chumsky_parser.specs.ProgressLaws.{both-true, either-true}
use Rattle.chumsky_grammars.specs.Expression.{Expression, Leaf, Call, Then, Or, Fail, Map, TryMap, Optional, Repeated, Separated, Not, And, Ahead, Unsaid}
use Rattle.chumsky_grammars.specs.Founded.{Claims, may_stay, calls_below, goes_on, is_founded, all_founded}
use Rattle.chumsky_grammars.specs.RuleLanguage.{Makes, tried_language, expression_language, rule_language}

not_true : (x : Bool) → not x ≡ true → x ≡ false
not_true true e = absurd (cc e)
not_true false e = refl

neither : (x y : Bool) → x || y ≡ false → (x ≡ false) × (y ≡ false)
neither true y e = absurd (cc e)
neither false y e = (refl, e)

one_false : (x y : Bool) → x && y ≡ false → (x ≡ false) ⊎ (y ≡ false)
one_false true y e = inr e
one_false false y e = inl refl

second_true : (x y : Bool) → y ≡ true → x || y ≡ true
second_true true y e = refl
second_true false y e = e

less : (m n : ℕ) → nat_lt m n ≡ true → m < n
less m n e = grind (arith, nat_tests)

-- a rule that is there
found : (es : List Expression) (r : ℕ) → r < length es → (e : Expression) × (slice_get es r ≡ Some e)
found [] r l = absurd (omega arith)
found (e ∷ es) zero l = (e, refl)
found (e ∷ es) (suc r) l = found es r (omega arith)

-- below what comes after a part is what is one less where the part takes a token, and else what is below it
after : (n : Option ℕ) (k : ℕ) (moves : Bool) → ((j : ℕ) → j < k → IsBelow n j) → (moves ≡ false → IsBelow n k) → IsBelow (later n moves) k
after None k moves h i = tt
after (Some n) zero true h i = omega arith
after (Some n) (suc k) true h i = let l : k < n = h k (omega arith) in omega (arith, l)
after (Some n) k false h i = i refl

-- what holds of what mappers that may refuse make, whatever that is, holds where it is said
where_picked : {Tok V : Type 0} (Q : Language Tok V → Type 0) (f : ℕ) (F : Language Tok V) (picks : Option (ℕ → List Tok → Option V)) → is_some picks ≡ true
    → ((p : ℕ → List Tok → Option V) → Q (tried_language (Some p) f F)) → Q (tried_language picks f F)
where_picked Q f F (Some p) s h = h p
where_picked Q f F None s h = absurd (cc s)

module _ {Tok V : Type 0} (c : Claims) (makes : Makes Tok V) (leaf : ℕ → Language Tok V) (leaf_said : (n : ℕ) → (leaf n).said ≡ true)
    (leaf_moves : (n : ℕ) → c.leaf_stays n ≡ false → (leaf n).moves ≡ true)
    (leaf_decided : (n : ℕ) → (leaf n).refused_from ≡ None) where
  abbrev picked : Bool
  picked = is_some makes.picks

  module _ (call : ℕ → Language Tok V) (call_said : (r : ℕ) → r < c.count → (call r).said ≡ true) (call_moves : (r : ℕ) → r < c.count → c.rule_stays r ≡ false → (call r).moves ≡ true) where
    abbrev of : Expression → Language Tok V
    of = expression_language makes leaf call

    -- one that may not stay takes a token
    expression_moves : (e : Expression) → goes_on c picked e ≡ true → may_stay c e ≡ false → (of e).moves ≡ true
    expression_moves (Leaf n) g m = leaf_moves n m
    expression_moves (Call r) g m = call_moves r (less r c.count g) m
    expression_moves (Then e f n) g m =
        let h = both-true (goes_on c picked e) (goes_on c picked f) g in
        elim (one_false (may_stay c e) (may_stay c f) m) [
          | inl y ↦ rw (expression_moves e h.0 y) refl
          | inr y ↦ second_true (of e).moves (of f).moves (expression_moves f h.1 y)
        ]
    expression_moves (Or e f) g m =
        let h = both-true (goes_on c picked e) (goes_on c picked f) g in
        let n = neither (may_stay c e) (may_stay c f) m in
        rw (expression_moves e h.0 n.0, expression_moves f h.1 n.1) refl
    expression_moves Fail g m = refl
    expression_moves (Map e f) g m = expression_moves e g m
    expression_moves (TryMap e f) g m = let h = both-true picked (goes_on c picked e) g in where_picked (λ l. l.moves ≡ true) f (of e) makes.picks h.0 (λ p. expression_moves e h.1 m)
    expression_moves (Optional e) g m = absurd (cc m)
    expression_moves (Repeated e least most) g m = absurd (cc m)
    expression_moves (Separated e f config) g m = absurd (cc m)
    expression_moves (Not e) g m = absurd (cc m)
    expression_moves (And e f) g m = expression_moves e (both-true (goes_on c picked e) (goes_on c picked f) g).0 m
    expression_moves (Ahead e) g m = absurd (cc m)
    expression_moves Unsaid g m = absurd (cc m)

    -- something is said of each
    expression_said : (e : Expression) → goes_on c picked e ≡ true → (of e).said ≡ true
    expression_said (Leaf n) g = leaf_said n
    expression_said (Call r) g = call_said r (less r c.count g)
    expression_said (Then e f n) g = let h = both-true (goes_on c picked e) (goes_on c picked f) g in rw (expression_said e h.0, expression_said f h.1) refl
    expression_said (Or e f) g = let h = both-true (goes_on c picked e) (goes_on c picked f) g in rw (expression_said e h.0, expression_said f h.1) refl
    expression_said Fail g = refl
    expression_said (Map e f) g = expression_said e g
    expression_said (TryMap e f) g = let h = both-true picked (goes_on c picked e) g in where_picked (λ l. l.said ≡ true) f (of e) makes.picks h.0 (λ p. expression_said e h.1)
    expression_said (Optional e) g = expression_said e g
    expression_said (Repeated e least most) g =
        let h = both-true (not (may_stay c e)) (goes_on c picked e) g in
        rw (expression_said e h.1, expression_moves e h.1 (not_true (may_stay c e) h.0)) refl
    expression_said (Separated e f config) g =
        let h = both-true (not (may_stay c e)) (goes_on c picked e && goes_on c picked f) g in
        let k = both-true (goes_on c picked e) (goes_on c picked f) h.1 in
        rw (expression_said e k.0, expression_moves e k.0 (not_true (may_stay c e) h.0), expression_said f k.1) refl
    expression_said (Not e) g = expression_said e g
    expression_said (And e f) g = let h = both-true (goes_on c picked e) (goes_on c picked f) g in rw (expression_said e h.0, expression_said f h.1) refl
    expression_said (Ahead e) g = expression_said e g
    expression_said Unsaid g = absurd (cc g)

    -- calls of the rules refuse no text that is shorter than so many tokens, and those of lower rank none that is as long
    module _ (most rank : ℕ) (shorter : (r k : ℕ) → r < c.count → k < most → IsBelow (call r).refused_from k)
        (lower : (r k : ℕ) → r < c.count → k ≤ most → c.rank r < rank → IsBelow (call r).refused_from k) where
      -- fewer tokens are left, or it calls only rules of lower rank where it begins
      abbrev Allowed : Expression → ℕ → Type 0
      Allowed e k = (k < most) ⊎ ((k ≤ most) × (calls_below c rank e ≡ true))

      -- so of a part that begins where it does
      part : (e f : Expression) (k : ℕ) → Allowed e k → (calls_below c rank e ≡ true → calls_below c rank f ≡ true) → Allowed f k
      part e f k (inl l) h = inl l
      part e f k (inr a) h = inr (a.0, h a.1)

      at_most : (e : Expression) (k : ℕ) → Allowed e k → k ≤ most
      at_most e k (inl l) = omega arith
      at_most e k (inr a) = a.0

      -- and of one after a part that may have taken nothing
      next : (e f : Expression) (n k : ℕ) → Allowed (Then e f n) k → goes_on c picked e ≡ true → (of e).moves ≡ false → Allowed f k
      next e f n k (inl l) g m = inl l
      next e f n k (inr a) g m =
          let b = both-true (calls_below c rank e) (not (may_stay c e) || calls_below c rank f) a.1 in
          elim (either-true (not (may_stay c e)) (calls_below c rank f) b.1) [
            | inl y ↦ absurd (cc (expression_moves e g (not_true (may_stay c e) y), m))
            | inr y ↦ inr (a.0, y)
          ]

      below : (e : Expression) → goes_on c picked e ≡ true → (k : ℕ) → Allowed e k → IsBelow (of e).refused_from k
      below (Leaf n) g k a = rw (leaf_decided n) tt
      below (Call r) g k (inl l) = shorter r k (less r c.count g) l
      below (Call r) g k (inr a) = lower r k (less r c.count g) a.0 (less (c.rank r) rank a.1)
      below (Then e f n) g k a =
          let h = both-true (goes_on c picked e) (goes_on c picked f) g in
          let q = at_most (Then e f n) k a in
          both-below (of e).refused_from (later (of f).refused_from (of e).moves) k
          (below e h.0 k (part (Then e f n) e k a (λ b. (both-true (calls_below c rank e) (not (may_stay c e) || calls_below c rank f) b).0)))
          (after (of f).refused_from k (of e).moves (λ j l. below f h.1 j (inl (omega (arith, l, q)))) (λ m. below f h.1 k (next e f n k a h.0 m)))
      below (Or e f) g k a =
          let h = both-true (goes_on c picked e) (goes_on c picked f) g in
          both-below (of e).refused_from (of f).refused_from k (below e h.0 k (part (Or e f) e k a (λ b. (both-true (calls_below c rank e) (calls_below c rank f) b).0)))
          (below f h.1 k (part (Or e f) f k a (λ b. (both-true (calls_below c rank e) (calls_below c rank f) b).1)))
      below Fail g k a = tt
      below (Map e f) g k a = below e g k (part (Map e f) e k a (λ b. b))
      below (TryMap e f) g k a =
          let h = both-true picked (goes_on c picked e) g in
          where_picked (λ l. IsBelow l.refused_from k) f (of e) makes.picks h.0 (λ p. below e h.1 k (part (TryMap e f) e k a (λ b. b)))
      below (Optional e) g k a = below e g k (part (Optional e) e k a (λ b. b))
      below (Repeated e least cap) g k a = below e (both-true (not (may_stay c e)) (goes_on c picked e) g).1 k (part (Repeated e least cap) e k a (λ b. b))
      below (Separated e f config) g k a =
          let h = both-true (goes_on c picked e) (goes_on c picked f) (both-true (not (may_stay c e)) (goes_on c picked e && goes_on c picked f) g).1 in
          both-below (of e).refused_from (of f).refused_from k (below e h.0 k (part (Separated e f config) e k a (λ b. (both-true (calls_below c rank e) (calls_below c rank f) b).0)))
          (below f h.1 k (part (Separated e f config) f k a (λ b. (both-true (calls_below c rank e) (calls_below c rank f) b).1)))
      below (Not e) g k a = below e g k (part (Not e) e k a (λ b. b))
      below (And e f) g k a =
          let h = both-true (goes_on c picked e) (goes_on c picked f) g in
          both-below (of e).refused_from (of f).refused_from k (below e h.0 k (part (And e f) e k a (λ b. (both-true (calls_below c rank e) (calls_below c rank f) b).0)))
          (below f h.1 k (part (And e f) f k a (λ b. (both-true (calls_below c rank e) (calls_below c rank f) b).1)))
      below (Ahead e) g k a = below e g k (part (Ahead e) e k a (λ b. b))
      below Unsaid g k a = absurd (cc g)

  -- the claims hold of each rule
  founded_from : (rules : List Expression) (from : ℕ) → all_founded c picked from rules ≡ true → (r : ℕ) (e : Expression) → slice_get rules r ≡ Some e → is_founded c picked (from + r) e ≡ true
  founded_from [] from h r e q = absurd (cc q)
  founded_from (x ∷ xs) from h zero e q =
      let y : x ≡ e = cc q in
      let z : from + 0 ≡ from = omega arith in
      rw z (subst (λ w. is_founded c picked from w ≡ true) y (both-true (is_founded c picked from x) (all_founded c picked (suc from) xs) h).0)
  founded_from (x ∷ xs) from h (suc r) e q =
      let z : from + suc r ≡ suc from + r = omega arith in
      rw z (founded_from xs (suc from) (both-true (is_founded c picked from x) (all_founded c picked (suc from) xs) h).1 r e q)

  module _ (rules : List Expression) (founded : all_founded c picked 0 rules ≡ true) (all : c.count ≡ length rules) where
    abbrev called : ℕ → ℕ → Language Tok V
    called = rule_language makes leaf rules

    -- the body of a rule, of which the claims hold
    pub record Body (r : ℕ) : Type 0 where
      pub expression : Expression
      pub is : slice_get rules r ≡ Some expression
      pub ranked : c.rank r < c.count
      pub stays : c.rule_stays r ≡ false → may_stay c expression ≡ false
      pub below : calls_below c (c.rank r) expression ≡ true
      pub goes : goes_on c picked expression ≡ true

    body : (r : ℕ) → r < c.count → Body r
    body r l =
        let b = found rules r (omega (arith, all, l)) in
        let z : 0 + r ≡ r = zero-add r in
        let f : is_founded c picked r b.0 ≡ true = subst (λ n. is_founded c picked n b.0 ≡ true) z (founded_from rules 0 founded r b.0 b.1) in
        let k = both-true (nat_lt (c.rank r) c.count && (c.rule_stays r || not (may_stay c b.0))) (calls_below c (c.rank r) b.0 && goes_on c picked b.0) f in
        let j = both-true (nat_lt (c.rank r) c.count) (c.rule_stays r || not (may_stay c b.0)) k.0 in
        let i = both-true (calls_below c (c.rank r) b.0) (goes_on c picked b.0) k.1 in
        record { expression = b.0; is = b.1; ranked = less (c.rank r) c.count j.0; stays = λ s. stays (c.rule_stays r) (may_stay c b.0) j.1 s; below = i.0; goes = i.1 }
      where
        stays : (x y : Bool) → x || not y ≡ true → x ≡ false → y ≡ false
        stays true y e f = absurd (cc f)
        stays false y e f = not_true y e

    -- each call is said, and takes a token where its rule may not stay
    record AreSaid (n : ℕ) : Type 0 where
      said : (r : ℕ) → r < c.count → (called n r).said ≡ true
      moves : (r : ℕ) → r < c.count → c.rule_stays r ≡ false → (called n r).moves ≡ true

    are_said : (n : ℕ) → AreSaid n
    are_said zero = record { said = λ r l. refl; moves = λ r l s. refl }
    are_said (suc n) = record {
      said = λ r l. let b = body r l in let i = are_said n in rw b.is (expression_said (called n) i.said i.moves b.expression b.goes);
      moves = λ r l s. let b = body r l in let i = are_said n in rw b.is (expression_moves (called n) i.said i.moves b.expression b.goes (b.stays s));
    }

    pub rule-said : (n r : ℕ) → r < c.count → (called n r).said ≡ true
    rule-said n = (are_said n).said

    pub rule-moves : (n r : ℕ) → r < c.count → c.rule_stays r ≡ false → (called n r).moves ≡ true
    rule-moves n = (are_said n).moves

    -- under more calls than rules times tokens, and the rank, no text of so many tokens is refused
    pub rule-below : (n r k : ℕ) → r < c.count → c.count * k + c.rank r < n → IsBelow (called n r).refused_from k
    rule-below zero r k l w = absurd (omega arith)
    rule-below (suc n) r k l w =
        let b = body r l in
        let i = are_said n in
        let same : k ≤ k = omega arith in
        rw b.is (below (called n) i.said i.moves k (c.rank r) (λ s j m d. rule-below n s j m (fewer n r s k j w d (body s m).ranked))
        (λ s j m d e. rule-below n s j m (lower_rank n r s k j w d e)) b.expression b.goes k (inr (same, b.below)))
      where
        fewer : (n r s k j : ℕ) → c.count * k + c.rank r < suc n → j < k → c.rank s < c.count → c.count * j + c.rank s < n
        fewer n r s k j w d b =
            let e : suc j ≤ k = omega arith in
            let m : c.count * suc j ≤ c.count * k = mul-le-mul_left c.count e in
            omega arith

        lower_rank : (n r s k j : ℕ) → c.count * k + c.rank r < suc n → j ≤ k → c.rank s < c.rank r → c.count * j + c.rank s < n
        lower_rank n r s k j w d e = let m : c.count * j ≤ c.count * k = mul-le-mul_left c.count d in omega arith
