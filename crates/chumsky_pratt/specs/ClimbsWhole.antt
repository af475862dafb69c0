-- Each word of a tree is taken whole, where the words of its atoms and operators tell one another apart, and what follows may.
-- Main law: tree-taken. Read first: PrecedenceLanguage.antt, TreeClimbLaws.antt.
use Rattle.std.proofs.Common.{◌≡◌, ℕ, zero, suc, ◌+◌, ◌≤◌, ◌<◌, nat_lt, Bool, true, false, Option, Some, None, List, ◌++◌, refl, sym, ◌∙◌, ap, subst, append_assoc, arith, ◌⊎◌, inl, inr}
use Rattle.std.proofs.lemmas.Bool.Decides.{nat_tests}
use Rattle.chumsky_parser.specs.Ending.{Ending, At, Nowhere, Refused, Ender, and_then, or_else, EndsOrRefused, DoesNotEnd}
use Rattle.chumsky_parser.specs.Language.{Language, TakesEach, EndsFurther}
use Rattle.chumsky_pratt.specs.declared.fixity.Fixity.{Fixity}
use Rattle.chumsky_pratt.specs.declared.fixity.Fixity.TheVariants.{Prefix, Postfix, Infix}
use Rattle.chumsky_pratt.specs.OperatorTrees.{
  OperatorTree,
  Atom,
  Prefixed,
  Postfixed,
  Infixed,
  is_tried,
  power_after,
  IsPrefix,
  IsPostfix,
  IsInfix,
  HasBefore,
  HasAfter,
  SameSide,
  bound_of,
  YieldsTo,
  Binds,
  TreeWord,
}
use Rattle.chumsky_pratt.specs.TreeClimb.{first_attempt, where_tried, climb_before, climb_after, climb_between, climb_step, go_on, climbed, climb_operand}
use Rattle.chumsky_pratt.specs.TreeClimbLaws.{climbed-on}
use Rattle.chumsky_pratt.specs.Operating.{OperatorLanguages}
use Rattle.chumsky_pratt.specs.PrecedenceLanguage.{MayOpen, TellApart, FollowsAll, OfTree, precedence_ends}

-- two numbers are the same, or not
same_or_not : (k i : ℕ) → (k ≡ i) ⊎ (k ≡ i → ⊥)
same_or_not k i = by_order (nat_lt k i) (nat_lt i k) refl refl
  where
    by_order : (a b : Bool) → nat_lt k i ≡ a → nat_lt i k ≡ b → (k ≡ i) ⊎ (k ≡ i → ⊥)
    by_order true b d e = inr (λ s. let l : k < i = grind (arith, nat_tests) in omega (arith, l, s))
    by_order false true d e = inr (λ s. let l : i < k = grind (arith, nat_tests) in omega (arith, l, s))
    by_order false false d e = inl (let l : i ≤ k = grind (arith, nat_tests) in let m : k ≤ i = grind (arith, nat_tests) in omega (arith, l, m))

-- the one is the other, or it is refused
abbrev IsOrRefused : {X : Type 0} → Ending X → Ending X → Type 0
IsOrRefused x y = (x ≡ y) ⊎ (x ≡ Refused)

or-trans : {X : Type 0} (x y z : Ending X) → IsOrRefused x y → IsOrRefused y z → IsOrRefused x z
or-trans x y z (inl d) (inl e) = inl (d ∙ e)
or-trans x y z (inl d) (inr e) = inr (d ∙ e)
or-trans x y z (inr d) e = inr d

or-then : {X Y : Type 0} (x : Ending X) (m : X) (k : X → Ending Y) (y : Ending Y) → EndsOrRefused x m → IsOrRefused (k m) y → IsOrRefused (and_then k x) y
or-then x m k y (inl d) e = rw d e
or-then x m k y (inr d) e = rw d (inr refl)

no-then : {X Y : Type 0} (x : Ending X) (k : X → Ending Y) → DoesNotEnd x → DoesNotEnd (and_then k x)
no-then (At m) k n = absurd n
no-then Nowhere k n = tt
no-then Refused k n = tt

not-tried : {X : Type 0} (c : Bool) (x : Ending X) → DoesNotEnd x ⊎ (c ≡ false) → DoesNotEnd (where_tried c x)
not-tried true x (inl n) = n
not-tried true x (inr e) = absurd (cc e)
not-tried false x n = tt

is-tried : {X : Type 0} (c : Bool) (x : Ending X) (z : X) → c ≡ true → EndsOrRefused x z → EndsOrRefused (where_tried c x) z
is-tried c x z e h = rw e h

module _ {X : Type 0} (attempt : ℕ → Ending X) (to : ℕ) (last : Ending X) where
  -- where each attempt fails, the first of them is the last
  past_one : (x rest y : Ending X) → DoesNotEnd x → IsOrRefused rest y → IsOrRefused (or_else x rest) y
  past_one (At m) rest y n k = absurd n
  past_one Nowhere rest y n k = k
  past_one Refused rest y n k = inr refl

  first-past : (count i : ℕ) (y : Ending X) → i + count ≡ to → ((k : ℕ) → k < to → DoesNotEnd (attempt k)) → IsOrRefused last y → IsOrRefused (first_attempt attempt count i last) y
  first-past zero i y s n k = k
  first-past (suc count) i y s n k = past_one (attempt i) (first_attempt attempt count (suc i) last) y (n i (omega (arith, s))) (first-past count (suc i) y (omega (arith, s)) n k)

  stays : (x rest : Ending X) (z : X) → EndsOrRefused x z → EndsOrRefused (or_else x rest) z
  stays x rest z (inl e) = rw e (inl refl)
  stays x rest z (inr e) = rw e (inr refl)

  -- where each but one fails, it is that one
  first-is : (count i j : ℕ) (z : X) → i + count ≡ to → i ≤ j → j < to → ((k : ℕ) → k < to → (k ≡ j → ⊥) → DoesNotEnd (attempt k)) → EndsOrRefused (attempt j) z
      → EndsOrRefused (first_attempt attempt count i last) z
  first-is zero i j z s l m n e = absurd (omega (arith, s, l, m))
  first-is (suc count) i j z s l m n e = elim (same_or_not i j) [
    | inl q ↦ stays (attempt i) (first_attempt attempt count (suc i) last) z (subst (λ k. EndsOrRefused (attempt k) z) (sym q) e)
    | inr q ↦ past_one (attempt i) (first_attempt attempt count (suc i) last) (At z) (n i (omega (arith, s)) q)
        (first-is count (suc i) j z (omega (arith, s)) (elim (same_or_not i j) [ inl p ↦ absurd (q p) | inr p ↦ other i j l p ]) m n e)
  ]
    where
      other : (i j : ℕ) → i ≤ j → (i ≡ j → ⊥) → suc i ≤ j
      other i j l p = by_order (nat_lt i j) refl
        where
          by_order : (c : Bool) → nat_lt i j ≡ c → suc i ≤ j
          by_order true d = grind (arith, nat_tests)
          by_order false d = absurd (p (let h : j ≤ i = grind (arith, nat_tests) in omega (arith, l, h)))

  -- where each attempt fails, and the last, so does the first of them
  none-first : (count i : ℕ) → i + count ≡ to → ((k : ℕ) → k < to → DoesNotEnd (attempt k)) → DoesNotEnd last → DoesNotEnd (first_attempt attempt count i last)
  none-first zero i s n k = k
  none-first (suc count) i s n k = none_else (attempt i) (first_attempt attempt count (suc i) last) (n i (omega (arith, s))) (none-first count (suc i) (omega (arith, s)) n k)
    where
      none_else : (x rest : Ending X) → DoesNotEnd x → DoesNotEnd rest → DoesNotEnd (or_else x rest)
      none_else (At m) rest a b = absurd a
      none_else Nowhere rest a b = b
      none_else Refused rest a b = tt

side_of_prefix : (f g : Fixity) → IsPrefix f → IsPrefix g → SameSide f g
side_of_prefix (Prefix p) g a b = b
side_of_prefix (Postfix p) g a b = absurd a
side_of_prefix (Infix l r c) g a b = absurd a

side_after : (f g : Fixity) → HasBefore f → HasBefore g → SameSide f g
side_after (Prefix p) g a b = absurd a
side_after (Postfix p) g a b = b
side_after (Infix l r c) g a b = b

before_postfix : (f : Fixity) → IsPostfix f → HasBefore f
before_postfix (Prefix p) a = absurd a
before_postfix (Postfix p) a = tt
before_postfix (Infix l r c) a = absurd a

before_infix : (f : Fixity) → IsInfix f → HasBefore f
before_infix (Prefix p) a = absurd a
before_infix (Postfix p) a = absurd a
before_infix (Infix l r c) a = tt

after_prefix : (f : Fixity) → IsPrefix f → HasAfter f
after_prefix (Prefix p) a = tt
after_prefix (Postfix p) a = absurd a
after_prefix (Infix l r c) a = absurd a

after_infix : (f : Fixity) → IsInfix f → HasAfter f
after_infix (Prefix p) a = absurd a
after_infix (Postfix p) a = absurd a
after_infix (Infix l r c) a = tt

not_both : (f : Fixity) → IsPostfix f → IsInfix f → ⊥
not_both (Prefix p) a b = a
not_both (Postfix p) a b = b
not_both (Infix l r c) a b = a

module _ {Tok V : Type 0} (number : ℕ) (stands : ℕ → Fixity) (A : Language Tok V) (row : OperatorLanguages Tok V) (u : TellApart number stands A row)
    (atom_each : TakesEach A.ends A.word A.follow) (each : (i : ℕ) → i < number → TakesEach (row.operator i).ends (row.operator i).word (row.operator i).follow)
    (atom_further : EndsFurther A.ends) (ends_further : (i : ℕ) → EndsFurther (row.operator i).ends) where
  abbrev ends : ℕ → Ender Tok
  ends i = (row.operator i).ends

  abbrev Climbed : ℕ → Option OperatorTree → List Tok → Ending (OperatorTree × List Tok)
  Climbed = climbed number stands A.ends ends

  abbrev OperandBy : ℕ → List Tok → Ending (OperatorTree × List Tok)
  OperandBy = climb_operand number stands A.ends ends

  abbrev StepBy : ℕ → Option OperatorTree → List Tok → Ending (OperatorTree × List Tok)
  StepBy = climb_step number stands A.ends ends OperandBy

  -- no operator ends here but perhaps this one
  abbrev OthersFail : ℕ → List Tok → Type 0
  OthersFail i ts = (k : ℕ) → k < number → (k ≡ i → ⊥) → HasBefore (stands k) → DoesNotEnd (ends k ts)

  after-fails : (least : ℕ) (t : OperatorTree) (k : ℕ) (ts : List Tok) (f : Fixity) → (HasBefore f → DoesNotEnd (ends k ts) ⊎ (is_tried least (bound_of number stands t) f ≡ false))
      → DoesNotEnd (climb_after number stands A.ends ends OperandBy least t k ts f)
  after-fails least t k ts (Prefix p) n = tt
  after-fails least t k ts (Postfix p) n = not-tried (is_tried least (bound_of number stands t) (Postfix p)) _ (elim (n tt) [ inl a ↦ inl (no-then (ends k ts) _ a) | inr a ↦ inr a ])
  after-fails least t k ts (Infix l r c) n = tt

  between-fails : (least : ℕ) (t : OperatorTree) (k : ℕ) (ts : List Tok) (f : Fixity) → (HasBefore f → DoesNotEnd (ends k ts) ⊎ (is_tried least (bound_of number stands t) f ≡ false))
      → DoesNotEnd (climb_between number stands A.ends ends OperandBy least t k ts f)
  between-fails least t k ts (Prefix p) n = tt
  between-fails least t k ts (Postfix p) n = tt
  between-fails least t k ts (Infix l r c) n = not-tried (is_tried least (bound_of number stands t) (Infix l r c)) _ (elim (n tt) [ inl a ↦ inl (no-then (ends k ts) _ a) | inr a ↦ inr a ])

  before-fails : (k : ℕ) (ts : List Tok) (f : Fixity) → (IsPrefix f → DoesNotEnd (ends k ts)) → DoesNotEnd (climb_before number stands A.ends ends OperandBy k ts f)
  before-fails k ts (Prefix p) n = no-then (ends k ts) _ (n tt)
  before-fails k ts (Postfix p) n = tt
  before-fails k ts (Infix l r c) n = tt

  -- the step of an atom
  step-atom : (least : ℕ) (w rest : List Tok) → A.word w → A.follow rest → EndsOrRefused (StepBy least None (w ++ rest)) (Atom, rest)
  step-atom least w rest a f =
      let ts = w ++ rest in
      first-past (λ i. climb_before number stands A.ends ends OperandBy i ts (stands i)) number _ number 0 (At (Atom, rest)) (omega arith)
      (λ k l. before-fails k ts (stands k) (λ p. u.before_atom k l p w rest a f))
      (or-then (A.ends ts) rest (λ r. At (Atom, r)) (At (Atom, rest)) (atom_each.each w rest a f) (inl refl))

  -- of a prefix operator with its operand
  before-is : (i : ℕ) (ts mid : List Tok) (t : OperatorTree) (rest : List Tok) (f : Fixity) → IsPrefix f → EndsOrRefused (ends i ts) mid → EndsOrRefused (OperandBy (power_after f) mid) (t, rest)
      → EndsOrRefused (climb_before number stands A.ends ends OperandBy i ts f) (Prefixed i t, rest)
  before-is i ts mid t rest (Prefix p) a e o =
      or-then (ends i ts) mid _ (At (Prefixed i t, rest)) e (or-then (OperandBy p mid) (t, rest) (λ q. At (Prefixed i q.0, q.1)) (At (Prefixed i t, rest)) o (inl refl))
  before-is i ts mid t rest (Postfix p) a e o = absurd a
  before-is i ts mid t rest (Infix l r c) a e o = absurd a

  step-prefix : (least i : ℕ) (w mid : List Tok) (t : OperatorTree) (rest : List Tok) → i < number → IsPrefix (stands i) → (row.operator i).word w → (row.operator i).follow mid
      → EndsOrRefused (OperandBy (power_after (stands i)) mid) (t, rest) → EndsOrRefused (StepBy least None (w ++ mid)) (Prefixed i t, rest)
  step-prefix least i w mid t rest l p a f o =
      let ts = w ++ mid in
      first-is (λ k. climb_before number stands A.ends ends OperandBy k ts (stands k)) number _ number 0 i (Prefixed i t, rest) (omega arith) (omega arith) l
      (λ k m n. before-fails k ts (stands k) (λ q. u.apart k i m l n (side_of_prefix (stands k) (stands i) q p) w mid a f))
      (before-is i ts mid t rest (stands i) p ((each i l).each w mid a f) o)

  -- of a postfix operator
  after-is : (least : ℕ) (t : OperatorTree) (i : ℕ) (ts rest : List Tok) (f : Fixity) → IsPostfix f → is_tried least (bound_of number stands t) f ≡ true → EndsOrRefused (ends i ts) rest
      → EndsOrRefused (climb_after number stands A.ends ends OperandBy least t i ts f) (Postfixed t i, rest)
  after-is least t i ts rest (Prefix p) a q e = absurd a
  after-is least t i ts rest (Postfix p) a q e =
      is-tried _ _ (Postfixed t i, rest) q (or-then (ends i ts) rest (λ r. At (Postfixed t i, r)) (At (Postfixed t i, rest)) e (inl refl))
  after-is least t i ts rest (Infix l r c) a q e = absurd a

  -- an operator fails on the word of another
  others-fail : (i : ℕ) (w rest : List Tok) → i < number → HasBefore (stands i) → (row.operator i).word w → (row.operator i).follow rest → OthersFail i (w ++ rest)
  others-fail i w rest l b a f = λ k m n c. u.apart k i m l n (side_after (stands k) (stands i) c b) w rest a f

  step-postfix : (least : ℕ) (t : OperatorTree) (i : ℕ) (w rest : List Tok) → i < number → IsPostfix (stands i) → is_tried least (bound_of number stands t) (stands i) ≡ true
      → (row.operator i).word w → (row.operator i).follow rest
      → EndsOrRefused (StepBy least (Some t) (w ++ rest)) (Postfixed t i, rest)
  step-postfix least t i w rest l p q a f =
      let ts = w ++ rest in
      let fail = others-fail i w rest l (before_postfix (stands i) p) a f in
      first-is (λ k. climb_after number stands A.ends ends OperandBy least t k ts (stands k)) number _ number 0 i (Postfixed t i, rest) (omega arith) (omega arith) l
      (λ k m n. after-fails least t k ts (stands k) (λ c. inl (fail k m n c)))
      (after-is least t i ts rest (stands i) p q ((each i l).each w rest a f))

  -- of an infix operator with its right operand
  between-is : (least : ℕ) (t : OperatorTree) (i : ℕ) (ts mid : List Tok) (r : OperatorTree) (rest : List Tok) (f : Fixity) → IsInfix f → is_tried least (bound_of number stands t) f ≡ true
      → EndsOrRefused (ends i ts) mid
      → EndsOrRefused (OperandBy (power_after f) mid) (r, rest) → EndsOrRefused (climb_between number stands A.ends ends OperandBy least t i ts f) (Infixed t i r, rest)
  between-is least t i ts mid r rest (Prefix p) a q e o = absurd a
  between-is least t i ts mid r rest (Postfix p) a q e o = absurd a
  between-is least t i ts mid r rest (Infix x y c) a q e o =
      is-tried _ _ (Infixed t i r, rest) q
      (or-then (ends i ts) mid _ (At (Infixed t i r, rest)) e (or-then (OperandBy y mid) (r, rest) (λ p. At (Infixed t i p.0, p.1)) (At (Infixed t i r, rest)) o (inl refl)))

  step-infix : (least : ℕ) (t : OperatorTree) (i : ℕ) (w mid : List Tok) (r : OperatorTree) (rest : List Tok) → i < number → IsInfix (stands i)
      → is_tried least (bound_of number stands t) (stands i) ≡ true → (row.operator i).word w → (row.operator i).follow mid
      → EndsOrRefused (OperandBy (power_after (stands i)) mid) (r, rest) → EndsOrRefused (StepBy least (Some t) (w ++ mid)) (Infixed t i r, rest)
  step-infix least t i w mid r rest l p q a f o =
      let ts = w ++ mid in
      let fail = others-fail i w mid l (before_infix (stands i) p) a f in
      first-past (λ k. climb_after number stands A.ends ends OperandBy least t k ts (stands k)) number _ number 0 (At (Infixed t i r, rest)) (omega arith)
      (λ k m. after_passes k m fail)
      (first-is (λ k. climb_between number stands A.ends ends OperandBy least t k ts (stands k)) number _ number 0 i (Infixed t i r, rest) (omega arith) (omega arith) l
      (λ k m n. between-fails least t k ts (stands k) (λ c. inl (fail k m n c)))
      (between-is least t i ts mid r rest (stands i) p q ((each i l).each w mid a f) o))
    where
      after_passes : (k : ℕ) → k < number → OthersFail i (w ++ mid) → DoesNotEnd (climb_after number stands A.ends ends OperandBy least t k (w ++ mid) (stands k))
      after_passes k m fail = elim (same_or_not k i) [
        | inl e ↦ no_after (stands k) (subst (λ j. IsInfix (stands j)) (sym e) p)
        | inr n ↦ after-fails least t k (w ++ mid) (stands k) (λ c. inl (fail k m n c))
      ]
        where
          no_after : (f : Fixity) → IsInfix f → DoesNotEnd (climb_after number stands A.ends ends OperandBy least t k (w ++ mid) f)
          no_after (Prefix p) a = tt
          no_after (Postfix p) a = absurd a
          no_after (Infix x y c) a = tt

  -- where no operator is taken after a tree, nothing is
  step-none : (least : ℕ) (t : OperatorTree) (ts : List Tok) → ((k : ℕ) → k < number → HasBefore (stands k) → DoesNotEnd (ends k ts) ⊎ (is_tried least (bound_of number stands t) (stands k) ≡ false))
      → DoesNotEnd (StepBy least (Some t) ts)
  step-none least t ts n =
      none-first (λ k. climb_after number stands A.ends ends OperandBy least t k ts (stands k)) number _ number 0 (omega arith) (λ k l. after-fails least t k ts (stands k) (n k l))
      (none-first (λ k. climb_between number stands A.ends ends OperandBy least t k ts (stands k)) number Nowhere number 0 (omega arith) (λ k l. between-fails least t k ts (stands k) (n k l)) tt)

  -- a climb goes on after a step, and rests where there is none
  climb-on : (least : ℕ) (a : Option OperatorTree) (ts : List Tok) (q : OperatorTree × List Tok) → EndsOrRefused (StepBy least a ts) q
      → IsOrRefused (Climbed least a ts) (Climbed least (Some q.0) q.1)
  climb-on least a ts q e = subst (λ x. IsOrRefused x (Climbed least (Some q.0) q.1)) (sym (climbed-on number stands A.ends ends atom_further ends_further least a ts)) (by_step e)
    where
      by_step : EndsOrRefused (StepBy least a ts) q → IsOrRefused (go_on number stands A.ends ends (λ p. Climbed least (Some p.0) p.1) a ts (StepBy least a ts)) (Climbed least (Some q.0) q.1)
      by_step (inl d) = inl (ap (λ x. go_on number stands A.ends ends (λ p. Climbed least (Some p.0) p.1) a ts x) d)
      by_step (inr d) = inr (ap (λ x. go_on number stands A.ends ends (λ p. Climbed least (Some p.0) p.1) a ts x) d ∙ refused a)
        where
          refused : (a : Option OperatorTree) → go_on number stands A.ends ends (λ p. Climbed least (Some p.0) p.1) a ts Refused ≡ Refused
          refused None = refl
          refused (Some t) = refl

  climb-rests : (least : ℕ) (t : OperatorTree) (ts : List Tok) → DoesNotEnd (StepBy least (Some t) ts) → EndsOrRefused (Climbed least (Some t) ts) (t, ts)
  climb-rests least t ts n = subst (λ x. EndsOrRefused x (t, ts)) (sym (climbed-on number stands A.ends ends atom_further ends_further least (Some t) ts)) (by_step (StepBy least (Some t) ts) n)
    where
      by_step : (x : Ending (OperatorTree × List Tok)) → DoesNotEnd x → EndsOrRefused (go_on number stands A.ends ends (λ p. Climbed least (Some p.0) p.1) (Some t) ts x) (t, ts)
      by_step (At q) m = absurd m
      by_step Nowhere m = inl refl
      by_step Refused m = inr refl

  -- what may follow the last word of a tree
  abbrev MayEnd : OperatorTree → List Tok → Type 0
  MayEnd Atom rest = A.follow rest
  MayEnd (Prefixed i t) rest = MayEnd t rest
  MayEnd (Postfixed t i) rest = (row.operator i).follow rest
  MayEnd (Infixed l i r) rest = MayEnd r rest

  -- an operator that has an operand before it may follow a tree
  closes : (least : ℕ) (t : OperatorTree) → Binds number stands least t → (j : ℕ) → j < number → HasBefore (stands j) → (w rest : List Tok) → (row.operator j).word w → (row.operator j).follow rest
      → MayEnd t (w ++ rest)
  closes least Atom b j l h w rest a f = u.after_atom j l h w rest a f
  closes least (Prefixed i t) b j l h w rest a f = closes (power_after (stands i)) t b.2 j l h w rest a f
  closes least (Postfixed t i) b j l h w rest a f = u.after_postfix i j b.0 l b.1 h w rest a f
  closes least (Infixed t i r) b j l h w rest a f = closes (power_after (stands i)) r b.5 j l h w rest a f

  -- what may stand before an expression may stand before how a tree is written
  opens : (least : ℕ) (t : OperatorTree) (w rest : List Tok) → Binds number stands least t → TreeWord A row.operator t w → MayEnd t rest → {W : Type 0} (L : Language Tok W)
      → MayOpen number stands A row L → L.follow (w ++ rest)
  opens least Atom w rest b a m L o = o.0 w rest a m
  opens least (Prefixed i t) w rest b a m L o =
      let f = opens (power_after (stands i)) t a.second rest b.2 a.is_second m (row.operator i) (u.opens i b.0 (after_prefix (stands i) b.1)) in
      rw (a.all, append_assoc a.first a.second rest) (o.1 i b.0 b.1 a.first (a.second ++ rest) a.is_first f)
  opens least (Postfixed t i) w rest b a m L o =
      let c = closes least t b.4 i b.0 (before_postfix (stands i) b.1) a.second rest a.is_second m in
      rw (a.all, append_assoc a.first a.second rest) (opens least t a.first (a.second ++ rest) b.4 a.is_first c L o)
  opens least (Infixed t i r) w rest b a m L o =
      let s = a.is_second in
      let f = opens (power_after (stands i)) r s.second rest b.5 s.is_second m (row.operator i) (u.opens i b.0 (after_infix (stands i) b.1)) in
      let c = closes least t b.4 i b.0 (before_infix (stands i) b.1) s.first (s.second ++ rest) s.is_first f in
      rw (a.all, s.all, append_assoc a.first (s.first ++ s.second) rest, append_assoc s.first s.second rest) (opens least t a.first (s.first ++ (s.second ++ rest)) b.4 a.is_first c L o)

  -- the operands at the right end of a tree take no operator here
  abbrev StopsHere : OperatorTree → List Tok → Type 0
  StopsHere t ts = (k : ℕ) → k < number → HasBefore (stands k) → DoesNotEnd (ends k ts) ⊎ YieldsTo number stands t (stands k)

  -- before the word of an operator that they leave, these do
  stops-before : (t : OperatorTree) (i : ℕ) (w rest : List Tok) → i < number → HasBefore (stands i) → YieldsTo number stands t (stands i) → (row.operator i).word w → (row.operator i).follow rest
      → StopsHere t (w ++ rest)
  stops-before t i w rest l h v a f = λ k m c. elim (same_or_not k i) [
    | inl e ↦ inr (subst (λ j. YieldsTo number stands t (stands j)) (sym e) v)
    | inr n ↦ inl (others-fail i w rest l h a f k m n c)
  ]

  -- an operand after an operator is read, and goes no further
  operand-rests : (power : ℕ) (t : OperatorTree) (ts rest : List Tok) → IsOrRefused (Climbed power None ts) (Climbed power (Some t) rest)
      → ((k : ℕ) → k < number → HasBefore (stands k) → DoesNotEnd (ends k rest) ⊎ (is_tried power (bound_of number stands t) (stands k) ≡ false)) → EndsOrRefused (OperandBy power ts) (t, rest)
  operand-rests power t ts rest h n = or-trans (Climbed power None ts) (Climbed power (Some t) rest) (At (t, rest)) h (climb-rests power t rest (step-none power t rest n))

  -- how a tree is written is climbed as it stands
  climbs : (least : ℕ) (t : OperatorTree) (w rest : List Tok) → Binds number stands least t → TreeWord A row.operator t w → MayEnd t rest → StopsHere t rest
      → IsOrRefused (Climbed least None (w ++ rest)) (Climbed least (Some t) rest)
  climbs least Atom w rest b a m s = climb-on least None (w ++ rest) (Atom, rest) (step-atom least w rest a m)
  climbs least (Prefixed i t) w rest b a m s =
      let mid = a.second ++ rest in
      let f = opens (power_after (stands i)) t a.second rest b.2 a.is_second m (row.operator i) (u.opens i b.0 (after_prefix (stands i) b.1)) in
      let inner = climbs (power_after (stands i)) t a.second rest b.2 a.is_second m (λ k l c. elim (s k l c) [ inl n ↦ inl n | inr v ↦ inr v.1 ]) in
      let o = operand-rests (power_after (stands i)) t mid rest inner (λ k l c. elim (s k l c) [ inl n ↦ inl n | inr v ↦ inr v.0 ]) in
      rw (a.all, append_assoc a.first a.second rest)
      (climb-on least None (a.first ++ mid) (Prefixed i t, rest) (step-prefix least i a.first mid t rest b.0 b.1 a.is_first f o))
  climbs least (Postfixed t i) w rest b a m s =
      let mid = a.second ++ rest in
      let h = before_postfix (stands i) b.1 in
      let c = closes least t b.4 i b.0 h a.second rest a.is_second m in
      let first = climbs least t a.first mid b.4 a.is_first c (stops-before t i a.second rest b.0 h b.3 a.is_second m) in
      let next = climb-on least (Some t) mid (Postfixed t i, rest) (step-postfix least t i a.second rest b.0 b.1 b.2 a.is_second m) in
      rw (a.all, append_assoc a.first a.second rest) (or-trans (Climbed least None (a.first ++ mid)) (Climbed least (Some t) mid) (Climbed least (Some (Postfixed t i)) rest) first next)
  climbs least (Infixed t i r) w rest b a m s =
      let e = a.is_second in
      let last = e.second ++ rest in
      let mid = e.first ++ last in
      let h = before_infix (stands i) b.1 in
      let f = opens (power_after (stands i)) r e.second rest b.5 e.is_second m (row.operator i) (u.opens i b.0 (after_infix (stands i) b.1)) in
      let c = closes least t b.4 i b.0 h e.first last e.is_first f in
      let first = climbs least t a.first mid b.4 a.is_first c (stops-before t i e.first last b.0 h b.3 e.is_first f) in
      let inner = climbs (power_after (stands i)) r e.second rest b.5 e.is_second m (λ k l c. elim (s k l c) [ inl n ↦ inl n | inr v ↦ inr v.1 ]) in
      let o = operand-rests (power_after (stands i)) r last rest inner (λ k l c. elim (s k l c) [ inl n ↦ inl n | inr v ↦ inr v.0 ]) in
      let next = climb-on least (Some t) mid (Infixed t i r, rest) (step-infix least t i e.first last r rest b.0 b.1 b.2 e.is_first f o) in
      rw (a.all, e.all, append_assoc a.first (e.first ++ e.second) rest, append_assoc e.first e.second rest)
      (or-trans (Climbed least None (a.first ++ mid)) (Climbed least (Some t) mid) (Climbed least (Some (Infixed t i r)) rest) first next)

  may_end : (least : ℕ) (t : OperatorTree) (rest : List Tok) → Binds number stands least t → FollowsAll number stands A row rest → MayEnd t rest
  may_end least Atom rest b f = f.atom
  may_end least (Prefixed i t) rest b f = may_end (power_after (stands i)) t rest b.2 f
  may_end least (Postfixed t i) rest b f = f.postfix i b.0 b.1
  may_end least (Infixed t i r) rest b f = may_end (power_after (stands i)) r rest b.5 f

  -- each word is taken whole, where what follows may
  pub tree-taken : TakesEach (precedence_ends number stands A row) (λ w. OfTree number stands (λ t. TreeWord A row.operator t w)) (FollowsAll number stands A row)
  tree-taken = record {
    each = λ w rest i f.
        let none = λ (k : ℕ) (l : k < number) (c : HasBefore (stands k)). f.none k l c in
        let h = climbs 0 i.tree w rest i.binds i.is (may_end 0 i.tree rest i.binds f) (λ k l c. inl (none k l c)) in
        let e = operand-rests 0 i.tree (w ++ rest) rest h (λ k l c. inl (none k l c)) in
        or-then (Climbed 0 None (w ++ rest)) (i.tree, rest) (λ (p : OperatorTree × List Tok). At p.1) (At rest) e (inl refl);
  }
