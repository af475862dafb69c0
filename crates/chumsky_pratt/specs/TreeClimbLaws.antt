-- What is known of climbs: each step takes a token, and so it doesn't matter by how many a climb goes.
-- Main laws: step-at, step-further, climbed-on, operand-shorter, climbed_step-shorter. Read first: TreeClimb.antt.
use Rattle.std.proofs.lemmas.Bool.Decides.{nat_tests}
use Rattle.std.proofs.Common.{◌≡◌, ℕ, zero, suc, ◌+◌, ◌≤◌, nat_le, ◌<◌, Bool, true, false, Option, Some, None, List, length, refl, sym, ◌∙◌, ap, subst, arith, ◌⊎◌, inl, inr}
use Rattle.chumsky_parser.specs.Ending.{Ending, At, Nowhere, Refused, Ender, and_then, or_else}
use Rattle.chumsky_parser.specs.Language.{EndsFurther}
use Rattle.chumsky_pratt.specs.declared.fixity.Fixity.{Fixity}
use Rattle.chumsky_pratt.specs.declared.fixity.Fixity.TheVariants.{Prefix, Postfix, Infix}
use Rattle.chumsky_pratt.specs.OperatorTrees.{OperatorTree, Atom, Prefixed, Postfixed, Infixed, is_tried, power_after, IsPrefix, IsPostfix, IsInfix, bound_of}
use Rattle.chumsky_pratt.specs.TreeClimb.{first_attempt, where_tried, climb_before, climb_after, climb_between, climb_step, go_on, climb, climbed, climb_operand}

-- where one thing and then another ended
pub record Both {X Y : Type 0} (x : Ending X) (k : X → Ending Y) (z : Y) : Type 0 where
  pub mid : X
  pub first : x ≡ At mid
  pub second : k mid ≡ At z

pub and_then-at : {X Y : Type 0} (x : Ending X) (k : X → Ending Y) (z : Y) → and_then k x ≡ At z → Both x k z
and_then-at (At m) k z e = record { mid = m; first = refl; second = e }
and_then-at Nowhere k z e = absurd (cc e)
and_then-at Refused k z e = absurd (cc e)

and_then-same : {X Y : Type 0} (x : Ending X) (k l : X → Ending Y) → ((m : X) → x ≡ At m → k m ≡ l m) → and_then k x ≡ and_then l x
and_then-same (At m) k l h = h m refl
and_then-same Nowhere k l h = refl
and_then-same Refused k l h = refl

tried-at : {X : Type 0} (c : Bool) (x : Ending X) (z : X) → where_tried c x ≡ At z → (c ≡ true) × (x ≡ At z)
tried-at true x z e = (refl, e)
tried-at false x z e = absurd (cc e)

-- where the first of some attempts ended, one of them did, or the last
pub record ByOne {X : Type 0} (attempt : ℕ → Ending X) (to : ℕ) (z : X) : Type 0 where
  pub index : ℕ
  pub under : index < to
  pub by : attempt index ≡ At z

module _ {X : Type 0} (attempt : ℕ → Ending X) (to : ℕ) (last : Ending X) where
  one_at : (i : ℕ) (z : X) (x rest : Ending X) → i < to → attempt i ≡ x → or_else x rest ≡ At z → (rest ≡ At z → ByOne attempt to z ⊎ (last ≡ At z)) → ByOne attempt to z ⊎ (last ≡ At z)
  one_at i z (At y) rest l d f h = inl (record { index = i; under = l; by = d ∙ f })
  one_at i z Nowhere rest l d f h = h f
  one_at i z Refused rest l d f h = absurd (cc f)

  pub first-at : (count i : ℕ) (z : X) → i + count ≡ to → first_attempt attempt count i last ≡ At z → ByOne attempt to z ⊎ (last ≡ At z)
  first-at zero i z s e = inr e
  first-at (suc count) i z s e = one_at i z (attempt i) (first_attempt attempt count (suc i) last) (omega (arith, s)) refl e (λ f. first-at count (suc i) z (omega (arith, s)) f)

  -- where the first of some attempts failed, each did, and the last
  abbrev EachFails : ℕ → Type 0
  EachFails i = ((j : ℕ) → i ≤ j → j < to → attempt j ≡ Nowhere) × (last ≡ Nowhere)

  from_here : (i : ℕ) → attempt i ≡ Nowhere → ((j : ℕ) → suc i ≤ j → j < to → attempt j ≡ Nowhere) → (j : ℕ) → i ≤ j → j < to → attempt j ≡ Nowhere
  from_here i d h j l k = by_order (nat_le (suc i) j) refl
    where
      by_order : (c : Bool) → nat_le (suc i) j ≡ c → attempt j ≡ Nowhere
      by_order true e = let z : suc i ≤ j = grind (arith, nat_tests) in h j z k
      by_order false e = let z : i ≡ j = (let m : j < suc i = grind (arith, nat_tests) in omega (arith, l, m)) in subst (λ n. attempt n ≡ Nowhere) z d

  each_fails : (i : ℕ) (x rest : Ending X) → attempt i ≡ x → or_else x rest ≡ Nowhere → (rest ≡ Nowhere → EachFails (suc i)) → EachFails i
  each_fails i (At y) rest d f h = absurd (cc f)
  each_fails i Nowhere rest d f h = (from_here i d (h f).0, (h f).1)
  each_fails i Refused rest d f h = absurd (cc f)

  pub first-fails : (count i : ℕ) → i + count ≡ to → first_attempt attempt count i last ≡ Nowhere → EachFails i
  first-fails zero i s e = (λ j l k. absurd (omega (arith, l, k, s)), e)
  first-fails (suc count) i s e = each_fails i (attempt i) (first_attempt attempt count (suc i) last) refl e (λ f. first-fails count (suc i) (omega (arith, s)) f)

  -- where it was refused, one of them was, or the last
  refused_at : (i : ℕ) (x rest : Ending X) → i < to → attempt i ≡ x → or_else x rest ≡ Refused
      → (rest ≡ Refused → ((j : ℕ) × (j < to) × (attempt j ≡ Refused)) ⊎ (last ≡ Refused)) → ((j : ℕ) × (j < to) × (attempt j ≡ Refused)) ⊎ (last ≡ Refused)
  refused_at i (At y) rest l d f h = absurd (cc f)
  refused_at i Nowhere rest l d f h = h f
  refused_at i Refused rest l d f h = inl (i, l, d)

  pub first-refused : (count i : ℕ) → i + count ≡ to → first_attempt attempt count i last ≡ Refused → ((j : ℕ) × (j < to) × (attempt j ≡ Refused)) ⊎ (last ≡ Refused)
  first-refused zero i s e = inr e
  first-refused (suc count) i s e = refused_at i (attempt i) (first_attempt attempt count (suc i) last) (omega (arith, s)) refl e (λ f. first-refused count (suc i) (omega (arith, s)) f)

first-same : {X : Type 0} (a b : ℕ → Ending X) (count i : ℕ) (x y : Ending X) → ((j : ℕ) → a j ≡ b j) → x ≡ y → first_attempt a count i x ≡ first_attempt b count i y
first-same a b zero i x y h e = e
first-same a b (suc count) i x y h e = rw (h i, first-same a b count (suc i) x y h e) refl

module _ {Tok : Type 0} (number : ℕ) (stands : ℕ → Fixity) (atom : Ender Tok) (ends : ℕ → Ender Tok) where
  module _ (climb_operand : ℕ → List Tok → Ending (OperatorTree × List Tok)) where
    -- an operator was read, and its operand after it
    pub record IsBefore (i : ℕ) (ts : List Tok) (f : Fixity) (q : OperatorTree × List Tok) : Type 0 where
      pub is : IsPrefix f
      pub mid : List Tok
      pub reads : ends i ts ≡ At mid
      pub tree : OperatorTree
      pub then : climb_operand (power_after f) mid ≡ At (tree, q.1)
      pub made : q.0 ≡ Prefixed i tree

    -- an operator was read after a tree
    pub record IsAfter (least : ℕ) (t : OperatorTree) (i : ℕ) (ts : List Tok) (f : Fixity) (q : OperatorTree × List Tok) : Type 0 where
      pub is : IsPostfix f
      pub was_tried : is_tried least (bound_of number stands t) f ≡ true
      pub reads : ends i ts ≡ At q.1
      pub made : q.0 ≡ Postfixed t i

    -- an operator was read after a tree, and its operand after it
    pub record IsBetween (least : ℕ) (t : OperatorTree) (i : ℕ) (ts : List Tok) (f : Fixity) (q : OperatorTree × List Tok) : Type 0 where
      pub is : IsInfix f
      pub was_tried : is_tried least (bound_of number stands t) f ≡ true
      pub mid : List Tok
      pub reads : ends i ts ≡ At mid
      pub tree : OperatorTree
      pub then : climb_operand (power_after f) mid ≡ At (tree, q.1)
      pub made : q.0 ≡ Infixed t i tree

    before-at : (i : ℕ) (ts : List Tok) (f : Fixity) (q : OperatorTree × List Tok) → climb_before number stands atom ends climb_operand i ts f ≡ At q → IsBefore i ts f q
    before-at i ts (Prefix power) q e =
        let a = and_then-at (ends i ts) _ q e in
        let b = and_then-at (climb_operand power a.mid) _ q a.second in
        let s : (Prefixed i b.mid.0, b.mid.1) ≡ q = cc b.second in
        record {
          is = tt;
          mid = a.mid;
          reads = a.first;
          tree = b.mid.0;
          then = subst (λ (r : List Tok). climb_operand power a.mid ≡ At (b.mid.0, r)) (ap (λ (p : OperatorTree × List Tok). p.1) s) b.first;
          made = ap (λ (p : OperatorTree × List Tok). p.0) (sym s);
        }
    before-at i ts (Postfix power) q e = absurd (cc e)
    before-at i ts (Infix left right chains) q e = absurd (cc e)

    after-at : (least : ℕ) (t : OperatorTree) (i : ℕ) (ts : List Tok) (f : Fixity) (q : OperatorTree × List Tok) → climb_after number stands atom ends climb_operand least t i ts f ≡ At q
        → IsAfter least t i ts f q
    after-at least t i ts (Prefix power) q e = absurd (cc e)
    after-at least t i ts (Postfix power) q e =
        let c = tried-at (is_tried least (bound_of number stands t) (Postfix power)) (and_then (λ rest. At (Postfixed t i, rest)) (ends i ts)) q e in
        let a = and_then-at (ends i ts) _ q c.1 in
        let s : (Postfixed t i, a.mid) ≡ q = cc a.second in
        record {
          is = tt;
          was_tried = c.0;
          reads = subst (λ (r : List Tok). ends i ts ≡ At r) (ap (λ (p : OperatorTree × List Tok). p.1) s) a.first;
          made = ap (λ (p : OperatorTree × List Tok). p.0) (sym s);
        }
    after-at least t i ts (Infix left right chains) q e = absurd (cc e)

    between-at : (least : ℕ) (t : OperatorTree) (i : ℕ) (ts : List Tok) (f : Fixity) (q : OperatorTree × List Tok) → climb_between number stands atom ends climb_operand least t i ts f ≡ At q
        → IsBetween least t i ts f q
    between-at least t i ts (Prefix power) q e = absurd (cc e)
    between-at least t i ts (Postfix power) q e = absurd (cc e)
    between-at least t i ts (Infix left right chains) q e =
        let c = tried-at (is_tried least (bound_of number stands t) (Infix left right chains))
        (and_then (λ rest. and_then (λ p. At (Infixed t i p.0, p.1)) (climb_operand right rest)) (ends i ts)) q e in
        let a = and_then-at (ends i ts) _ q c.1 in
        let b = and_then-at (climb_operand right a.mid) _ q a.second in
        let s : (Infixed t i b.mid.0, b.mid.1) ≡ q = cc b.second in
        record {
          is = tt;
          was_tried = c.0;
          mid = a.mid;
          reads = a.first;
          tree = b.mid.0;
          then = subst (λ (r : List Tok). climb_operand right a.mid ≡ At (b.mid.0, r)) (ap (λ (p : OperatorTree × List Tok). p.1) s) b.first;
          made = ap (λ (p : OperatorTree × List Tok). p.0) (sym s);
        }

    -- what a step did that ended: read an operator and its operand, or an atom; or an operator after a tree, and its operand or none
    pub record IsAtom (ts : List Tok) (q : OperatorTree × List Tok) : Type 0 where
      pub reads : atom ts ≡ At q.1
      pub made : q.0 ≡ Atom

    abbrev pub Stepped : ℕ → Option OperatorTree → List Tok → OperatorTree × List Tok → Type 0
    Stepped least None ts q = ((i : ℕ) × (i < number) × IsBefore i ts (stands i) q) ⊎ IsAtom ts q
    Stepped least (Some t) ts q = ((i : ℕ) × (i < number) × IsAfter least t i ts (stands i) q) ⊎ ((i : ℕ) × (i < number) × IsBetween least t i ts (stands i) q)

    pub step-at : (least : ℕ) (a : Option OperatorTree) (ts : List Tok) (q : OperatorTree × List Tok) → climb_step number stands atom ends climb_operand least a ts ≡ At q → Stepped least a ts q
    step-at least None ts q e = elim
        (first-at (λ i. climb_before number stands atom ends climb_operand i ts (stands i)) number (and_then (λ rest. At (Atom, rest)) (atom ts)) number 0 q (omega arith) e) [
          | inl o ↦ inl (o.index, o.under, before-at o.index ts (stands o.index) q o.by)
          | inr o ↦
              let b = and_then-at (atom ts) _ q o in
              let s : (Atom, b.mid) ≡ q = cc b.second in
              inr (record {
                reads = subst (λ (r : List Tok). atom ts ≡ At r) (ap (λ (p : OperatorTree × List Tok). p.1) s) b.first;
                made = ap (λ (p : OperatorTree × List Tok). p.0) (sym s);
              })
        ]
    step-at least (Some t) ts q e =
        let betweens = first_attempt (λ i. climb_between number stands atom ends climb_operand least t i ts (stands i)) number 0 Nowhere in
        elim (first-at (λ i. climb_after number stands atom ends climb_operand least t i ts (stands i)) number betweens number 0 q (omega arith) e) [
          | inl o ↦ inl (o.index, o.under, after-at least t o.index ts (stands o.index) q o.by)
          | inr o ↦ elim (first-at (λ i. climb_between number stands atom ends climb_operand least t i ts (stands i)) number Nowhere number 0 q (omega arith) o) [
            | inl p ↦ inr (p.index, p.under, between-at least t p.index ts (stands p.index) q p.by)
            | inr p ↦ absurd (cc p)
          ]
        ]

  module _ (atom_further : EndsFurther atom) (ends_further : (i : ℕ) → EndsFurther (ends i)) where
    -- a climb ends with fewer tokens; with no more
    abbrev Shorter : (List Tok → Ending (OperatorTree × List Tok)) → Type 0
    Shorter f = (ts : List Tok) (p : OperatorTree × List Tok) → f ts ≡ At p → length p.1 < length ts

    abbrev NotLonger : (List Tok → Ending (OperatorTree × List Tok)) → Type 0
    NotLonger f = (ts : List Tok) (p : OperatorTree × List Tok) → f ts ≡ At p → length p.1 ≤ length ts

    module _ (climb_operand : ℕ → List Tok → Ending (OperatorTree × List Tok)) (h : (power : ℕ) → Shorter (climb_operand power)) where
      -- each step takes a token
      pub step-further : (least : ℕ) (a : Option OperatorTree) → Shorter (climb_step number stands atom ends climb_operand least a)
      step-further least None ts p e = elim (step-at climb_operand least None ts p e) [
        | inl o ↦
            let k : length o.2.mid < length ts = ends_further o.0 ts o.2.mid o.2.reads in
            let l : length p.1 < length o.2.mid = h _ o.2.mid (o.2.tree, p.1) o.2.then in
            omega (arith, k, l)
        | inr o ↦ atom_further ts p.1 o.reads
      ]
      step-further least (Some t) ts p e = elim (step-at climb_operand least (Some t) ts p e) [
        | inl o ↦ ends_further o.0 ts p.1 o.2.reads
        | inr o ↦
            let k : length o.2.mid < length ts = ends_further o.0 ts o.2.mid o.2.reads in
            let l : length p.1 < length o.2.mid = h _ o.2.mid (o.2.tree, p.1) o.2.then in
            omega (arith, k, l)
      ]

    module _ (f g : ℕ → List Tok → Ending (OperatorTree × List Tok)) (ts : List Tok) (h : (power : ℕ) (us : List Tok) → length us < length ts → f power us ≡ g power us) where
      before-same : (i : ℕ) (x : Fixity) → climb_before number stands atom ends f i ts x ≡ climb_before number stands atom ends g i ts x
      before-same i (Prefix power) = and_then-same (ends i ts) _ _ (λ m e. ap (λ x. and_then (λ (p : OperatorTree × List Tok). At (Prefixed i p.0, p.1)) x) (h power m (ends_further i ts m e)))
      before-same i (Postfix power) = refl
      before-same i (Infix left right chains) = refl

      after-same : (least : ℕ) (t : OperatorTree) (i : ℕ) (x : Fixity) → climb_after number stands atom ends f least t i ts x ≡ climb_after number stands atom ends g least t i ts x
      after-same least t i (Prefix power) = refl
      after-same least t i (Postfix power) = refl
      after-same least t i (Infix left right chains) = refl

      between-same : (least : ℕ) (t : OperatorTree) (i : ℕ) (x : Fixity) → climb_between number stands atom ends f least t i ts x ≡ climb_between number stands atom ends g least t i ts x
      between-same least t i (Prefix power) = refl
      between-same least t i (Postfix power) = refl
      between-same least t i (Infix left right chains) = ap (λ x. where_tried (is_tried least (bound_of number stands t) (Infix left right chains)) x)
          (and_then-same (ends i ts) _ _ (λ m e. ap (λ x. and_then (λ (p : OperatorTree × List Tok). At (Infixed t i p.0, p.1)) x) (h right m (ends_further i ts m e))))

      -- a step is the same by operands that are, where fewer tokens are left
      step-same : (least : ℕ) (a : Option OperatorTree) → climb_step number stands atom ends f least a ts ≡ climb_step number stands atom ends g least a ts
      step-same least None = first-same (λ i. climb_before number stands atom ends f i ts (stands i)) (λ i. climb_before number stands atom ends g i ts (stands i)) number 0 _ _
          (λ j. before-same j (stands j)) refl
      step-same least (Some t) = first-same (λ i. climb_after number stands atom ends f least t i ts (stands i)) (λ i. climb_after number stands atom ends g least t i ts (stands i)) number 0 _ _
          (λ j. after-same least t j (stands j))
          (first-same (λ i. climb_between number stands atom ends f least t i ts (stands i)) (λ i. climb_between number stands atom ends g least t i ts (stands i)) number 0 Nowhere Nowhere
          (λ j. between-same least t j (stands j)) refl)

    -- a climb that ended went on after a step, or had a tree so far
    abbrev WentOn : (OperatorTree × List Tok → Ending (OperatorTree × List Tok)) → Option OperatorTree → List Tok → Ending (OperatorTree × List Tok) → OperatorTree × List Tok → Type 0
    WentOn next a ts x p = ((q : OperatorTree × List Tok) × (x ≡ At q) × (next q ≡ At p)) ⊎ ((x ≡ Nowhere) × (a ≡ Some p.0) × (ts ≡ p.1))

    pub go_on-at : (next : OperatorTree × List Tok → Ending (OperatorTree × List Tok)) (a : Option OperatorTree) (ts : List Tok) (x : Ending (OperatorTree × List Tok)) (p : OperatorTree × List Tok)
        → go_on number stands atom ends next a ts x ≡ At p → WentOn next a ts x p
    go_on-at next a ts (At q) p e = inl (q, refl, e)
    go_on-at next None ts Nowhere p e = absurd (cc e)
    go_on-at next (Some t) ts Nowhere p e =
        let s : (t, ts) ≡ p = cc e in
        inr (refl, ap (λ (x : OperatorTree × List Tok). Some x.0) s, ap (λ (x : OperatorTree × List Tok). x.1) s)
    go_on-at next None ts Refused p e = absurd (cc e)
    go_on-at next (Some t) ts Refused p e = absurd (cc e)

    go_on-same : (next other : OperatorTree × List Tok → Ending (OperatorTree × List Tok)) (a : Option OperatorTree) (ts : List Tok) (x : Ending (OperatorTree × List Tok))
        → ((q : OperatorTree × List Tok) → x ≡ At q → next q ≡ other q)
        → go_on number stands atom ends next a ts x ≡ go_on number stands atom ends other a ts x
    go_on-same next other a ts (At q) h = h q refl
    go_on-same next other None ts Nowhere h = refl
    go_on-same next other (Some t) ts Nowhere h = refl
    go_on-same next other None ts Refused h = refl
    go_on-same next other (Some t) ts Refused h = refl

    -- by fewer steps than this
    abbrev Climbs : ℕ → ℕ → Option OperatorTree → List Tok → Ending (OperatorTree × List Tok)
    Climbs n = climb number stands atom ends n

    -- its operands
    abbrev OperandsBy : ℕ → ℕ → List Tok → Ending (OperatorTree × List Tok)
    OperandsBy n power us = Climbs n power None us

    climb-ends : (n : ℕ) → ((least : ℕ) (a : Option OperatorTree) → NotLonger (Climbs n least a)) × ((least : ℕ) → Shorter (Climbs n least None))
    climb-ends zero = (λ least a ts p e. absurd (cc e), λ least ts p e. absurd (cc e))
    climb-ends (suc n) =
        let further = step-further (OperandsBy n) (climb-ends n).1 in (
          λ least a ts p e. elim (go_on-at (λ q. Climbs n least (Some q.0) q.1) a ts (climb_step number stands atom ends (OperandsBy n) least a ts) p e) [
            | inl w ↦
                let k : length w.0.1 < length ts = further least a ts w.0 w.1 in
                let l : length p.1 ≤ length w.0.1 = (climb-ends n).0 least (Some w.0.0) w.0.1 p w.2 in
                omega (arith, k, l)
            | inr w ↦ rw w.2 (omega arith)
          ],
          λ least ts p e. elim (go_on-at (λ q. Climbs n least (Some q.0) q.1) None ts (climb_step number stands atom ends (OperandsBy n) least None ts) p e) [
            | inl w ↦
                let k : length w.0.1 < length ts = further least None ts w.0 w.1 in
                let l : length p.1 ≤ length w.0.1 = (climb-ends n).0 least (Some w.0.0) w.0.1 p w.2 in
                omega (arith, k, l)
            | inr w ↦ absurd (cc w.1)
          ],
        )

    climb-same : (n m least : ℕ) (a : Option OperatorTree) (ts : List Tok) → length ts < n → length ts < m → Climbs n least a ts ≡ Climbs m least a ts
    climb-same zero m least a ts l k = absurd (omega (arith, l))
    climb-same (suc n) zero least a ts l k = absurd (omega (arith, k))
    climb-same (suc n) (suc m) least a ts l k =
        let s = step-same (OperandsBy n) (OperandsBy m) ts (λ power us j. climb-same n m power None us (omega (arith, l, j)) (omega (arith, k, j))) least a in
        let further = step-further (OperandsBy n) (climb-ends n).1 in
        go_on-same (λ q. Climbs n least (Some q.0) q.1) (λ q. Climbs m least (Some q.0) q.1) a ts (climb_step number stands atom ends (OperandsBy n) least a ts)
        (λ q e. let j : length q.1 < length ts = further least a ts q e in climb-same n m least (Some q.0) q.1 (omega (arith, l, j)) (omega (arith, k, j)))
        ∙ ap (λ x. go_on number stands atom ends (λ q. Climbs m least (Some q.0) q.1) a ts x) s

    -- how a climb goes on
    pub climbed-on : (least : ℕ) (a : Option OperatorTree) (ts : List Tok)
        → climbed number stands atom ends least a ts
        ≡ go_on number stands atom ends (λ q. climbed number stands atom ends least (Some q.0) q.1) a ts (climb_step number stands atom ends (climb_operand number stands atom ends) least a ts)
    unfolding climbed
    climbed-on least a ts =
        let n = length ts in
        let s = step-same (OperandsBy n) (climb_operand number stands atom ends) ts (λ power us j. climb-same n (suc (length us)) power None us j (omega arith)) least a in
        let further = step-further (OperandsBy n) (climb-ends n).1 in
        go_on-same (λ q. Climbs n least (Some q.0) q.1) (λ q. climbed number stands atom ends least (Some q.0) q.1) a ts (climb_step number stands atom ends (OperandsBy n) least a ts)
        (λ q e. let j : length q.1 < length ts = further least a ts q e in climb-same n (suc (length q.1)) least (Some q.0) q.1 j (omega arith))
        ∙ ap (λ x. go_on number stands atom ends (λ q. climbed number stands atom ends least (Some q.0) q.1) a ts x) s

    -- an operand ends with fewer tokens, and so does each step
    pub operand-shorter : (power : ℕ) → Shorter (climb_operand number stands atom ends power)
    unfolding climbed
    operand-shorter power ts p e = (climb-ends (suc (length ts))).1 power ts p e

    pub climbed_step-shorter : (least : ℕ) (a : Option OperatorTree) → Shorter (climb_step number stands atom ends (climb_operand number stands atom ends) least a)
    climbed_step-shorter = step-further (climb_operand number stands atom ends) operand-shorter
