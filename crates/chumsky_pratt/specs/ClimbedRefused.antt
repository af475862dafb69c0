-- A climb is refused only where an atom or an operator is; and what is so wherever one of these ends is so of what was read before that.
-- Main words: ArePassed, PartRefused. Main laws: climbed-passed, climbed-refused. Read first: TreeClimb.antt, TreeClimbLaws.antt.
use Rattle.std.proofs.Common.{◌≡◌, ℕ, zero, suc, ◌<◌, Bool, true, false, Option, Some, None, List, length, refl, sym, ◌∙◌, subst, arith, ◌⊎◌, inl, inr}
use Rattle.chumsky_parser.specs.Ending.{Ending, At, Nowhere, Refused, Ender, and_then}
use Rattle.chumsky_parser.specs.Language.{EndsFurther}
use Rattle.chumsky_pratt.specs.declared.fixity.Fixity.{Fixity}
use Rattle.chumsky_pratt.specs.declared.fixity.Fixity.TheVariants.{Prefix, Postfix, Infix}
use Rattle.chumsky_pratt.specs.OperatorTrees.{OperatorTree, Atom, Prefixed, Postfixed, Infixed, is_tried, power_after, bound_of}
use Rattle.chumsky_pratt.specs.TreeClimb.{first_attempt, where_tried, climb_before, climb_after, climb_between, climb_step, go_on, climbed, climb_operand}
use Rattle.chumsky_pratt.specs.TreeClimbLaws.{first-refused, step-at, go_on-at, climbed-on, climbed_step-shorter}

and_then-refused : {X Y : Type 0} (x : Ending X) (k : X → Ending Y) → and_then k x ≡ Refused → (x ≡ Refused) ⊎ ((m : X) × (x ≡ At m) × (k m ≡ Refused))
and_then-refused (At m) k e = inr (m, refl, e)
and_then-refused Nowhere k e = absurd (cc e)
and_then-refused Refused k e = inl refl

tried-refused : {X : Type 0} (c : Bool) (x : Ending X) → where_tried c x ≡ Refused → x ≡ Refused
tried-refused true x e = e
tried-refused false x e = absurd (cc e)

-- an end that is made of one that is there is refused only with it
pub made-refused : {X Y : Type 0} (x : Ending X) (k : X → Y) → and_then (λ m. At (k m)) x ≡ Refused → x ≡ Refused
made-refused (At m) k e = absurd (cc e)
made-refused Nowhere k e = absurd (cc e)
made-refused Refused k e = refl

-- what is so of a text and of what an atom or an operator leaves of it, and goes on from one such text to another
pub record ArePassed {Tok : Type 0} (atom : Ender Tok) (ends : ℕ → Ender Tok) (Passes : List Tok → List Tok → Type 0) : Type 0 where
  pub none : (ts : List Tok) → Passes ts ts
  pub both : (ts mid rest : List Tok) → Passes ts mid → Passes mid rest → Passes ts rest
  pub an_atom : (ts rest : List Tok) → atom ts ≡ At rest → Passes ts rest
  pub operator : (i : ℕ) (ts rest : List Tok) → ends i ts ≡ At rest → Passes ts rest

-- an atom or an operator is refused, behind what was read of this
pub record PartRefused {Tok : Type 0} (number : ℕ) (atom : Ender Tok) (ends : ℕ → Ender Tok) (Passes : List Tok → List Tok → Type 0) (ts : List Tok) : Type 0 where
  pub rest : List Tok
  pub passed : Passes ts rest
  pub part : (atom rest ≡ Refused) ⊎ ((i : ℕ) × (i < number) × (ends i rest ≡ Refused))

module _ {Tok : Type 0} (number : ℕ) (stands : ℕ → Fixity) (atom : Ender Tok) (ends : ℕ → Ender Tok) (atom_further : EndsFurther atom) (ends_further : (i : ℕ) → EndsFurther (ends i))
    (Passes : List Tok → List Tok → Type 0) (are : ArePassed atom ends Passes) where
  abbrev Operand : ℕ → List Tok → Ending (OperatorTree × List Tok)
  Operand = climb_operand number stands atom ends

  abbrev Step : ℕ → Option OperatorTree → List Tok → Ending (OperatorTree × List Tok)
  Step = climb_step number stands atom ends Operand

  step-passed : (least : ℕ) (a : Option OperatorTree) (ts : List Tok) (q : OperatorTree × List Tok)
      → ((power : ℕ) (mid : List Tok) (p : OperatorTree × List Tok) → length mid < length ts → Operand power mid ≡ At p → Passes mid p.1) → Step least a ts ≡ At q → Passes ts q.1
  step-passed least None ts q h e = elim (step-at number stands atom ends Operand least None ts q e) [
    | inl o ↦
        let b = o.2 in
        are.both ts b.mid q.1 (are.operator o.0 ts b.mid b.reads) (h (power_after (stands o.0)) b.mid (b.tree, q.1) (ends_further o.0 ts b.mid b.reads) b.then)
    | inr o ↦ are.an_atom ts q.1 o.reads
  ]
  step-passed least (Some t) ts q h e = elim (step-at number stands atom ends Operand least (Some t) ts q e) [
    | inl o ↦ are.operator o.0 ts q.1 o.2.reads
    | inr o ↦
        let b = o.2 in
        are.both ts b.mid q.1 (are.operator o.0 ts b.mid b.reads) (h (power_after (stands o.0)) b.mid (b.tree, q.1) (ends_further o.0 ts b.mid b.reads) b.then)
  ]

  -- it is so of what a climb leaves
  pub climbed-passed : (n least : ℕ) (a : Option OperatorTree) (ts : List Tok) (p : OperatorTree × List Tok) → length ts < n → climbed number stands atom ends least a ts ≡ At p → Passes ts p.1
  climbed-passed zero least a ts p l e = absurd (omega (arith, l))
  climbed-passed (suc n) least a ts p l e =
      elim (go_on-at number stands atom ends atom_further ends_further _ a ts (Step least a ts) p (sym (climbed-on number stands atom ends atom_further ends_further least a ts) ∙ e)) [
        | inl w ↦
            let k : length w.0.1 < length ts = climbed_step-shorter number stands atom ends atom_further ends_further least a ts w.0 w.1 in
            let s = step-passed least a ts w.0 (λ power mid q j d. climbed-passed n power None mid q (omega (arith, l, j)) d) w.1 in
            are.both ts w.0.1 p.1 s (climbed-passed n least (Some w.0.0) w.0.1 p (omega (arith, l, k)) w.2)
        | inr w ↦ subst (λ us. Passes ts us) w.2 (are.none ts)
      ]

  abbrev Stopped : List Tok → Type 0
  Stopped = PartRefused number atom ends Passes

  -- a part is refused; or an operand is, where fewer tokens are left
  abbrev OperandRefused : List Tok → Type 0
  OperandRefused ts = Stopped ts ⊎ ((power : ℕ) × (mid : List Tok) × (length mid < length ts) × Passes ts mid × (Operand power mid ≡ Refused))

  with_operand : (i : ℕ) (ts : List Tok) (power : ℕ) (make : OperatorTree → OperatorTree) → i < number
      → and_then {Y = OperatorTree × List Tok} (λ rest. and_then {Y = OperatorTree × List Tok} (λ p. At (make p.0, p.1)) (Operand power rest)) (ends i ts) ≡ Refused → OperandRefused ts
  with_operand i ts power make l e = elim (and_then-refused (ends i ts) _ e) [
    | inl r ↦ inl (record { rest = ts; passed = are.none ts; part = inr (i, l, r) })
    | inr m ↦ inr (power, m.0, ends_further i ts m.0 m.1, are.operator i ts m.0 m.1, made-refused (Operand power m.0) (λ p. (make p.0, p.1)) m.2)
  ]

  before-refused : (i : ℕ) (ts : List Tok) (f : Fixity) → i < number → climb_before number stands atom ends Operand i ts f ≡ Refused → OperandRefused ts
  before-refused i ts (Prefix power) l e = with_operand i ts power (Prefixed i) l e
  before-refused i ts (Postfix power) l e = absurd (cc e)
  before-refused i ts (Infix left right chains) l e = absurd (cc e)

  after-refused : (least : ℕ) (t : OperatorTree) (i : ℕ) (ts : List Tok) (f : Fixity) → i < number → climb_after number stands atom ends Operand least t i ts f ≡ Refused → OperandRefused ts
  after-refused least t i ts (Prefix power) l e = absurd (cc e)
  after-refused least t i ts (Postfix power) l e =
      let r = tried-refused (is_tried least (bound_of number stands t) (Postfix power)) (and_then (λ rest. At (Postfixed t i, rest)) (ends i ts)) e in
      inl (record { rest = ts; passed = are.none ts; part = inr (i, l, made-refused (ends i ts) (λ (rest : List Tok). (Postfixed t i, rest)) r) })
  after-refused least t i ts (Infix left right chains) l e = absurd (cc e)

  between-refused : (least : ℕ) (t : OperatorTree) (i : ℕ) (ts : List Tok) (f : Fixity) → i < number → climb_between number stands atom ends Operand least t i ts f ≡ Refused → OperandRefused ts
  between-refused least t i ts (Prefix power) l e = absurd (cc e)
  between-refused least t i ts (Postfix power) l e = absurd (cc e)
  between-refused least t i ts (Infix left right chains) l e =
      let r = tried-refused (is_tried least (bound_of number stands t) (Infix left right chains)) (and_then (λ rest. and_then (λ p. At (Infixed t i p.0, p.1)) (Operand right rest)) (ends i ts)) e in
      with_operand i ts right (λ u. Infixed t i u) l r

  step-refused : (least : ℕ) (a : Option OperatorTree) (ts : List Tok) → Step least a ts ≡ Refused → OperandRefused ts
  step-refused least None ts e = elim
      (first-refused (λ i. climb_before number stands atom ends Operand i ts (stands i)) number (and_then (λ rest. At (Atom, rest)) (atom ts)) number 0 (omega arith) e) [
        | inl o ↦ before-refused o.0 ts (stands o.0) o.1 o.2
        | inr o ↦ inl (record { rest = ts; passed = are.none ts; part = inl (made-refused (atom ts) (λ (rest : List Tok). (Atom, rest)) o) })
      ]
  step-refused least (Some t) ts e =
      let betweens = first_attempt (λ i. climb_between number stands atom ends Operand least t i ts (stands i)) number 0 Nowhere in
      elim (first-refused (λ i. climb_after number stands atom ends Operand least t i ts (stands i)) number betweens number 0 (omega arith) e) [
        | inl o ↦ after-refused least t o.0 ts (stands o.0) o.1 o.2
        | inr o ↦ elim (first-refused (λ i. climb_between number stands atom ends Operand least t i ts (stands i)) number Nowhere number 0 (omega arith) o) [
          | inl p ↦ between-refused least t p.0 ts (stands p.0) p.1 p.2
          | inr p ↦ absurd (cc p)
        ]
      ]

  go_on-refused : (next : OperatorTree × List Tok → Ending (OperatorTree × List Tok)) (a : Option OperatorTree) (ts : List Tok) (x : Ending (OperatorTree × List Tok))
      → go_on number stands atom ends next a ts x ≡ Refused
      → (x ≡ Refused) ⊎ ((q : OperatorTree × List Tok) × (x ≡ At q) × (next q ≡ Refused))
  go_on-refused next a ts (At q) e = inr (q, refl, e)
  go_on-refused next None ts Nowhere e = absurd (cc e)
  go_on-refused next (Some t) ts Nowhere e = absurd (cc e)
  go_on-refused next a ts Refused e = inl refl

  still_refused : (ts mid : List Tok) → Passes ts mid → Stopped mid → Stopped ts
  still_refused ts mid p r = record { rest = r.rest; passed = are.both ts mid r.rest p r.passed; part = r.part }

  pub climbed-refused : (n least : ℕ) (a : Option OperatorTree) (ts : List Tok) → length ts < n → climbed number stands atom ends least a ts ≡ Refused → Stopped ts
  climbed-refused zero least a ts l e = absurd (omega (arith, l))
  climbed-refused (suc n) least a ts l e =
      elim (go_on-refused _ a ts (Step least a ts) (sym (climbed-on number stands atom ends atom_further ends_further least a ts) ∙ e)) [
        | inl r ↦ elim (step-refused least a ts r) [
          | inl p ↦ p
          | inr p ↦ still_refused ts p.1 p.3 (climbed-refused n p.0 None p.1 (let k = p.2 in omega (arith, l, k)) p.4)
        ]
        | inr q ↦
            let k : length q.0.1 < length ts = climbed_step-shorter number stands atom ends atom_further ends_further least a ts q.0 q.1 in
            let s = step-passed least a ts q.0 (λ power mid p j d. climbed-passed (suc (length mid)) power None mid p (omega arith) d) q.1 in
            still_refused ts q.0.1 s (climbed-refused n least (Some q.0.0) q.0.1 (omega (arith, l, k)) q.2)
      ]
