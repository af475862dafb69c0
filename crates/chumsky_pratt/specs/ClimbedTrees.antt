-- The tree of an expression is as the powers of its operators have it, and the tokens that were taken are how it is written.
-- Main law: climbed-tree. Read first: TreeClimb.antt, TreeClimbLaws.antt.
use Rattle.std.proofs.Common.{◌≡◌, ℕ, zero, suc, ◌<◌, Bool, true, false, Option, Some, None, List, ◌++◌, length, refl, sym, ◌∙◌, ap, subst, append_assoc, arith, ◌⊎◌, inl, inr}
use Rattle.std.specs.Prelude.{⊤}
use Rattle.chumsky_parser.specs.Ending.{Ending, At, Nowhere, Ender, and_then}
use Rattle.chumsky_parser.specs.Language.{Language, Begins, TakesOnly, EndsFurther}
use Rattle.chumsky_parser.specs.Words.{Joined}
use Rattle.chumsky_pratt.specs.declared.fixity.Fixity.{Fixity}
use Rattle.chumsky_pratt.specs.declared.fixity.Fixity.TheVariants.{Prefix, Postfix, Infix}
use Rattle.chumsky_pratt.specs.declared.operands.Operands.{Operands}
use Rattle.chumsky_pratt.specs.OperatorTrees.{OperatorTree, Atom, Prefixed, Postfixed, Infixed, is_tried, power_after, bound_of, YieldsTo, Binds, TreeWord}
use Rattle.chumsky_pratt.specs.TreeClimb.{first_attempt, where_tried, climb_after, climb_between, climb_step, climbed, climb_operand}
use Rattle.chumsky_pratt.specs.TreeClimbLaws.{IsAfter, IsBetween, step-at, first-fails, go_on-at, climbed-on, climbed_step-shorter}

-- one word, and then another
pub begins-joined : {Tok : Type 0} (P Q : List Tok → Type 0) (ts mid rest : List Tok) → Begins P ts mid → Begins Q mid rest → Begins (Joined P Q) ts rest
begins-joined P Q ts mid rest a b =
    let z : a.word ++ (b.word ++ rest) ≡ (a.word ++ b.word) ++ rest = sym (append_assoc a.word b.word rest) in
    record {
      word = a.word ++ b.word;
      all = a.all ∙ ap (λ t. a.word ++ t) b.all ∙ z;
      is = record { first = a.word; second = b.word; all = refl; is_first = a.is; is_second = b.is };
    }

where_passed : {X : Type 0} (c : Bool) (x : Ending X) (z : X) → where_tried c x ≡ Nowhere → x ≡ At z → c ≡ false
where_passed true x z e d = absurd (cc (sym d ∙ e))
where_passed false x z e d = refl

module _ {Tok : Type 0} (number : ℕ) (stands : ℕ → Fixity) (atom : Ender Tok) (ends : ℕ → Ender Tok) where
  abbrev Operand : ℕ → List Tok → Ending (OperatorTree × List Tok)
  Operand = climb_operand number stands atom ends

  abbrev Step : ℕ → Option OperatorTree → List Tok → Ending (OperatorTree × List Tok)
  Step = climb_step number stands atom ends Operand

  -- each operand at the right end of a tree went as far as it could
  abbrev pub RestsAt : OperatorTree → List Tok → Type 0
  RestsAt Atom ts = ⊤
  RestsAt (Prefixed i t) ts = (Step (power_after (stands i)) (Some t) ts ≡ Nowhere) × RestsAt t ts
  RestsAt (Postfixed t i) ts = ⊤
  RestsAt (Infixed l i r) ts = (Step (power_after (stands i)) (Some r) ts ≡ Nowhere) × RestsAt r ts

  module _ (i : ℕ) (ts : List Tok) (least : ℕ) (t : OperatorTree) (q : OperatorTree × List Tok) (power : ℕ) (u : OperatorTree) where
    after-passed : (f : Fixity) → climb_after number stands atom ends Operand power u i ts f ≡ Nowhere → IsAfter number stands atom ends Operand least t i ts f q
        → is_tried power (bound_of number stands u) f ≡ false
    after-passed (Prefix p) e a = absurd a.is
    after-passed (Postfix p) e a = where_passed _ (and_then (λ rest. At (Postfixed u i, rest)) (ends i ts)) (Postfixed u i, q.1) e (rw a.reads refl)
    after-passed (Infix l r c) e a = absurd a.is

    between-passed : (f : Fixity) → climb_between number stands atom ends Operand power u i ts f ≡ Nowhere → IsBetween number stands atom ends Operand least t i ts f q
        → is_tried power (bound_of number stands u) f ≡ false
    between-passed (Prefix p) e a = absurd a.is
    between-passed (Postfix p) e a = absurd a.is
    between-passed (Infix l r c) e a = where_passed _ (and_then (λ rest. and_then (λ p. At (Infixed u i p.0, p.1)) (Operand r rest)) (ends i ts)) (Infixed u i a.tree, q.1) e
        (rw (a.reads, a.then) refl)

    -- what goes on with an operator there is passed over by an operand that went as far as it could
    passes : i < number → Step power (Some u) ts ≡ Nowhere
        → IsAfter number stands atom ends Operand least t i ts (stands i) q ⊎ IsBetween number stands atom ends Operand least t i ts (stands i) q
        → is_tried power (bound_of number stands u) (stands i) ≡ false
    passes l e a =
        let betweens = first_attempt (λ j. climb_between number stands atom ends Operand power u j ts (stands j)) number 0 Nowhere in
        let k = first-fails (λ j. climb_after number stands atom ends Operand power u j ts (stands j)) number betweens number 0 (omega arith) e in
        elim a [
          | inl b ↦ after-passed (stands i) (k.0 i (omega arith) l) b
          | inr b ↦ between-passed (stands i)
              ((first-fails (λ j. climb_between number stands atom ends Operand power u j ts (stands j)) number Nowhere number 0 (omega arith) k.1).0 i (omega arith) l) b
        ]

  rested-leaves : (i : ℕ) (ts : List Tok) (least : ℕ) (t : OperatorTree) (q : OperatorTree × List Tok) → i < number
      → IsAfter number stands atom ends Operand least t i ts (stands i) q ⊎ IsBetween number stands atom ends Operand least t i ts (stands i) q
      → (u : OperatorTree) → RestsAt u ts → YieldsTo number stands u (stands i)
  rested-leaves i ts least t q l a Atom r = tt
  rested-leaves i ts least t q l a (Prefixed j u) r = (passes i ts least t q (power_after (stands j)) u l r.0 a, rested-leaves i ts least t q l a u r.1)
  rested-leaves i ts least t q l a (Postfixed u j) r = tt
  rested-leaves i ts least t q l a (Infixed v j u) r = (passes i ts least t q (power_after (stands j)) u l r.0 a, rested-leaves i ts least t q l a u r.1)

module _ {Tok V : Type 0} (number : ℕ) (stands : ℕ → Fixity) (F : Language Tok V) (operators : ℕ → Language Tok (Operands V × V)) where
  abbrev ends : ℕ → Ender Tok
  ends i = (operators i).ends

  abbrev RestsBy : OperatorTree → List Tok → Type 0
  RestsBy = RestsAt number stands F.ends ends

  abbrev StepBy : ℕ → Option OperatorTree → List Tok → Ending (OperatorTree × List Tok)
  StepBy = climb_step number stands F.ends ends (climb_operand number stands F.ends ends)

  -- from these tokens on such a tree was read, or nothing yet
  abbrev Sofar : List Tok → ℕ → Option OperatorTree → List Tok → Type 0
  Sofar from least None ts = from ≡ ts
  Sofar from least (Some t) ts = Begins (TreeWord F operators t) from ts × Binds number stands least t × RestsBy t ts

  -- from these tokens on a tree was read that is as powers have it, and went as far as it could
  pub record IsRead (from : List Tok) (least : ℕ) (p : OperatorTree × List Tok) : Type 0 where
    pub begins : Begins (TreeWord F operators p.0) from p.1
    pub binds : Binds number stands least p.0
    pub rested : RestsBy p.0 p.1
    pub ended : StepBy least (Some p.0) p.1 ≡ Nowhere

  module _ (only : TakesOnly F.ends F.word) (each_only : (i : ℕ) → TakesOnly (ends i) (operators i).word) where
    step-tree : (from : List Tok) (least : ℕ) (a : Option OperatorTree) (ts : List Tok) (q : OperatorTree × List Tok)
        → ((i : ℕ) (mid : List Tok) → ends i ts ≡ At mid → (power : ℕ) (p : OperatorTree × List Tok) → climb_operand number stands F.ends ends power mid ≡ At p → IsRead mid power p)
        → StepBy least a ts ≡ At q → Sofar from least a ts → Sofar from least (Some q.0) q.1
    step-tree from least None ts q h e s = elim (step-at number stands F.ends ends (climb_operand number stands F.ends ends) least None ts q e) [
      | inl o ↦
          let b = o.2 in
          let r = h o.0 b.mid b.reads (power_after (stands o.0)) (b.tree, q.1) b.then in
          let w = begins-joined (operators o.0).word (TreeWord F operators b.tree) ts b.mid q.1 ((each_only o.0).taken ts b.mid b.reads) r.begins in
          subst (λ t. Sofar from least (Some t) q.1) (sym b.made) (rw s w, (o.1, b.is, r.binds), (r.ended, r.rested))
      | inr o ↦ subst (λ t. Sofar from least (Some t) q.1) (sym o.made) (rw s (only.taken ts q.1 o.reads), tt, tt)
    ]
    step-tree from least (Some t) ts q h e s = elim (step-at number stands F.ends ends (climb_operand number stands F.ends ends) least (Some t) ts q e) [
      | inl o ↦
          let b = o.2 in
          let w = begins-joined (TreeWord F operators t) (operators o.0).word from ts q.1 s.0 ((each_only o.0).taken ts q.1 b.reads) in
          let l = rested-leaves number stands F.ends ends o.0 ts least t q o.1 (inl b) t s.2 in
          subst (λ t. Sofar from least (Some t) q.1) (sym b.made) (w, (o.1, b.is, b.was_tried, l, s.1), tt)
      | inr o ↦
          let b = o.2 in
          let r = h o.0 b.mid b.reads (power_after (stands o.0)) (b.tree, q.1) b.then in
          let w = begins-joined (TreeWord F operators t) (Joined (operators o.0).word (TreeWord F operators b.tree)) from ts q.1 s.0
          (begins-joined (operators o.0).word (TreeWord F operators b.tree) ts b.mid q.1 ((each_only o.0).taken ts b.mid b.reads) r.begins) in
          let l = rested-leaves number stands F.ends ends o.0 ts least t q o.1 (inr b) t s.2 in
          subst (λ t. Sofar from least (Some t) q.1) (sym b.made) (w, (o.1, b.is, b.was_tried, l, s.1, r.binds), (r.ended, r.rested))
    ]

    module _ (atom_further : EndsFurther F.ends) (ends_further : (i : ℕ) → EndsFurther (ends i)) where
      -- where a climb ended, its tree is so
      pub climbed-tree : (n : ℕ) (from : List Tok) (least : ℕ) (a : Option OperatorTree) (ts : List Tok) (p : OperatorTree × List Tok) → length ts < n
          → climbed number stands F.ends ends least a ts ≡ At p → Sofar from least a ts → IsRead from least p
      climbed-tree zero from least a ts p l e s = absurd (omega (arith, l))
      climbed-tree (suc n) from least a ts p l e s =
          let on = sym (climbed-on number stands F.ends ends atom_further ends_further least a ts) ∙ e in
          elim (go_on-at number stands F.ends ends atom_further ends_further _ a ts (StepBy least a ts) p on) [
            | inl w ↦
                let k : length w.0.1 < length ts = climbed_step-shorter number stands F.ends ends atom_further ends_further least a ts w.0 w.1 in
                let z = step-tree from least a ts w.0
                (λ i mid d power u c. let j : length mid < length ts = ends_further i ts mid d in climbed-tree n mid power None mid u (omega (arith, l, j)) c refl) w.1 s in
                climbed-tree n from least (Some w.0.0) w.0.1 p (omega (arith, l, k)) w.2 z
            | inr w ↦
                let z : Sofar from least (Some p.0) p.1 = subst (λ x. Sofar from least x p.1) w.1 (subst (λ x. Sofar from least a x) w.2 s) in
                record {
                  begins = z.0;
                  binds = z.1;
                  rested = z.2;
                  ended = subst (λ x. StepBy least x p.1 ≡ Nowhere) w.1 (subst (λ x. StepBy least a x ≡ Nowhere) w.2 w.0);
                }
          ]
