-- What is said of expressions by precedence holds, since it does of their atom and of their operators.
-- Main laws: precedence-accepts, precedence-said, precedence-further, precedence-passed, precedence-refused. Read first: PrecedenceLanguage.antt, ClimbedTrees.antt,
-- ClimbedReads.antt, ClimbedRefused.antt.
use Rattle.std.proofs.Common.{◌≡◌, ℕ, zero, suc, ◌+◌, ◌≤◌, ◌<◌, ◌&&◌, Bool, true, false, Option, None, List, length, refl, subst, arith, inl, inr}
use Rattle.std.proofs.lemmas.Bool.Decides.{nat_tests}
use Rattle.std.specs.Prelude.{nat_le}
use Rattle.chumsky_input.specs.Outcome.{EndsAfterStart}
use Rattle.chumsky_parser.specs.Ending.{Ending, At, Refused, Ender, Ends}
use Rattle.chumsky_parser.specs.FurtherLaws.{sooner-below, fewer-below}
use Rattle.chumsky_parser.specs.Language.{Language, Begins, Accepts, EndsFurther, IsBelow}
use Rattle.chumsky_parser.specs.ProgressLaws.{both-true}
use Rattle.chumsky_pratt.specs.declared.fixity.Fixity.{Fixity}
use Rattle.chumsky_pratt.specs.Expression.{Syntax, Expression}
use Rattle.chumsky_pratt.specs.ExpressionMoves.{expression-move}
use Rattle.chumsky_pratt.specs.OperatorTrees.{OperatorTree, TreeWord, TreeValue}
use Rattle.chumsky_pratt.specs.TreeClimb.{climbed}
use Rattle.chumsky_pratt.specs.TreeClimbLaws.{and_then-at, operand-shorter}
use Rattle.chumsky_pratt.specs.ClimbedRefused.{made-refused, ArePassed, PartRefused, climbed-passed, climbed-refused}
use Rattle.chumsky_pratt.specs.ClimbedTrees.{climbed-tree}
use Rattle.chumsky_pratt.specs.ClimbedReads.{expression-reads}
use Rattle.chumsky_pratt.specs.ClimbsWhole.{tree-taken}
use Rattle.chumsky_pratt.specs.Operating.{OperatorLanguages, OperateAs}
use Rattle.chumsky_pratt.specs.PrecedenceLanguage.{soonest, OfTree, precedence_language}

soonest-below : (f : ℕ → Option ℕ) (count i j k : ℕ) → IsBelow (soonest f count i) k → i ≤ j → j < i + count → IsBelow (f j) k
soonest-below f zero i j k b l m = absurd (omega (arith, l, m))
soonest-below f (suc count) i j k b l m =
    let h = sooner-below (f i) (soonest f count (suc i)) k b in
    by_order h.0 (λ n. soonest-below f count (suc i) j k h.1 n (omega (arith, m))) (nat_le (suc i) j) refl
  where
    by_order : IsBelow (f i) k → (suc i ≤ j → IsBelow (f j) k) → (c : Bool) → nat_le (suc i) j ≡ c → IsBelow (f j) k
    by_order here there true e = there (grind (arith, nat_tests))
    by_order here there false e = let z : i ≡ j = (let m : j < suc i = grind (arith, nat_tests) in omega (arith, l, m)) in subst (λ n. IsBelow (f n) k) z here

-- it is said where the languages of the atom and of the operators are, and the atom takes a token
pub precedence-said : {Tok V : Type 0} (number : ℕ) (stands : ℕ → Fixity) (A : Language Tok V) (row : OperatorLanguages Tok V)
    → A.said ≡ true → A.moves ≡ true → row.said ≡ true → (precedence_language number stands A row).said ≡ true
unfolding precedence_language
precedence-said number stands A row e m r = rw (e, m, r) refl

module _ {Tok V : Type 0} (number : ℕ) (stands : ℕ → Fixity) (A : Language Tok V) (row : OperatorLanguages Tok V) (atom_further : EndsFurther A.ends)
    (ends_further : (i : ℕ) → EndsFurther ((row.operator i).ends)) where
  abbrev ends : ℕ → Ender Tok
  ends i = (row.operator i).ends

  abbrev climb : List Tok → Ending (OperatorTree × List Tok)
  climb ts = climbed number stands A.ends ends 0 None ts

  -- it takes a token, where its atom and its operators do
  pub precedence-further : EndsFurther ((precedence_language number stands A row).ends)
  unfolding precedence_language
  precedence-further ts rest e =
      let q = and_then-at (climb ts) (λ (p : OperatorTree × List Tok). At p.1) rest e in
      let same : q.mid.1 ≡ rest = cc q.second in
      subst (λ r. length r < length ts) same (operand-shorter number stands A.ends ends atom_further ends_further 0 ts q.mid q.first)

  -- what is so wherever these end is so of what it leaves; and it is refused only where one of these is, behind what was read so
  module _ (Passes : List Tok → List Tok → Type 0) (are : ArePassed A.ends (λ i. (row.operator i).ends) Passes) where
    pub precedence-passed : (ts rest : List Tok) → (precedence_language number stands A row).ends ts ≡ At rest → Passes ts rest
    unfolding precedence_language
    precedence-passed ts rest e =
        let q = and_then-at (climb ts) (λ (p : OperatorTree × List Tok). At p.1) rest e in
        let same : q.mid.1 ≡ rest = cc q.second in
        subst (λ r. Passes ts r) same (climbed-passed number stands A.ends ends atom_further ends_further Passes are (suc (length ts)) 0 None ts q.mid (omega arith) q.first)

    pub precedence-refused : (ts : List Tok) → (precedence_language number stands A row).ends ts ≡ Refused → PartRefused number A.ends (λ i. (row.operator i).ends) Passes ts
    unfolding precedence_language
    precedence-refused ts e =
        climbed-refused number stands A.ends ends atom_further ends_further Passes are (suc (length ts)) 0 None ts (omega arith) (made-refused (climb ts) (λ (p : OperatorTree × List Tok). p.1) e)

module _ {Tok Cx St Mk Er F V : Type 0} {s : Syntax Tok Cx St Mk Er F V} {A : Language Tok V} {row : OperatorLanguages Tok V} where
  -- expressions of any power
  pub precedence-accepts : {spare : Type 0} → EndsAfterStart s.atom → ((i : ℕ) → EndsAfterStart (s.reads i)) → Accepts s.atom A spare
      → OperateAs s.reads s.gives row → Accepts (Expression s 0) (precedence_language s.number s.stands A row) spare
  unfolding precedence_language
  precedence-accepts atom_ends reads_end h k = record {
    described = λ e.
        let t = both-true A.said (A.moves && row.said) e in
        let u = both-true A.moves row.said t.1 in
        let d = h.described t.0 in
        let o = k u.1 in
        let ends : ℕ → Ender Tok = λ i. (row.operator i).ends in
        let atom_further : EndsFurther A.ends = d.further u.0 in
        let ends_further : (i : ℕ) → EndsFurther (ends i) = λ i. (o i).further in
        let climb : List Tok → Ending (OperatorTree × List Tok) = λ ts. climbed s.number s.stands A.ends ends 0 None ts in
        record {
          reads = expression-reads s A row.operator d.reads d.given o atom_further ends_further 0;
          only = record {
            taken = λ ts rest z.
                let q = and_then-at (climb ts) (λ (p : OperatorTree × List Tok). At p.1) rest z in
                let r = climbed-tree s.number s.stands A row.operator d.only (λ i. (o i).only) atom_further ends_further (suc (length ts)) ts 0 None ts q.mid (omega arith) q.first refl in
                let same : q.mid.1 ≡ rest = cc q.second in
                let IsWord : List Tok → Type 0 = λ w. OfTree s.number s.stands (λ t. TreeWord A row.operator t w) in
                subst (λ r. Begins IsWord ts r) same (record { word = r.begins.word; all = r.begins.all; is = record { tree = q.mid.0; binds = r.binds; is = r.begins.is } });
          };
          given = record {
            given = λ ts rest v z i.
                let q = and_then-at (climb ts) (λ (p : OperatorTree × List Tok). At p.1) rest z in
                let r = climbed-tree s.number s.stands A row.operator d.only (λ i. (o i).only) atom_further ends_further (suc (length ts)) ts 0 None ts q.mid (omega arith) q.first refl in
                let same : q.mid.1 ≡ rest = cc q.second in
                let b : Begins (λ w. TreeValue A row.operator q.mid.0 w v) ts q.mid.1 = subst (λ x. Ends x (λ p. Begins (λ w. TreeValue A row.operator p.0 w v) ts p.1)) q.first i in
                let IsOf : List Tok → Type 0 = λ w. OfTree s.number s.stands (λ t. TreeValue A row.operator t w v) in
                subst (λ r. Begins IsOf ts r) same (record { word = b.word; all = b.all; is = record { tree = q.mid.0; binds = r.binds; is = b.is } });
          };
          each = λ x. tree-taken s.number s.stands A row x (d.each x.atom) (λ i l. (o i).each (x.each i l)) atom_further ends_further;
          decided = λ ts b z.
              let r = precedence-refused s.number s.stands A row atom_further ends_further (λ us rest. length rest ≤ length us) (record {
                none = λ us. omega arith;
                both = λ us mid rest k l. omega (arith, k, l);
                an_atom = λ us rest e. let l : length rest < length us = atom_further us rest e in omega (arith, l);
                operator = λ i us rest e. let l : length rest < length us = ends_further i us rest e in omega (arith, l);
              }) ts z in
              let n = sooner-below A.refused_from (soonest (λ i. (row.operator i).refused_from) s.number 0) (length ts) b in
              elim r.part [
                | inl a ↦ d.decided r.rest (fewer-below A.refused_from (length r.rest) (length ts) r.passed n.0) a
                | inr a ↦ (o a.0).decided r.rest (fewer-below _ (length r.rest) (length ts) r.passed (soonest-below _ s.number 0 a.0 (length ts) n.1 (omega arith) (omega (arith, a.1)))) a.2
              ];
          further = λ m. precedence-further s.number s.stands A row atom_further ends_further;
        };
    moving = λ m. expression-move s atom_ends reads_end (h.moving m) 0;
    sparing = λ q x. absurd x;
  }
