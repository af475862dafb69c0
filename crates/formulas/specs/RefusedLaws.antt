-- A formula is refused only where as many brackets are open at once as calls may be.
-- Main law: refused-nested. Read first: NestedLaws.antt; PrecedenceLanguageLaws.antt of chumsky_pratt.
use Rattle.std.proofs.Common.{◌≡◌, ℕ, zero, suc, ◌+◌, ◌≤◌, ◌<◌, Bool, true, false, cond, nat_eq, max, List, [], ◌∷◌, length, refl, ap, arith, ◌⊎◌, inl, inr}
use Rattle.std.proofs.Math.Nat.{le-max_left, le-max_right}
use Rattle.std.proofs.lemmas.Bool.Decides.{nat_tests}
use Rattle.chumsky_parser.specs.Ending.{Ending, At, Nowhere, Refused, Ender, and_then, or_else}
use Rattle.chumsky_parser.specs.Language.{Language}
use Rattle.chumsky_parser.specs.Words.{then_ends}
use Rattle.chumsky_pratt.specs.TreeClimbLaws.{and_then-at}
use Rattle.chumsky_pratt.specs.ClimbedRefused.{ArePassed}
use Rattle.chumsky_pratt.specs.PrecedenceLanguage.{precedence_language}
use Rattle.chumsky_pratt.specs.PrecedenceLanguageLaws.{precedence-further, precedence-passed, precedence-refused}
use Rattle.chumsky_descent.specs.CallLanguage.{call_language}
use Rattle.formulas.specs.Formula.{open_behind, most_open, nesting}
use Rattle.formulas.specs.FormulaOperators.{stands, operators}
use Rattle.formulas.specs.Nested.{nested_formulas}
use Rattle.formulas.specs.NestedLaws.{grammar, atoms_of}
use Rattle.formulas.specs.Signs.{character}

-- a text goes on to a later one: that is shorter, and wherever no fewer brackets are open
pub record GoesTo (ts rest : List ℕ) : Type 0 where
  pub shorter : length rest < length ts
  pub no_fewer : (n : ℕ) → most_open n rest ≤ most_open n ts

-- or is that text
abbrev Passes : List ℕ → List ℕ → Type 0
Passes ts rest = (n : ℕ) → most_open n rest ≤ most_open n ts

abbrev Goes : Ender ℕ → Type 0
Goes f = (ts rest : List ℕ) → f ts ≡ At rest → GoesTo ts rest

-- where a character ends, it was there
character-at : (c : ℕ) (ts rest : List ℕ) → (character c).ends ts ≡ At rest → ts ≡ c ∷ rest
character-at c [] rest e = absurd (cc e)
character-at c (t ∷ ts) rest e = by_test (nat_eq c t) refl e
  where
    by_test : (b : Bool) → nat_eq c t ≡ b → cond b (At ts) Nowhere ≡ At rest → t ∷ ts ≡ c ∷ rest
    by_test true d e = let s : t ≡ c = grind (arith, nat_tests) in let q : ts ≡ rest = cc e in cc (s, q)
    by_test false d e = absurd (cc e)

character-never : (c : ℕ) (ts : List ℕ) → (character c).ends ts ≡ Refused → ⊥
character-never c [] e = absurd (cc e)
character-never c (t ∷ ts) e = by_test (nat_eq c t) e
  where
    by_test : (b : Bool) → cond b (At ts) Nowhere ≡ Refused → ⊥
    by_test true e = absurd (cc e)
    by_test false e = absurd (cc e)

-- behind one that is no bracket as many are open
plain : (c : ℕ) → nat_eq 40 c ≡ false → nat_eq 41 c ≡ false → Goes ((character c).ends)
plain c a b ts rest e =
    let s = character-at c ts rest e in
    rw s (record { shorter = omega arith; no_fewer = λ n. let k : most_open n rest ≤ max n (most_open n rest) = le-max_right n (most_open n rest) in rw (a, b) k })

operators-go : (i : ℕ) → Goes ((operators.operator i).ends)
operators-go zero = plain 33 refl refl
operators-go (suc zero) = plain 38 refl refl
operators-go (suc (suc i)) = plain 124 refl refl

operators-never : (i : ℕ) (ts : List ℕ) → (operators.operator i).ends ts ≡ Refused → ⊥
operators-never zero = character-never 33
operators-never (suc zero) = character-never 38
operators-never (suc (suc i)) = character-never 124

either-at : {X : Type 0} (x y : Ending X) (z : X) → or_else x y ≡ At z → (x ≡ At z) ⊎ (y ≡ At z)
either-at (At m) y z e = inl e
either-at Nowhere y z e = inr e
either-at Refused y z e = absurd (cc e)

module _ (call : Language ℕ Bool) (calls_go : Goes call.ends) where
  abbrev atoms : Language ℕ Bool
  atoms = atoms_of call

  -- nor are fewer behind what a call takes in brackets
  closed : (ts rest : List ℕ) → then_ends (character 40).ends (then_ends call.ends (character 41).ends) ts ≡ At rest → GoesTo ts rest
  closed ts rest e =
      let a = and_then-at ((character 40).ends ts) (then_ends call.ends (character 41).ends) rest e in
      let b = and_then-at (call.ends a.mid) (character 41).ends rest a.second in
      let s = character-at 40 ts a.mid a.first in
      let q = character-at 41 b.mid rest b.second in
      let g = calls_go a.mid b.mid b.first in
      let l : length b.mid < length a.mid = g.shorter in
      let m : length b.mid ≡ suc (length rest) = ap length q in
      rw s (record { shorter = omega (arith, l, m); no_fewer = λ n. by_open a.mid rest n (rw q at g.no_fewer (suc n)) })
    where
      by_open : (mid rest : List ℕ) (n : ℕ) → most_open (suc n) (41 ∷ rest) ≤ most_open (suc n) mid → most_open n rest ≤ most_open n (40 ∷ mid)
      by_open mid rest n k =
          let l : max (suc n) (most_open n rest) ≤ most_open (suc n) mid = k in
          let a : most_open n rest ≤ max (suc n) (most_open n rest) = le-max_right (suc n) (most_open n rest) in
          let b : most_open (suc n) mid ≤ max n (most_open (suc n) mid) = le-max_right n (most_open (suc n) mid) in
          omega (arith, l, a, b)

  atoms-go : Goes atoms.ends
  atoms-go ts rest e = elim (either-at _ _ rest e) [
    | inl x ↦ elim (either-at ((character 116).ends ts) ((character 102).ends ts) rest x) [ inl y ↦ plain 116 refl refl ts rest y | inr y ↦ plain 102 refl refl ts rest y ]
    | inr x ↦ closed ts rest x
  ]

  passed : ArePassed atoms.ends (λ i. (operators.operator i).ends) Passes
  passed = record {
    none = λ ts n. omega arith;
    both = λ ts mid rest f g n. let a = f n in let b = g n in omega (arith, a, b);
    an_atom = λ ts rest e. (atoms-go ts rest e).no_fewer;
    operator = λ i ts rest e. (operators-go i ts rest e).no_fewer;
  }

  atoms-further : (ts rest : List ℕ) → atoms.ends ts ≡ At rest → length rest < length ts
  atoms-further ts rest e = (atoms-go ts rest e).shorter

  operators-further : (i : ℕ) (ts rest : List ℕ) → (operators.operator i).ends ts ≡ At rest → length rest < length ts
  operators-further i ts rest e = (operators-go i ts rest e).shorter

  body-goes : Goes (precedence_language 3 stands atoms operators).ends
  body-goes ts rest e = record {
    shorter = precedence-further 3 stands atoms operators atoms-further operators-further ts rest e;
    no_fewer = precedence-passed 3 stands atoms operators atoms-further operators-further Passes passed ts rest e;
  }

  -- an atom is refused where a bracket opens, and the call behind it is
  opens : (c : ℕ) (cs : List ℕ) → atoms.ends (c ∷ cs) ≡ Refused → (c ≡ 40) × (call.ends cs ≡ Refused)
  opens c cs e = by_tests (nat_eq 116 c) (nat_eq 102 c) (nat_eq 40 c) refl e
    where
      by_call : (x : Ending (List ℕ)) → and_then (character 41).ends x ≡ Refused → x ≡ Refused
      by_call (At mid) e = absurd (character-never 41 mid e)
      by_call Nowhere e = absurd (cc e)
      by_call Refused e = refl

      by_tests : (a b o : Bool) → nat_eq 40 c ≡ o
          → or_else (or_else (cond a (At cs) Nowhere) (cond b (At cs) Nowhere)) (and_then (then_ends call.ends (character 41).ends) (cond o (At cs) Nowhere)) ≡ Refused
          → (c ≡ 40) × (call.ends cs ≡ Refused)
      by_tests true b o d e = absurd (cc e)
      by_tests false true o d e = absurd (cc e)
      by_tests false false false d e = absurd (cc e)
      by_tests false false true d e = (grind (arith, nat_tests), by_call (call.ends cs) e)

  -- so is the body, behind what leaves no fewer open
  body-refused : (ts : List ℕ) → (precedence_language 3 stands atoms operators).ends ts ≡ Refused → (cs : List ℕ) × Passes ts (40 ∷ cs) × (call.ends cs ≡ Refused)
  body-refused ts e =
      let r = precedence-refused 3 stands atoms operators atoms-further operators-further Passes passed ts e in
      elim r.part [
        | inl a ↦ by_rest r.rest r.passed a
        | inr o ↦ absurd (operators-never o.0 r.rest o.2)
      ]
    where
      by_rest : (rest : List ℕ) → Passes ts rest → atoms.ends rest ≡ Refused → (cs : List ℕ) × Passes ts (40 ∷ cs) × (call.ends cs ≡ Refused)
      by_rest [] p a = absurd (cc a)
      by_rest (c ∷ cs) p a = let o = opens c cs a in let s = o.0 in (cs, (rw s at p), o.1)

calls-go : (depth : ℕ) → Goes (call_language nested_formulas grammar depth).ends
calls-go zero = λ ts rest e. absurd (cc e)
calls-go (suc depth) = body-goes (call_language nested_formulas grammar depth) (calls-go depth)

least-open : (n : ℕ) (ts : List ℕ) → n ≤ most_open n ts
least-open n [] = omega arith
least-open n (c ∷ cs) = le-max_left n (most_open (open_behind c n) cs)

-- a call is refused only where as many are open at once as it may open, beside those that are already
refused-open : (depth : ℕ) (ts : List ℕ) → (call_language nested_formulas grammar depth).ends ts ≡ Refused → (n : ℕ) → n + depth ≤ most_open n ts
refused-open zero ts e n = let l = least-open n ts in omega (arith, l)
refused-open (suc depth) ts e n =
    let r = body-refused (call_language nested_formulas grammar depth) (calls-go depth) ts e in
    let p : most_open n (40 ∷ r.0) ≤ most_open n ts = r.1 n in
    let l : suc n + depth ≤ most_open (suc n) r.0 = refused-open depth r.0 r.2 (suc n) in
    let m : most_open (suc n) r.0 ≤ max n (most_open (suc n) r.0) = le-max_right n (most_open (suc n) r.0) in
    omega (arith, p, l, m)

pub refused-nested : (depth : ℕ) (ts : List ℕ) → (call_language nested_formulas grammar depth).ends ts ≡ Refused → depth ≤ nesting ts
refused-nested depth ts e = let l = refused-open depth ts e 0 in omega (arith, l)
