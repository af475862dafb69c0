-- Expressions of `!`, `&` and `|` over any atoms are formulas of these, and each formula is one.
-- Main words: operators, AreAtoms, BeginsApart. Main laws: formula-given, formula-valued, formula-word, formula-apart, formula-ends.
-- Read first: Formula.antt, Signs.antt; Layers.antt of chumsky_pratt.
use Rattle.std.proofs.Common.{◌≡◌, ℕ, zero, suc, ◌<◌, ◌≤◌, Bool, true, false, ◌&&◌, ◌||◌, nat_eq, List, ◌++◌, refl, arith, ◌⊎◌, inl, inr}
use Rattle.std.specs.Prelude.{not, codes}
use Rattle.chumsky_parser.specs.ChoiceLanguage.{FailsOn}
use Rattle.chumsky_parser.specs.Ending.{DoesNotEnd}
use Rattle.chumsky_parser.specs.Language.{Language}
use Rattle.chumsky_parser.specs.SequenceLanguage.{MayFollow}
use Rattle.chumsky_primitive.specs.Literals.{equals-same, same-equals}
use Rattle.chumsky_pratt.specs.declared.fixity.Fixity.{Fixity}
use Rattle.chumsky_pratt.specs.declared.fixity.Fixity.TheVariants.{Prefix, Infix}
use Rattle.chumsky_pratt.specs.declared.operands.Operands.{Operands}
use Rattle.chumsky_pratt.specs.declared.operands.Operands.TheVariants.{After, Before, Around}
use Rattle.chumsky_pratt.specs.Operators.{fixity_and, GivesPrefix, GivesInfix}
use Rattle.chumsky_pratt.specs.OperatorTrees.{IsPrefix, HasBefore, SameSide}
use Rattle.chumsky_pratt.specs.Operating.{OperatorLanguages, operator_language, last_languages, and_languages}
use Rattle.chumsky_pratt.specs.PrecedenceLanguage.{precedence_language}
use Rattle.chumsky_pratt.specs.Layers.{IsLayered, AreLayered, IsOfPower, is_atom, is_prefixed, is_postfixed, is_infixed}
use Rattle.chumsky_pratt.specs.LayersLaws.{layers-value, layers-valued, layers-word}
use Rattle.formulas.specs.Formula.{IsPartOf, is_true, is_false, in_brackets, is_not, IsProductOf, one_part, is_and, IsFormulaOf, one_product, is_or}
use Rattle.formulas.specs.Signs.{character, IsSign, sign, AreSigns, signs-apart, signs-end}

-- how `!`, `&` and `|` stand
abbrev pub stands : ℕ → Fixity
stands = fixity_and (Prefix 6) (fixity_and (Infix 4 5 true) (λ i. Infix 2 3 true))

-- what they give
abbrev pub GivesNot : ℕ → Operands Bool → Bool → Type 0
GivesNot = GivesPrefix (λ f a v. v ≡ not a)

abbrev pub GivesBoth : ℕ → Operands Bool → Bool → Type 0
GivesBoth = GivesInfix (λ a f b v. v ≡ (a && b))

abbrev pub GivesOne : ℕ → Operands Bool → Bool → Type 0
GivesOne = GivesInfix (λ a f b v. v ≡ (a || b))

abbrev pub operators : OperatorLanguages ℕ Bool
operators = and_languages (operator_language (character 33) GivesNot) (and_languages (operator_language (character 38) GivesBoth) (last_languages (operator_language (character 124) GivesOne)))

-- which characters they are
abbrev pub sign_of : ℕ → ℕ
sign_of zero = 33
sign_of (suc zero) = 38
sign_of (suc (suc i)) = 124

-- what a word of one gives for operands
abbrev Gives : ℕ → List ℕ → Operands Bool × Bool → Type 0
Gives i w p = (operators.operator i).stands_for w p

gives-word : (i : ℕ) (w : List ℕ) (p : Operands Bool × Bool) → Gives i w p → (operators.operator i).word w
gives-word zero w p g = g.1.0
gives-word (suc zero) w p g = g.1.0
gives-word (suc (suc i)) w p g = g.1.0

infix-given : (join : Bool → Bool → Bool) (c : ℕ) (x : Operands Bool) → (v : Bool) × GivesInfix (λ a (f : ℕ) b v. v ≡ join a b) c x v
infix-given join c (After a) = (a, refl)
infix-given join c (Before a) = (a, refl)
infix-given join c (Around a b) = (join a b, refl)

not-given : (x : Operands Bool) → (v : Bool) × GivesNot 33 x v
not-given (After a) = (not a, refl)
not-given (Before a) = (a, refl)
not-given (Around a b) = (a, refl)

word-gives : (i : ℕ) (w : List ℕ) (x : Operands Bool) → (operators.operator i).word w → (v : Bool) × Gives i w (x, v)
word-gives zero w x e = let g = not-given x in (g.0, (33, (e, refl), g.1))
word-gives (suc zero) w x e = let g = infix-given (λ a b. a && b) 38 x in (g.0, (38, (e, refl), g.1))
word-gives (suc (suc i)) w x e = let g = infix-given (λ a b. a || b) 124 x in (g.0, (124, (e, refl), g.1))

layered : AreLayered 3 stands 4
layered = record { each = each; low = omega arith }
  where
    each : (i : ℕ) → i < 3 → IsLayered 4 (stands i)
    each zero l = omega arith
    each (suc zero) l = (omega arith, refl, refl)
    each (suc (suc i)) l = (omega arith, refl, refl)

module _ (brackets : Bool) where
  -- an expression of at least this power is a part; a product, where an `&` may stand in it; or a formula, where an `|` may
  abbrev OfPower : ℕ → List ℕ → Bool → Type 0
  OfPower least w v = IsPartOf brackets w v ⊎ (((least ≤ 4) × IsProductOf brackets w v) ⊎ ((least ≤ 2) × IsFormulaOf brackets w v))

  as_part : (least : ℕ) (w : List ℕ) (v : Bool) → 4 < least → OfPower least w v → IsPartOf brackets w v
  as_part least w v l (inl i) = i
  as_part least w v l (inr (inl i)) = absurd (let k = i.0 in omega (arith, l, k))
  as_part least w v l (inr (inr i)) = absurd (let k = i.0 in omega (arith, l, k))

  as_product : (least : ℕ) (w : List ℕ) (v : Bool) → 2 < least → OfPower least w v → IsProductOf brackets w v
  as_product least w v l (inl i) = one_part i
  as_product least w v l (inr (inl i)) = i.1
  as_product least w v l (inr (inr i)) = absurd (let k = i.0 in omega (arith, l, k))

  as_formula : (least : ℕ) (w : List ℕ) (v : Bool) → OfPower least w v → IsFormulaOf brackets w v
  as_formula least w v (inl i) = one_product (one_part i)
  as_formula least w v (inr (inl i)) = one_product i.1
  as_formula least w v (inr (inr i)) = i.1

  expression : {least : ℕ} {w : List ℕ} {v : Bool} → IsOfPower 3 stands (IsPartOf brackets) Gives least w v → OfPower least w v
  expression (is_atom i) = inl i
  expression (is_prefixed {u} {w} {x} zero l p g k) =
      let s = equals-same (codes "!") u g.1.0 in
      let q = g.2 in
      inl (rw (s, q) (is_not (as_part 6 w x (omega arith) (expression k))))
  expression (is_prefixed (suc zero) l p g k) = absurd p
  expression (is_prefixed (suc (suc i)) l p g k) = absurd p
  expression (is_postfixed zero l p n k g) = absurd p
  expression (is_postfixed (suc zero) l p n k g) = absurd p
  expression (is_postfixed (suc (suc i)) l p n k g) = absurd p
  expression (is_infixed zero l p n k g m) = absurd p
  expression (is_infixed {u} {s} {w} {x} {y} (suc zero) l p n k g m) =
      let e = equals-same (codes "&") s g.1.0 in
      let q = g.2 in
      inr (inl (n, rw (e, q) (is_and (as_product 4 u x (omega arith) (expression k)) (as_part 5 w y (omega arith) (expression m)))))
  expression (is_infixed {u} {s} {w} {x} {y} (suc (suc i)) l p n k g m) =
      let e = equals-same (codes "|") s g.1.0 in
      let q = g.2 in
      inr (inr (n, rw (e, q) (is_or (as_formula 2 u x (expression k)) (as_product 3 w y (omega arith) (expression m)))))

  -- these are what atoms have to be
  pub record AreAtoms (IsAtom : List ℕ → Type 0) : Type 0 where
    pub holds : IsAtom (codes "t")
    pub fails : IsAtom (codes "f")
    pub nests : (w : List ℕ) (a : Bool) → brackets ≡ true → IsFormulaOf brackets w a → IsAtom (codes "(" ++ (w ++ codes ")"))

  module _ {IsAtom : List ℕ → Type 0} (are : AreAtoms IsAtom) where
    abbrev Expression : ℕ → List ℕ → Bool → Type 0
    Expression = IsOfPower 3 stands (λ w v. IsAtom w) Gives

    part-of : {w : List ℕ} {v : Bool} → IsPartOf brackets w v → (least : ℕ) → Expression least w v
    part-of is_true least = is_atom are.holds
    part-of is_false least = is_atom are.fails
    part-of (in_brackets {w} {a} b i) least = is_atom (are.nests w a b i)
    part-of (is_not i) least = is_prefixed {u = codes "!"} 0 (omega arith) tt (33, (same-equals (codes "!"), refl), refl) (part-of i 6)

    product-of : {w : List ℕ} {v : Bool} → IsProductOf brackets w v → (least : ℕ) → least ≤ 4 → Expression least w v
    product-of (one_part i) least l = part-of i least
    product-of (is_and i k) least l = is_infixed {s = codes "&"} 1 (omega arith) tt l (product-of i 4 (omega arith)) (38, (same-equals (codes "&"), refl), refl) (part-of k 5)

    formula-of : {w : List ℕ} {v : Bool} → IsFormulaOf brackets w v → (least : ℕ) → least ≤ 2 → Expression least w v
    formula-of (one_product i) least l = product-of i least (omega (arith, l))
    formula-of (is_or i k) least l = is_infixed {s = codes "|"} 2 (omega arith) tt l (formula-of i 2 (omega arith)) (124, (same-equals (codes "|"), refl), refl) (product-of k 3 (omega arith))

  module _ (A : Language ℕ Bool) where
    abbrev formulas : Language ℕ Bool
    formulas = precedence_language 3 stands A operators

    -- what an expression stands for is what the formula comes to, where what each atom does is a part
    pub formula-given : ((w : List ℕ) (v : Bool) → A.stands_for w v → IsPartOf brackets w v) → (w : List ℕ) (v : Bool) → formulas.stands_for w v → IsFormulaOf brackets w v
    formula-given a w v s = as_formula 0 w v (expression (layers-value layered A operators a (λ i w p g. g) w v s))

    -- each expression is a formula, where each atom is a part
    pub formula-valued : ((w : List ℕ) → A.word w → (v : Bool) × IsPartOf brackets w v) → (w : List ℕ) → formulas.word w → (v : Bool) × IsFormulaOf brackets w v
    formula-valued a w s = let r = layers-valued layered A operators a word-gives w s in (r.0, as_formula 0 w r.0 (expression r.1))

    -- and each formula is an expression
    pub formula-word : AreAtoms A.word → (w : List ℕ) (v : Bool) → IsFormulaOf brackets w v → formulas.word w
    formula-word are w v i = layers-word layered A operators (λ w v x. x) gives-word w v (formula-of are i 0 (omega arith))

-- an `&` or an `|`, which go on with a formula, are not there
abbrev pub EndsThere : List ℕ → Type 0
EndsThere rest = DoesNotEnd ((character 38).ends rest) × DoesNotEnd ((character 124).ends rest)

module _ (A : Language ℕ Bool) where
  -- atoms are taken whole, none begins with a `!`, and an operator may follow each
  pub record BeginsApart : Type 0 where
    pub atom : A.unambiguous
    pub before : FailsOn (character 33) A
    pub and_after : MayFollow A (character 38)
    pub or_after : MayFollow A (character 124)

  signs : BeginsApart → AreSigns 3 stands A operators sign_of
  signs a = record { each = each; differ = differ; before = before; after = after }
    where
      each : (i : ℕ) → i < 3 → IsSign (sign_of i) (operators.operator i)
      each zero l = sign 33 GivesNot
      each (suc zero) l = sign 38 GivesBoth
      each (suc (suc i)) l = sign 124 GivesOne

      differ : (i j : ℕ) → i < 3 → j < 3 → (i ≡ j → ⊥) → SameSide (stands i) (stands j) → nat_eq (sign_of i) (sign_of j) ≡ false
      differ zero zero l m n s = absurd (n refl)
      differ zero (suc zero) l m n s = refl
      differ zero (suc (suc j)) l m n s = refl
      differ (suc zero) zero l m n s = refl
      differ (suc zero) (suc zero) l m n s = absurd (n refl)
      differ (suc zero) (suc (suc j)) l m n s = refl
      differ (suc (suc i)) zero l m n s = refl
      differ (suc (suc i)) (suc zero) l m n s = refl
      differ (suc (suc i)) (suc (suc j)) l m n s = absurd (n (omega (arith, l, m)))

      before : (i : ℕ) → i < 3 → IsPrefix (stands i) → FailsOn (character (sign_of i)) A
      before zero l p = a.before
      before (suc zero) l p = absurd p
      before (suc (suc i)) l p = absurd p

      after : (i : ℕ) → i < 3 → HasBefore (stands i) → MayFollow A (character (sign_of i))
      after zero l b = absurd b
      after (suc zero) l b = a.and_after
      after (suc (suc i)) l b = a.or_after

  -- so each formula is taken whole
  pub formula-apart : BeginsApart → (precedence_language 3 stands A operators).unambiguous
  unfolding precedence_language
  formula-apart a = signs-apart 3 stands A operators sign_of (signs a) a.atom

  pub formula-ends : BeginsApart → (rest : List ℕ) → A.follow rest → EndsThere rest → (precedence_language 3 stands A operators).follow rest
  unfolding precedence_language
  formula-ends a rest f n = signs-end 3 stands A operators sign_of (signs a) rest f none
    where
      none : (i : ℕ) → i < 3 → HasBefore (stands i) → DoesNotEnd ((character (sign_of i)).ends rest)
      none zero l b = absurd b
      none (suc zero) l b = n.0
      none (suc (suc i)) l b = n.1
