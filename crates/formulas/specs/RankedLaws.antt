-- What is read by the operators of a list are just the formulas by their powers.
-- Main words: Sign, stands_in, languages_in, AreConnectives. Main laws: ranked-exactly, listed-answers. Read first: Ranked.antt, Truth.antt; Layers.antt, ListedLanguage.antt of chumsky_pratt.
use Rattle.std.proofs.Common.{◌≡◌, ℕ, zero, suc, ◌+◌, ◌*◌, ◌≤◌, ◌<◌, Bool, false, ◌&&◌, ◌||◌, nat_eq, List, [], ◌∷◌, refl, subst, arith}
use Rattle.std.specs.Prelude.{codes, Some, Result}
use Rattle.chumsky_input.specs.declared.stop.Stop.{Stop}
use Rattle.chumsky_parser.specs.Ending.{DoesNotEnd}
use Rattle.chumsky_parser.specs.declared.result.ParseResult.{ParseResult}
use Rattle.chumsky_primitive.specs.Literals.{equals-same, same-equals}
use Rattle.chumsky_primitive.specs.PrimitiveLanguage.{Equals}
use Rattle.chumsky_primitive.specs.declared.just.Just.{Just}
use Rattle.chumsky.specs.Accepted.{AnswersText, Exactly}
use Rattle.chumsky.specs.AcceptedLaws.{exactly-by_words}
use Rattle.chumsky_pratt.specs.declared.fixity.Associativity.TheVariants.{Left}
use Rattle.chumsky_pratt.specs.declared.fixity.Fixity.{Fixity}
use Rattle.chumsky_pratt.specs.declared.operands.Operands.{Operands}
use Rattle.chumsky_pratt.specs.declared.operator.Infix.{Infix}
use Rattle.chumsky_pratt.specs.Listed.{fixity_in}
use Rattle.chumsky_pratt.specs.ListedLanguage.{list_languages}
use Rattle.chumsky_pratt.specs.Operators.{infix_fixity, GivesInfix}
use Rattle.chumsky_pratt.specs.OperatorTrees.{power_after, IsPrefix, IsPostfix, HasBefore, SameSide}
use Rattle.chumsky_pratt.specs.Operating.{OperatorLanguages, operator_language}
use Rattle.chumsky_pratt.specs.PrecedenceLanguage.{precedence_language}
use Rattle.chumsky_pratt.specs.Layers.{IsLayered, AreLayered, power_before, IsOfPower, is_atom, is_prefixed, is_postfixed, is_infixed}
use Rattle.chumsky_pratt.specs.LayersLaws.{layers-value, layers-word}
use Rattle.formulas.specs.declared.ranked.Connective.{Connective}
use Rattle.formulas.specs.declared.ranked.Connective.TheVariants.{And, Or}
use Rattle.formulas.specs.Ranked.{joined, IsRanked, is_true, is_false, is_and, is_or, IsRankedFormula}
use Rattle.formulas.specs.Signs.{character, IsSign, sign, AreSigns, signs-apart, signs-end}
use Rattle.formulas.specs.Truth.{Truths, truths, truth_of, truth, truth-by, is-t, is-f, truth-alone}

-- what a connective gives
abbrev pub Gives : Connective → ℕ → Operands Bool → Bool → Type 0
Gives k = GivesInfix (λ a f b v. v ≡ joined k a b)

-- an operator of such a list
abbrev pub Sign : Type 0 → Type 0 → Type 0
Sign I E = Infix (Just ℕ I E) Connective Bool ℕ

module _ {I E : Type 0} where
  -- how the operators of a list stand, and their languages
  abbrev pub stands_in : List (Sign I E) → ℕ → Fixity
  stands_in = fixity_in (λ (p : Sign I E). infix_fixity p.associativity)

  abbrev pub languages_in : List (Sign I E) → OperatorLanguages ℕ Bool
  languages_in = list_languages (λ (p : Sign I E). operator_language (character p.parser.seq) (Gives p.folder))

  -- these two are an `&` and an `|`, from the left, with these powers
  pub record AreConnectives (x y : Sign I E) (and or : ℕ) : Type 0 where
    pub and_sign : x.parser.seq ≡ 38
    pub or_sign : y.parser.seq ≡ 124
    pub is_and : x.folder ≡ And
    pub is_or : y.folder ≡ Or
    pub and_stands : x.associativity ≡ Left and
    pub or_stands : y.associativity ≡ Left or

  module _ (x y : Sign I E) (and or : ℕ) (are : AreConnectives x y and or) (low : and < 65536) (low_or : or < 65536) where
    abbrev stands : ℕ → Fixity
    stands = stands_in (x ∷ y ∷ [])

    abbrev operators : OperatorLanguages ℕ Bool
    operators = languages_in (x ∷ y ∷ [])

    abbrev GivesAt : ℕ → List ℕ → Operands Bool × Bool → Type 0
    GivesAt i w p = (operators.operator i).stands_for w p

    gives-word : (i : ℕ) (w : List ℕ) (p : Operands Bool × Bool) → GivesAt i w p → (operators.operator i).word w
    gives-word zero w p g = g.1.0
    gives-word (suc zero) w p g = g.1.0
    gives-word (suc (suc i)) w p g = absurd g

    layered : AreLayered 2 stands 131070
    layered = record { each = each; low = omega arith }
      where
        each : (i : ℕ) → i < 2 → IsLayered 131070 (stands i)
        each zero l = rw are.and_stands (omega (arith, low), refl, refl)
        each (suc zero) l = rw are.or_stands (omega (arith, low_or), refl, refl)
        each (suc (suc i)) l = absurd (omega (arith, l))

    -- the powers of the expressions before each and after it
    and_before : power_before (stands 0) ≡ and * 2
    and_before = rw are.and_stands refl

    and_after : power_after (stands 0) ≡ and * 2 + 1
    and_after = rw are.and_stands refl

    or_before : power_before (stands 1) ≡ or * 2
    or_before = rw are.or_stands refl

    or_after : power_after (stands 1) ≡ or * 2 + 1
    or_after = rw are.or_stands refl

    no_prefix : (i : ℕ) → i < 2 → IsPrefix (stands i) → ⊥
    no_prefix zero l p = rw are.and_stands at p
    no_prefix (suc zero) l p = rw are.or_stands at p
    no_prefix (suc (suc i)) l p = absurd (omega (arith, l))

    no_postfix : (i : ℕ) → i < 2 → IsPostfix (stands i) → ⊥
    no_postfix zero l p = rw are.and_stands at p
    no_postfix (suc zero) l p = rw are.or_stands at p
    no_postfix (suc (suc i)) l p = absurd (omega (arith, l))

    expression : {least : ℕ} {w : List ℕ} {v : Bool} → IsOfPower 2 stands truth.stands_for GivesAt least w v → (n : ℕ) → n + n ≤ suc least → IsRanked and or n w v
    expression {w = w} {v = v} (is_atom i) n l = truth-by (IsRanked and or n) is_true is_false w v i
    expression (is_prefixed i o p g k) n l = absurd (no_prefix i o p)
    expression (is_postfixed i o p z k g) n l = absurd (no_postfix i o p)
    expression (is_infixed {u} {s} {w} {x = a} {y = b} {v} zero o p z k g m) n l =
        let t : s ≡ codes "&" = equals-same (codes "&") s (rw are.and_sign at g.1.0) in
        let q : v ≡ (a && b) = rw are.is_and at g.2 in
        rw (t, q) (is_and {least = n} (omega (arith, l, z, and_before)) (expression k and (omega (arith, and_before))) (expression m (suc and) (omega (arith, and_after))))
    expression (is_infixed {u} {s} {w} {x = a} {y = b} {v} (suc zero) o p z k g m) n l =
        let t : s ≡ codes "|" = equals-same (codes "|") s (rw are.or_sign at g.1.0) in
        let q : v ≡ (a || b) = rw are.is_or at g.2 in
        rw (t, q) (is_or {least = n} (omega (arith, l, z, or_before)) (expression k or (omega (arith, or_before))) (expression m (suc or) (omega (arith, or_after))))
    expression (is_infixed (suc (suc i)) o p z k g m) n l = absurd (omega (arith, o))

    ranked : {n : ℕ} {w : List ℕ} {v : Bool} → IsRanked and or n w v → (least : ℕ) → least ≤ n + n → IsOfPower 2 stands (λ w v. truth.word w) GivesAt least w v
    ranked is_true least l = is_atom is-t
    ranked is_false least l = is_atom is-f
    ranked (is_and {u} {w} {a} {b} z i k) least l =
        let s : Equals nat_eq (x.parser.seq ∷ []) (codes "&") = rw are.and_sign (same-equals (codes "&")) in
        let q : (a && b) ≡ joined x.folder a b = rw are.is_and refl in
        is_infixed {s = codes "&"} 0 (omega arith) (rw are.and_stands tt) (omega (arith, l, z, and_before)) (ranked i (power_before (stands 0)) (omega (arith, and_before)))
        (x.parser.seq, (s, refl), q) (ranked k (power_after (stands 0)) (omega (arith, and_after)))
    ranked (is_or {u} {w} {a} {b} z i k) least l =
        let s : Equals nat_eq (y.parser.seq ∷ []) (codes "|") = rw are.or_sign (same-equals (codes "|")) in
        let q : (a || b) ≡ joined y.folder a b = rw are.is_or refl in
        is_infixed {s = codes "|"} 1 (omega arith) (rw are.or_stands tt) (omega (arith, l, z, or_before)) (ranked i (power_before (stands 1)) (omega (arith, or_before)))
        (y.parser.seq, (s, refl), q) (ranked k (power_after (stands 1)) (omega (arith, or_after)))

    -- which characters the operators are
    abbrev sign_of : ℕ → ℕ
    sign_of zero = 38
    sign_of (suc i) = 124

    signs : AreSigns 2 stands truth operators sign_of
    signs = record { each = each; differ = differ; before = λ i l p. absurd (no_prefix i l p); after = λ i l b w rest e f. (tt, tt) }
      where
        each : (i : ℕ) → i < 2 → IsSign (sign_of i) (operators.operator i)
        each zero l = rw are.and_sign (sign 38 (Gives x.folder))
        each (suc zero) l = rw are.or_sign (sign 124 (Gives y.folder))
        each (suc (suc i)) l = absurd (omega (arith, l))

        differ : (i j : ℕ) → i < 2 → j < 2 → (i ≡ j → ⊥) → SameSide (stands i) (stands j) → nat_eq (sign_of i) (sign_of j) ≡ false
        differ zero zero l m n s = absurd (n refl)
        differ zero (suc j) l m n s = refl
        differ (suc i) zero l m n s = refl
        differ (suc i) (suc j) l m n s = absurd (n (omega (arith, l, m)))

    none_there : (i : ℕ) → i < 2 → HasBefore (stands i) → DoesNotEnd ((character (sign_of i)).ends [])
    none_there i l b = tt

    -- what is read of such a list is just what a formula comes to by these powers
    pub ranked-exactly : {Er : Type 0} {ts : List ℕ} {spare : Type 0} {result : Result (ParseResult Bool Er) Stop}
        → AnswersText Some (precedence_language 2 (stands_in (x ∷ y ∷ [])) truth (languages_in (x ∷ y ∷ []))) ts spare result → Exactly (IsRankedFormula and or) ts result
    unfolding precedence_language
    ranked-exactly {ts = ts} a =
        exactly-by_words (IsRankedFormula and or) a refl (signs-apart 2 stands truth operators sign_of signs truth-alone) (signs-end 2 stands truth operators sign_of signs [] (tt, tt) none_there)
        (λ v w s. expression (layers-value layered truth operators (λ w v x. x) (λ i w p g. g) ts v s) 0 (omega arith))
        (λ v i. layers-word layered truth operators (λ w v x. x) gives-word ts v (ranked i 0 (omega arith)))

-- what a parser of such atoms was given may be put in
pub listed-answers : (number : ℕ) (stands : ℕ → Fixity) (row : OperatorLanguages ℕ Bool) {Er : Type 0} {ts : List ℕ} {spare : Type 0} {result : Result (ParseResult Bool Er) Stop} (g : Truths)
    → g ≡ truths → AnswersText Some (precedence_language number stands (truth_of g) row) ts spare result → AnswersText Some (precedence_language number stands truth row) ts ⊥ result
listed-answers number stands row {ts = ts} {spare = spare} {result = result} g e a =
    let b = subst (λ h. AnswersText Some (precedence_language number stands (truth_of h) row) ts spare result) e a in
    record { output = b.output; accepted = b.accepted; decided = b.decided; answered = λ x. absurd x }
