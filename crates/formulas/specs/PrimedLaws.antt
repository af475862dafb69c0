-- What is read by a postfix operator and one between two operands are just the formulas with primes.
-- Main word: primed_of. Main law: primed-exactly. Read first: Primed.antt, Truth.antt; Layers.antt of chumsky_pratt.
use Rattle.std.proofs.Common.{◌≡◌, ℕ, zero, suc, ◌≤◌, ◌<◌, Bool, nat_eq, false, List, [], refl, subst, arith, ◌⊎◌, inl, inr}
use Rattle.std.specs.Prelude.{not, codes, Some, Result}
use Rattle.chumsky_input.specs.declared.stop.Stop.{Stop}
use Rattle.chumsky_parser.specs.ChoiceLanguage.{FailsOn}
use Rattle.chumsky_parser.specs.Ending.{DoesNotEnd}
use Rattle.chumsky_parser.specs.Language.{Language}
use Rattle.chumsky_parser.specs.declared.result.ParseResult.{ParseResult}
use Rattle.chumsky_primitive.specs.Literals.{equals-same, same-equals}
use Rattle.chumsky.specs.Accepted.{AnswersText, Exactly}
use Rattle.chumsky.specs.AcceptedLaws.{exactly-by_words}
use Rattle.chumsky_pratt.specs.declared.fixity.Associativity.{Associativity}
use Rattle.chumsky_pratt.specs.declared.fixity.Associativity.TheVariants.{Left}
use Rattle.chumsky_pratt.specs.declared.fixity.Fixity.{Fixity}
use Rattle.chumsky_pratt.specs.declared.operands.Operands.{Operands}
use Rattle.chumsky_pratt.specs.Operators.{postfix_fixity, infix_fixity, fixity_and, GivesPostfix}
use Rattle.chumsky_pratt.specs.OperatorTrees.{IsPrefix, HasBefore, SameSide}
use Rattle.chumsky_pratt.specs.Operating.{OperatorLanguages, operator_language, last_languages, and_languages}
use Rattle.chumsky_pratt.specs.PrecedenceLanguage.{precedence_language}
use Rattle.chumsky_pratt.specs.Layers.{IsLayered, AreLayered, IsOfPower, is_atom, is_prefixed, is_postfixed, is_infixed}
use Rattle.chumsky_pratt.specs.LayersLaws.{layers-value, layers-word}
use Rattle.formulas.specs.FormulaOperators.{GivesBoth}
use Rattle.formulas.specs.Primed.{IsPrimedPart, is_true, is_false, is_primed, IsPrimedFormula, one_part, is_and}
use Rattle.formulas.specs.Signs.{character, IsSign, sign, AreSigns, signs-apart, signs-end}
use Rattle.formulas.specs.Truth.{Truths, truths, truth_of, truth, truth-by, is-t, is-f, truth-alone}

-- what a `'` gives
abbrev pub GivesOpposite : ℕ → Operands Bool → Bool → Type 0
GivesOpposite = GivesPostfix (λ a f v. v ≡ not a)

-- what a parser of such formulas is given: its atoms, its operators, and how these stand
pub record Given : Type 0 where
  pub atoms : Truths
  pub prime : ℕ
  pub both : ℕ
  pub power : ℕ
  pub both_stand : Associativity

-- that of this one
abbrev pub given : Given
given = record { atoms = truths; prime = 39; both = 38; power = 2; both_stand = Left 1 }

abbrev stands_of : Given → ℕ → Fixity
stands_of g = fixity_and (postfix_fixity g.power) (λ i. infix_fixity g.both_stand)

abbrev operators_of : Given → OperatorLanguages ℕ Bool
operators_of g = and_languages (operator_language (character g.prime) GivesOpposite) (last_languages (operator_language (character g.both) GivesBoth))

-- what is read by precedence, of what is given
abbrev pub primed_of : Given → Language ℕ Bool
primed_of g = precedence_language 2 (stands_of g) (truth_of g.atoms) (operators_of g)

abbrev stands : ℕ → Fixity
stands = stands_of given

abbrev operators : OperatorLanguages ℕ Bool
operators = operators_of given

abbrev Gives : ℕ → List ℕ → Operands Bool × Bool → Type 0
Gives i w p = (operators.operator i).stands_for w p

gives-word : (i : ℕ) (w : List ℕ) (p : Operands Bool × Bool) → Gives i w p → (operators.operator i).word w
gives-word zero w p g = g.1.0
gives-word (suc i) w p g = g.1.0

layered : AreLayered 2 stands 4
layered = record { each = each; low = omega arith }
  where
    each : (i : ℕ) → i < 2 → IsLayered 4 (stands i)
    each zero l = refl
    each (suc i) l = (omega arith, refl, refl)

-- an expression of at least this power is a part; or a formula, where an `&` may stand in it
abbrev OfPower : ℕ → List ℕ → Bool → Type 0
OfPower least w v = IsPrimedPart w v ⊎ ((least ≤ 2) × IsPrimedFormula w v)

as_part : (least : ℕ) (w : List ℕ) (v : Bool) → 2 < least → OfPower least w v → IsPrimedPart w v
as_part least w v l (inl i) = i
as_part least w v l (inr i) = absurd (let k = i.0 in omega (arith, l, k))

as_formula : (least : ℕ) (w : List ℕ) (v : Bool) → OfPower least w v → IsPrimedFormula w v
as_formula least w v (inl i) = one_part i
as_formula least w v (inr i) = i.1

expression : {least : ℕ} {w : List ℕ} {v : Bool} → IsOfPower 2 stands IsPrimedPart Gives least w v → OfPower least w v
expression (is_atom i) = inl i
expression (is_prefixed zero l p g k) = absurd p
expression (is_prefixed (suc i) l p g k) = absurd p
expression (is_postfixed {u} {w} {x} zero l p n k g) =
    let s = equals-same (codes "'") w g.1.0 in
    let q = g.2 in
    inl (rw (s, q) (is_primed (as_part 4 u x (omega arith) (expression k))))
expression (is_postfixed (suc i) l p n k g) = absurd p
expression (is_infixed zero l p n k g m) = absurd p
expression (is_infixed {u} {s} {w} {x} {y} (suc i) l p n k g m) =
    let e = equals-same (codes "&") s g.1.0 in
    let q = g.2 in
    inr (n, rw (e, q) (is_and (as_formula 2 u x (expression k)) (as_part 3 w y (omega arith) (expression m))))

abbrev Expression : ℕ → List ℕ → Bool → Type 0
Expression = IsOfPower 2 stands (λ w v. truth.word w) Gives

part-of : {w : List ℕ} {v : Bool} → IsPrimedPart w v → (least : ℕ) → least ≤ 4 → Expression least w v
part-of is_true least l = is_atom is-t
part-of is_false least l = is_atom is-f
part-of (is_primed i) least l = is_postfixed {w = codes "'"} 0 (omega arith) tt l (part-of i 4 (omega arith)) (39, (same-equals (codes "'"), refl), refl)

formula-of : {w : List ℕ} {v : Bool} → IsPrimedFormula w v → (least : ℕ) → least ≤ 2 → Expression least w v
formula-of (one_part i) least l = part-of i least (omega (arith, l))
formula-of (is_and i k) least l =
    is_infixed {s = codes "&"} 1 (omega arith) tt l (formula-of i 2 (omega arith)) (38, (same-equals (codes "&"), refl), refl) (part-of k 3 (omega arith))

-- which characters the operators are
abbrev sign_of : ℕ → ℕ
sign_of zero = 39
sign_of (suc i) = 38

signs : AreSigns 2 stands truth operators sign_of
signs = record { each = each; differ = differ; before = before; after = λ i l b w rest e f. (tt, tt) }
  where
    each : (i : ℕ) → i < 2 → IsSign (sign_of i) (operators.operator i)
    each zero l = sign 39 GivesOpposite
    each (suc i) l = sign 38 GivesBoth

    differ : (i j : ℕ) → i < 2 → j < 2 → (i ≡ j → ⊥) → SameSide (stands i) (stands j) → nat_eq (sign_of i) (sign_of j) ≡ false
    differ zero zero l m n s = absurd (n refl)
    differ zero (suc j) l m n s = refl
    differ (suc i) zero l m n s = refl
    differ (suc i) (suc j) l m n s = absurd (n (omega (arith, l, m)))

    before : (i : ℕ) → i < 2 → IsPrefix (stands i) → FailsOn (character (sign_of i)) truth
    before zero l p = absurd p
    before (suc i) l p = absurd p

none_there : (i : ℕ) → i < 2 → HasBefore (stands i) → DoesNotEnd ((character (sign_of i)).ends [])
none_there zero l b = tt
none_there (suc i) l b = tt

module _ {Er : Type 0} {ts : List ℕ} {spare : Type 0} {result : Result (ParseResult Bool Er) Stop} where
  -- its output is just what a formula with primes comes to
  pub primed-exactly : (g : Given) → g ≡ given → AnswersText Some (primed_of g) ts spare result → Exactly IsPrimedFormula ts result
  unfolding precedence_language
  primed-exactly g e a =
      exactly-by_words IsPrimedFormula (subst (λ h. AnswersText Some (primed_of h) ts spare result) e a) refl (signs-apart 2 stands truth operators sign_of signs truth-alone)
      (signs-end 2 stands truth operators sign_of signs [] (tt, tt) none_there)
      (λ v w s. as_formula 0 ts v (expression (layers-value layered truth operators (truth-by IsPrimedPart is_true is_false) (λ i w p g. g) ts v s)))
      (λ v i. layers-word layered truth operators (λ w v x. x) gives-word ts v (formula-of i 0 (omega arith)))
