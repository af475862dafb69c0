-- What is read by precedence are just the formulas.
-- Main word: formulas_of. Main law: formula-exactly. Read first: Formula.antt, FormulaOperators.antt, Truth.antt.
use Rattle.std.proofs.Common.{◌≡◌, ℕ, Bool, false, List, [], refl, subst}
use Rattle.std.specs.Prelude.{Some, Result}
use Rattle.chumsky_input.specs.declared.stop.Stop.{Stop}
use Rattle.chumsky_parser.specs.Language.{Language}
use Rattle.chumsky_parser.specs.declared.result.ParseResult.{ParseResult}
use Rattle.chumsky.specs.Accepted.{AnswersText, Exactly}
use Rattle.chumsky.specs.AcceptedLaws.{exactly-by_words}
use Rattle.chumsky_pratt.specs.declared.fixity.Associativity.{Associativity}
use Rattle.chumsky_pratt.specs.declared.fixity.Associativity.TheVariants.{Left}
use Rattle.chumsky_pratt.specs.Operators.{prefix_fixity, infix_fixity, fixity_and}
use Rattle.chumsky_pratt.specs.Operating.{operator_language, last_languages, and_languages}
use Rattle.chumsky_pratt.specs.PrecedenceLanguage.{precedence_language}
use Rattle.formulas.specs.Formula.{IsPartOf, is_true, is_false, IsFormula}
use Rattle.formulas.specs.Signs.{character}
use Rattle.formulas.specs.Truth.{Truths, truths, truth_of, truth, truth-by, is-t, is-f, truth-alone, truth-begins}
use Rattle.formulas.specs.FormulaOperators.{GivesNot, GivesBoth, GivesOne, formula-given, AreAtoms, formula-word, BeginsApart, formula-apart, formula-ends}

-- it begins with no operator, and each may follow it
pub truth-apart : BeginsApart truth
truth-apart = record { atom = truth-alone; before = truth-begins 33 refl refl; and_after = λ w rest e f. (tt, tt); or_after = λ w rest e f. (tt, tt) }

-- what a parser of formulas is given: its atoms, its operators, and how these stand
pub record Given : Type 0 where
  pub atoms : Truths
  pub opposite : ℕ
  pub both : ℕ
  pub one : ℕ
  pub power : ℕ
  pub both_stand : Associativity
  pub one_stands : Associativity

-- that of this one
abbrev pub given : Given
given = record { atoms = truths; opposite = 33; both = 38; one = 124; power = 3; both_stand = Left 2; one_stands = Left 1 }

-- what is read by precedence, of what is given
abbrev pub formulas_of : Given → Language ℕ Bool
formulas_of g =
    precedence_language 3 (fixity_and (prefix_fixity g.power) (fixity_and (infix_fixity g.both_stand) (λ i. infix_fixity g.one_stands)))
    (truth_of g.atoms)
    (and_languages (operator_language (character g.opposite) GivesNot) (and_languages (operator_language (character g.both) GivesBoth) (last_languages (operator_language (character g.one) GivesOne))))

-- a `t` and an `f` are all atoms of formulas without brackets
atoms : AreAtoms false truth.word
atoms = record { holds = is-t; fails = is-f; nests = λ w a b i. absurd (cc b) }

module _ {Er : Type 0} {ts : List ℕ} {spare : Type 0} {result : Result (ParseResult Bool Er) Stop} where
  -- its output is just what a formula comes to
  pub formula-exactly : (g : Given) → g ≡ given → AnswersText Some (formulas_of g) ts spare result → Exactly IsFormula ts result
  unfolding precedence_language
  formula-exactly g e a =
      exactly-by_words IsFormula (subst (λ h. AnswersText Some (formulas_of h) ts spare result) e a) refl (formula-apart truth truth-apart) (formula-ends truth truth-apart [] (tt, tt) (tt, tt))
      (λ v w s. formula-given false truth (truth-by (IsPartOf false) is_true is_false) ts v s) (λ v i. formula-word false truth atoms ts v i)
