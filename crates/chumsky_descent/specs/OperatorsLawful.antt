-- What operators have to be, so that expressions of them are lawful where their atoms are: in the body of a function that calls itself
-- an atom may be a call in brackets.
-- Main words: LawfulOperator, LawfulOperators. Main laws: prefix-lawful, postfix-lawful, infix-lawful, last-lawful, and-lawful, pratt-lawful. Read first: Lawful.antt; Operating.antt of chumsky_pratt.
use Rattle.std.proofs.Common.{◌≡◌, ℕ, sym, ◌∙◌}
use Rattle.chumsky_input.specs.Outcome.{Meaning, EndsAfterStart, Agreeing}
use Rattle.chumsky_parser.specs.Language.{Language}
use Rattle.chumsky_parser.specs.Showing.{GivesShown, OnlyAnswers}
use Rattle.chumsky_pratt.specs.declared.operands.Operands.{Operands}
use Rattle.chumsky_pratt.specs.declared.operands.Operands.TheVariants.{After, Before, Around}
use Rattle.chumsky_pratt.specs.Operators.{GivesPrefix, GivesPostfix, GivesInfix, OnlyOne, Unshown, unshown-one, GivesAnd, gives_and-one, SameAnd, ReadsAnd, reads-ends, reads-agree}
use Rattle.chumsky_pratt.specs.Expression.{Syntax, Expression}
use Rattle.chumsky_pratt.specs.ExpressionLaws.{SameExpression, expression-end, expression-agree}
use Rattle.chumsky_pratt.specs.Operating.{OperatesAs, operator_language, OperatorLanguages, OperateAs, last_languages, and_languages}
use Rattle.chumsky_pratt.specs.OperatingLaws.{operator-operates, last-operates, row-operates}
use Rattle.chumsky_pratt.specs.PrecedenceLanguage.{precedence_language}
use Rattle.chumsky_pratt.specs.PrecedenceLanguageLaws.{precedence-accepts}
use Rattle.chumsky_descent.specs.Lawful.{AnyTwo, loosely, Lawful}

-- no answer of reading the operator ends before its start, two agree, one value is given for it and its operands, and what is said of it holds
pub record LawfulOperator {Tok Cx St Er F V : Type 0} (reading : Meaning Tok Cx St Er F) (gives : GivesShown Tok Cx St (F × Operands V) V) (l : Language Tok (Operands V × V)) : Type 0 where
  pub ends : EndsAfterStart reading
  pub agrees : Agreeing AnyTwo reading reading
  pub one : OnlyAnswers gives
  pub operates : OperatesAs reading gives l

-- the same of operators in a row, by their index
pub record LawfulOperators {Tok Cx St Er F V : Type 0} (reads : ℕ → Meaning Tok Cx St Er F) (gives : GivesShown Tok Cx St (F × Operands V) V) (row : OperatorLanguages Tok V) : Type 0 where
  pub ends : (i : ℕ) → EndsAfterStart (reads i)
  pub agrees : (i : ℕ) → Agreeing AnyTwo (reads i) (reads i)
  pub one : OnlyAnswers gives
  pub operate : OperateAs reads gives row

module _ {O W : Type 0} where
  -- of one value for an operator and its own operands there is one for any operands
  prefix_one : (gives : W → O → O → Type 0) → ((w : W) (a z u : O) → gives w a z → gives w a u → z ≡ u) → OnlyOne (GivesPrefix gives)
  prefix_one gives one w (After a) z u m n = one w a z u m n
  prefix_one gives one w (Before a) z u m n = m ∙ sym n
  prefix_one gives one w (Around a b) z u m n = m ∙ sym n

  postfix_one : (gives : O → W → O → Type 0) → ((a : O) (w : W) (z u : O) → gives a w z → gives a w u → z ≡ u) → OnlyOne (GivesPostfix gives)
  postfix_one gives one w (After a) z u m n = m ∙ sym n
  postfix_one gives one w (Before a) z u m n = one a w z u m n
  postfix_one gives one w (Around a b) z u m n = m ∙ sym n

  infix_one : (gives : O → W → O → O → Type 0) → ((a : O) (w : W) (b z u : O) → gives a w b z → gives a w b u → z ≡ u) → OnlyOne (GivesInfix gives)
  infix_one gives one w (After a) z u m n = m ∙ sym n
  infix_one gives one w (Before a) z u m n = m ∙ sym n
  infix_one gives one w (Around a b) z u m n = one a w b z u m n

module _ {Tok Cx St Er W O spare : Type 0} {part : Meaning Tok Cx St Er W} {L : Language Tok W} (p : Lawful spare part L) where
  -- an operator whose folder gives one value for what was read and its operands
  operator_lawful : (gives : W → Operands O → O → Type 0) → OnlyOne gives → LawfulOperator part (Unshown gives) (operator_language L gives)
  operator_lawful gives one = record { ends = p.ends; agrees = p.agrees; one = unshown-one gives one; operates = operator-operates gives p.accepts }

  -- `prefix_by(power, part, folder)`, `postfix_by` and `infix_by`
  pub prefix-lawful : {gives : W → O → O → Type 0} → ((w : W) (a z u : O) → gives w a z → gives w a u → z ≡ u)
      → LawfulOperator part (Unshown (GivesPrefix gives)) (operator_language L (GivesPrefix gives))
  prefix-lawful {gives} one = operator_lawful (GivesPrefix gives) (prefix_one gives one)

  pub postfix-lawful : {gives : O → W → O → Type 0} → ((a : O) (w : W) (z u : O) → gives a w z → gives a w u → z ≡ u)
      → LawfulOperator part (Unshown (GivesPostfix gives)) (operator_language L (GivesPostfix gives))
  postfix-lawful {gives} one = operator_lawful (GivesPostfix gives) (postfix_one gives one)

  pub infix-lawful : {gives : O → W → O → O → Type 0} → ((a : O) (w : W) (b z u : O) → gives a w b z → gives a w b u → z ≡ u)
      → LawfulOperator part (Unshown (GivesInfix gives)) (operator_language L (GivesInfix gives))
  infix-lawful {gives} one = operator_lawful (GivesInfix gives) (infix_one gives one)

module _ {Tok Cx St Er A V : Type 0} {here : Meaning Tok Cx St Er A} {ga : GivesShown Tok Cx St (A × Operands V) V} {l : Language Tok (Operands V × V)} (h : LawfulOperator here ga l) where
  -- the last operator of a row
  pub last-lawful : LawfulOperators (λ i. here) ga (last_languages l)
  last-lawful = record { ends = λ i. h.ends; agrees = λ i. h.agrees; one = h.one; operate = last-operates h.operates }

  -- an operator before others
  pub and-lawful : {B : Type 0} {there : ℕ → Meaning Tok Cx St Er B} {gb : GivesShown Tok Cx St (B × Operands V) V} {others : OperatorLanguages Tok V}
      → LawfulOperators there gb others → LawfulOperators (ReadsAnd here there) (GivesAnd ga gb) (and_languages l others)
  and-lawful {B} {there} {gb} {others} k = record {
    ends = reads-ends here there h.ends k.ends;
    agrees = λ i. loosely (SameAnd AnyTwo AnyTwo) (reads-agree AnyTwo AnyTwo here there h.agrees k.agrees i);
    one = gives_and-one ga gb h.one k.one;
    operate = row-operates h.operates k.operate;
  }

module _ {Tok Cx St Mk Er F V spare : Type 0} {s : Syntax Tok Cx St Mk Er F V} {A : Language Tok V} {row : OperatorLanguages Tok V} where
  -- `atom.pratt(operators)`
  pub pratt-lawful : Lawful spare s.atom A → LawfulOperators s.reads s.gives row → Lawful spare (Expression s 0) (precedence_language s.number s.stands A row)
  pratt-lawful a r = record {
    ends = expression-end s a.ends r.ends 0;
    agrees = loosely (SameExpression AnyTwo AnyTwo s.gives) (expression-agree s AnyTwo AnyTwo r.one a.agrees r.agrees 0);
    accepts = precedence-accepts a.ends r.ends a.accepts r.operate;
  }
