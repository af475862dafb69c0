-- Operators and expressions in the words of their errors and of their states.
use Rattle.std.specs.Prelude.{ℕ}
use Rattle.chumsky_input.specs.declared.error.Error as error_trait
use Rattle.chumsky_input.specs.declared.inspector.Inspector as inspector_trait
use Rattle.chumsky_input.specs.Words.{Does}
use Rattle.chumsky_pratt.specs.declared.row.Found.{Found}
use Rattle.chumsky_pratt.specs.Operators.{OperatorSyntax, ReadsAnd}
use Rattle.chumsky_pratt.specs.Expression.{Syntax, Expression}

module _ {I Tok Sp Er St Mk Cx A B : Type 0} where
  -- an operator before others is read by its index
  abbrev pub reads_and : Does I Tok Sp Er St Mk Cx A → (ℕ → Does I Tok Sp Er St Mk Cx B) → ℕ → Does I Tok Sp Er St Mk Cx (Found A B)
  reads_and here there i errors states = ReadsAnd (here errors states) (λ j. there j errors states) i

module _ {I Tok Sp Er St Mk Cx F V : Type 0} (atom : Does I Tok Sp Er St Mk Cx V) (operators : OperatorSyntax I Tok Sp Er St Mk Cx F V)
    (errors : error_trait.Ghosts Er I Tok Sp) (states : inspector_trait.Ghosts St I Mk Tok Sp) where
  -- of what expressions are made
  abbrev pub syntax_of : Syntax Tok Cx states.Seen states.Marked errors.Seen F V
  syntax_of =
      record {
        mark = states.mark;
        back = states.back;
        safe = states.takes_no_memory;
        atom = atom errors states;
        number = operators.number;
        stands = operators.stands;
        reads = λ i. operators.reads i errors states;
        gives = operators.gives states;
      }

module _ {I Tok Sp Er St Mk Cx F V : Type 0} (atom : Does I Tok Sp Er St Mk Cx V) (operators : OperatorSyntax I Tok Sp Er St Mk Cx F V) where
  -- an expression of any power
  abbrev pub DoesExpression : Does I Tok Sp Er St Mk Cx V
  DoesExpression errors states = Expression (syntax_of atom operators errors states) 0
