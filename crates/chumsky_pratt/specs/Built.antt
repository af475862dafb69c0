-- Rows of operators, as they are built.
use Rattle.chumsky_pratt.specs.declared.row.LastOperator.{LastOperator}
use Rattle.chumsky_pratt.specs.declared.row.OperatorAnd.{OperatorAnd}

abbrev pub last_operator : {T : Type 0} → T → LastOperator T
last_operator operator = record { operator = operator }

abbrev pub and_operators : {T R : Type 0} → T → R → OperatorAnd T R
and_operators operator others = record { operator = operator; others = others }
