use Rattle.s_expression.proofs.exact_reader.ExpressionOfParserRefStrExpressionEmptyText.go_check.Goals as goal

pub returns : goal.returns
returns g c =
    let x = c.expression_of.ensures in
    record { ran = rw (x.list, x.quote) at c.go_check.ensures.ran; lent = c.go_check.ensures.lent }
