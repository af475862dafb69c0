use Rattle.s_expression.proofs.exact_reader.ListOfParserRefStrExpressionEmptyText.go_check.Goals as goal

pub returns : goal.returns
returns g c =
    let l = c.list_of.ensures in
    let r = rw (l.item, l.at_least, l.at_most) at c.go_check.ensures.ran in
    record { ran = rw (l.opening, l.closing) at r; lent = c.go_check.ensures.lent }
