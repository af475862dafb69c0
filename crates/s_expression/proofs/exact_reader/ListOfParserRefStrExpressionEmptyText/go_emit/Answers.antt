use Rattle.s_expression.proofs.exact_reader.ListOfParserRefStrExpressionEmptyText.go_emit.Goals as goal

pub returns : goal.returns
returns g c =
    let l = c.list_of.ensures in
    let r = rw (l.item, l.at_least, l.at_most) at c.go_emit.ensures.ran in
    record { ran = rw (l.opening, l.closing) at r; lent = c.go_emit.ensures.lent }
