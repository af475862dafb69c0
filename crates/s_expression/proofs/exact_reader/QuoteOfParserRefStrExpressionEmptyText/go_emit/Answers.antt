use Rattle.s_expression.proofs.exact_reader.QuoteOfParserRefStrExpressionEmptyText.go_emit.Goals as goal

pub returns : goal.returns
returns g c =
    let q = c.quote_of.ensures in
    record { ran = rw (q.quote, q.item, q.at_least, q.at_most) at c.go_emit.ensures.ran; lent = c.go_emit.ensures.lent }
