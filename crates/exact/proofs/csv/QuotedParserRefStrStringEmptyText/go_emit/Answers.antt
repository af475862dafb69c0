use Rattle.exact.proofs.csv.QuotedParserRefStrStringEmptyText.go_emit.Goals as goal

pub returns : goal.returns
returns c =
    let p = c.quoted_parser.ensures in
    let r = rw (p.other, p.first_quote, p.second_quote, p.at_least, p.at_most) at c.go_emit.ensures.ran in
    record { ran = rw (p.opening, p.closing, p.end) at r; lent = c.go_emit.ensures.lent }
