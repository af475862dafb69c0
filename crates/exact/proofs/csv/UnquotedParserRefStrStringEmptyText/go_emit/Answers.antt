use Rattle.exact.proofs.csv.UnquotedParserRefStrStringEmptyText.go_emit.Goals as goal

pub returns : goal.returns
returns c =
    let p = c.unquoted_parser.ensures in
    record { ran = rw (p.text_data, p.at_least, p.at_most, p.end) at c.go_emit.ensures.ran; lent = c.go_emit.ensures.lent }
