use Rattle.examples.proofs.sections.HeadedParserRefStrTuple2RefStrSectionEmptyText.go_emit.Goals as goal

pub returns : goal.returns
returns c =
    let p = c.headed_parser.ensures in
    record { ran = rw (p.at_least, p.at_most) at c.go_emit.ensures.ran; lent = c.go_emit.ensures.lent }
