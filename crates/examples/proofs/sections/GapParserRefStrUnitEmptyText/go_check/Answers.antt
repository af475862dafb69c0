use Rattle.examples.proofs.sections.GapParserRefStrUnitEmptyText.go_check.Goals as goal

pub returns : goal.returns
returns c =
    let p = c.gap_parser.ensures in
    record { ran = rw (p.at_least, p.at_most) at c.go_check.ensures.ran; lent = c.go_check.ensures.lent }
