use Rattle.examples.proofs.sections.HeadParserRefStrRefStrEmptyText.go_check.Goals as goal

pub returns : goal.returns
returns c =
    let p = c.head_parser.ensures in
    record { ran = rw (p.opening, p.closing) at c.go_check.ensures.ran; lent = c.go_check.ensures.lent }
