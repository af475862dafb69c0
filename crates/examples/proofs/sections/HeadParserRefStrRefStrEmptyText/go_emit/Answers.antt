use Rattle.examples.proofs.sections.HeadParserRefStrRefStrEmptyText.go_emit.Goals as goal

pub returns : goal.returns
returns c =
    let p = c.head_parser.ensures in
    record { ran = rw (p.opening, p.closing) at c.go_emit.ensures.ran; lent = c.go_emit.ensures.lent }
