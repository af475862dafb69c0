use Rattle.examples.proofs.sections.EntryParserRefStrTuple2RefStrRefStrEmptyText.go_emit.Goals as goal

pub returns : goal.returns
returns c =
    record { ran = rw c.entry_parser.ensures at c.go_emit.ensures.ran; lent = c.go_emit.ensures.lent }
