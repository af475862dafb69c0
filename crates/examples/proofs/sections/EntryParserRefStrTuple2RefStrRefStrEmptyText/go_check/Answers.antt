use Rattle.examples.proofs.sections.EntryParserRefStrTuple2RefStrRefStrEmptyText.go_check.Goals as goal

pub returns : goal.returns
returns c =
    record { ran = rw c.entry_parser.ensures at c.go_check.ensures.ran; lent = c.go_check.ensures.lent }
