use Rattle.exact.proofs.json_string.PieceParserRefStrCharEmptyText.go_check.Goals as goal

pub returns : goal.returns
returns c =
    let p = c.piece_parser.ensures in
    record { ran = rw p at c.go_check.ensures.ran; lent = c.go_check.ensures.lent }
