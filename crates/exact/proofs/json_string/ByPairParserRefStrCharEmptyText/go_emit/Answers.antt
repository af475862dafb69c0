use Rattle.exact.proofs.json_string.ByPairParserRefStrCharEmptyText.go_emit.Goals as goal

pub returns : goal.returns
returns c =
    let p = c.pair_parser.ensures in
    record { ran = rw (p.high, p.low) at c.go_emit.ensures.ran; lent = c.go_emit.ensures.lent }
