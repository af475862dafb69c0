use Rattle.exact.proofs.json_string.ByUnitParserRefStrCharEmptyText.go_emit.Goals as goal

pub returns : goal.returns
returns c =
    let p = c.unit_by.ensures in
    record { ran = rw p.beginning at c.go_emit.ensures.ran; lent = c.go_emit.ensures.lent }
