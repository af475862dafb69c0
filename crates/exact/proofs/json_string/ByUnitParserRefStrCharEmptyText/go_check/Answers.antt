use Rattle.exact.proofs.json_string.ByUnitParserRefStrCharEmptyText.go_check.Goals as goal

pub returns : goal.returns
returns c =
    let p = c.unit_by.ensures in
    record { ran = rw p.beginning at c.go_check.ensures.ran; lent = c.go_check.ensures.lent }
