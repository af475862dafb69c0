use Rattle.exact.proofs.json.ValueOfParserRefStrJsonEmptyText.go_check.Goals as goal

pub returns : goal.returns
returns g c =
    let v = c.value_of.ensures in
    record { ran = rw (v.scalar, v.array, v.object) at c.go_check.ensures.ran; lent = c.go_check.ensures.lent }
