use Rattle.exact.proofs.json.ArrayOfParserRefStrVecJsonEmptyText.go_emit.Goals as goal

pub returns : goal.returns
returns g c =
    let l = c.list_of.ensures in
    let r = rw (l.item, l.comma, l.opening, l.closing) at c.go_emit.ensures.ran in
    record { ran = rw (l.at_least, l.at_most, l.leading, l.trailing) at r; lent = c.go_emit.ensures.lent }
