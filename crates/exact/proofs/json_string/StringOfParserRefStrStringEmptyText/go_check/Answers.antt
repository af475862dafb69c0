use Rattle.exact.proofs.json_string.StringOfParserRefStrStringEmptyText.go_check.Goals as goal

pub returns : goal.returns
returns g c =
    let q = c.quoted.ensures in
    let r = rw (q.piece, q.at_least, q.at_most) at c.go_check.ensures.ran in
    record { ran = rw (q.opening, q.closing) at r; lent = c.go_check.ensures.lent }
