use Rattle.exact.proofs.json.ScalarOfParserRefStrJsonEmptyText.go_check.Goals as goal

pub returns : goal.returns
returns g c =
    let s = c.scalar_of.ensures in
    let r = rw (s.number, s.string, s.null, s.yes) at c.go_check.ensures.ran in
    record { ran = rw (s.is_yes, s.no, s.is_no) at r; lent = c.go_check.ensures.lent }
