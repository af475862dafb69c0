use Rattle.exact.proofs.json.MemberOfParserRefStrTuple2StringJsonEmptyText.go_check.Goals as goal

pub returns : goal.returns
returns g c =
    let m = c.member_of.ensures in
    record { ran = rw (m.name, m.colon, m.value) at c.go_check.ensures.ran; lent = c.go_check.ensures.lent }
