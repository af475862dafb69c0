use Rattle.s_expression.proofs.pieces.AtomParserRefStrExpressionEmptyText.go_check.Goals as goal

pub returns : goal.returns
returns c =
    let p = c.atom_parser.ensures in
    let r = rw (p.backslash, p.at_least, p.at_most) at c.go_check.ensures.ran in
    record { ran = rw (p.opening, p.closing) at r; lent = c.go_check.ensures.lent }
