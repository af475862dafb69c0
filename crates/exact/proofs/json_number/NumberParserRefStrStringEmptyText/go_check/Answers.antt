use Rattle.exact.proofs.json_number.NumberParserRefStrStringEmptyText.go_check.Goals as goal

pub returns : goal.returns
returns c =
    let p = c.number_parser.ensures in
    let r = rw (p.minus, p.radix, p.point, p.fraction, p.exponent_alone) at c.go_check.ensures.ran in
    record { ran = rw (p.letter, p.sign, p.exponent, p.letter_alone, p.sign_alone) at r; lent = c.go_check.ensures.lent }
