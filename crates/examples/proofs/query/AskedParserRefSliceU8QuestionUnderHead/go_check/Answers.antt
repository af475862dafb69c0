use Rattle.examples.proofs.query.AskedParserRefSliceU8QuestionUnderHead.go_check.Goals as goal

pub returns : goal.returns
returns c =
    let q = c.question_parser.ensures in
    record { ran = rw (q.least, q.most, q.zero) at c.go_check.ensures.ran; lent = c.go_check.ensures.lent }
