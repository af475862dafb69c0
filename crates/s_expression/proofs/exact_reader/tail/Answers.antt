use Rattle.s_expression.proofs.exact_reader.tail.Goals as goal

pub returns : goal.returns
returns c = c.comment.ensures
