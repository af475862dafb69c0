use Rattle.s_expression.proofs.pieces.comment.Goals as goal

pub returns : goal.returns
returns c = c.just.ensures
