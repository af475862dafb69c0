use Rattle.s_expression.proofs.exact_reader.+any_expression.Goals as goal

pub returns : goal.returns
returns t c = record { ran = c.run_expression.ensures.ran; as_wanted = c.run_expression.ensures.as_wanted; lent = c.run_expression.ensures.lent }
