use Rattle.s_expression.proofs.exact_reader.run_expression.Goals as goal

pub returns : goal.returns
returns g c = record { ran = c.run_part.ensures.ran; as_wanted = c.run_part.ensures.as_wanted; lent = c.run_part.ensures.lent }
