use Rattle.exact.proofs.json.run_value.Goals as goal

pub returns : goal.returns
returns g c = record { ran = c.run_part.ensures.ran; as_wanted = c.run_part.ensures.as_wanted; lent = c.run_part.ensures.lent }
