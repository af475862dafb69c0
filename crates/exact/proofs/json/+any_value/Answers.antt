use Rattle.exact.proofs.json.+any_value.Goals as goal

pub returns : goal.returns
returns t c = record { ran = c.run_value.ensures.ran; as_wanted = c.run_value.ensures.as_wanted; lent = c.run_value.ensures.lent }
