use Rattle.guide.proofs.laws.token_past.Goals as goal

pub returns : goal.returns
returns g c s = c.ignore_then_agrees_with_then.ensures s c.any_is_steady.ensures.steady
