use Rattle.chumsky_group.proofs.laws.group_of_two_is_then.Goals as goal

pub returns : goal.returns
returns g c b o = (λ h. h, λ h. h)
