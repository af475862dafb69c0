use Rattle.guide.proofs.laws.never_back_under_a_higher_limit.Goals as goal

pub returns : goal.returns
returns g c b o y m = c.open_calls_never_go_back.ensures b o y (c.answers_stand_under_a_greater_limit.ensures b o y m)
